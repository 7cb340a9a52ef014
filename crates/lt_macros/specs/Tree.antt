-- The tree that a value of the code stands for.
use Rattle.std.specs.Prelude.{map, option_map, string_bytes}
use Rattle.lt_macros.specs.Placed as p
use Rattle.lt_macros.specs.Expanded as x
use Rattle.lt_macros.specs.declared.tree.Placed.{Placed}
use Rattle.lt_macros.specs.declared.tree.Placed.TheVariants.{Constant, Variable, Previous, Unary', Binary', Choice'}
use Rattle.lt_macros.specs.declared.tree.Declared.{Declared}
use Rattle.lt_macros.specs.declared.tree.Exception.{Exception}
use Rattle.lt_macros.specs.declared.tree.Bounds.{Bounds}
use Rattle.lt_macros.specs.declared.tree.Bounds.TheVariants.{Between, Around}
use Rattle.lt_macros.specs.declared.tree.Expanded.{Expanded}
use Rattle.lt_macros.specs.declared.tree.Expanded.TheVariants as e
use Rattle.lt_macros.specs.declared.tree.Parts.{Parts, Parts', Row_of-Part, end_of-Part, more_of-Part}
use Rattle.lt_macros.specs.declared.tree.Call.{Call}
use Rattle.lt_macros.specs.declared.tree.Node.{Node}

-- an expression and its place
abbrev pub placed : Placed → p.Placed
placed (Constant k v at) = p.constant k v at
placed (Variable r i at) = p.variable r i at
placed (Previous r i at) = p.previous r i at
placed (Unary' op q e at) = p.unary op (placed e) at
placed (Binary' op q d r e at) = p.binary op (placed d) (placed e) at
placed (Choice' q c r d s e at) = p.choice (placed c) (placed d) (placed e) at

-- a variable as it is declared
abbrev pub declared : Declared → x.Declared
declared d = record { name = string_bytes d.name; kind = d.kind; range = d.range; first = option_map placed d.first }

-- an exception as it is declared
abbrev pub exception : Exception → x.Exception
exception z = record { name = string_bytes z.name; place = z.place; terms_before = z.terms_before }

-- how often a counted loop turns
abbrev pub bounds : Bounds → x.Bounds
bounds (Between d e) = x.between (placed d) (placed e)
bounds (Around d e) = x.around (placed d) (placed e)

abbrev mutual
  -- a trace
  pub expanded : Expanded → x.Expanded
  expanded e.Eps = x.eps
  expanded e.Dead = x.dead
  expanded (e.Con c) = x.con (placed c)
  expanded (e.Raise z) = x.raise (exception z)
  expanded (e.Seq' p a q b) = x.seq (expanded a) (expanded b)
  expanded (e.Loop' p a) = x.loop (expanded a)
  expanded (e.Count' i b p a) = x.count i (bounds b.value) (expanded a)
  expanded (e.Any ps) = x.any (parts ps)
  expanded (e.Pri' p a q b) = x.pri (expanded a) (expanded b)
  expanded (e.Par' p a q b) = x.par (expanded a) (expanded b)
  expanded (e.Assert' c p a) = x.assert (placed c) (expanded a)
  expanded (e.Exist' i d p a) = x.exist i (declared d.value) (expanded a)
  expanded (e.Catch' z p a q b) = x.catch (exception z) (expanded a) (expanded b)
  expanded (e.Try' p a q b) = x.try (expanded a) (expanded b)

  -- traces to choose from
  pub parts : Parts → x.Parts
  parts (Parts' shape row) = part_row row

  -- alternatives
  pub part_row : {m : _} → Row_of-Part m → x.Parts
  part_row end_of-Part = x.no_part
  part_row (more_of-Part w p a rest) = x.part (placed w) (expanded a) (part_row rest)

-- a run of a node
abbrev pub call : Call → x.Call
call c = record {
  node = string_bytes c.node;
  arguments = map placed c.arguments.items;
  names = map declared c.names.items;
}

-- a node
abbrev pub node : Node → x.Node
node n = record {
  name = string_bytes n.name;
  inputs = map declared n.inputs.items;
  outputs = map declared n.outputs.items;
  calls = map call n.calls.items;
  body = expanded n.body;
}
