-- The syntax that a value of the code stands for.
use Rattle.std.specs.Prelude.{List, Option, Some, None, map}
use Rattle.lt_ast.specs.Letters.{letters}
use Rattle.lt_ast.specs.Syntax as s
use Rattle.lt_ast.specs.Syntax.{Word, Figure, WrittenRange, Exp, Argument, Arguments, Limits, Braces, Alternative, Alternatives, Trace, Traces, Grouping, Groupings, MaybeExp, MaybeTrace, Parameters, Meaning, Macro, Run, Declaration}
use Rattle.lt_ast.specs.declared.name.Name.{Name}
use Rattle.lt_ast.specs.declared.name.Names.{Names}
use Rattle.lt_ast.specs.declared.name.Literal.{Literal}
use Rattle.lt_ast.specs.declared.expr.Expr.{Expr, Held-Expr-Named-1, Expr-Named-1-None', Expr-Named-1-Some', Row_of-Arg, end_of-Arg, more_of-Arg}
use Rattle.lt_ast.specs.declared.expr.Expr.TheVariants.{Number, Flag, Named', Pre, Paren', Unary', Binary', If'}
use Rattle.lt_ast.specs.declared.expr.Arg.{Arg}
use Rattle.lt_ast.specs.declared.expr.Arg.TheVariants as arg
use Rattle.lt_ast.specs.declared.trace.Bounds.{Bounds}
use Rattle.lt_ast.specs.declared.trace.Bounds.TheVariants.{Forever, Between', Around'}
use Rattle.lt_ast.specs.declared.trace.Braced.{Braced}
use Rattle.lt_ast.specs.declared.trace.Braced.TheVariants.{Plain', Choice, Priority', Parallel'}
use Rattle.lt_ast.specs.declared.trace.Parts.{Parts, Parts', Row_of-Part, end_of-Part, more_of-Part, Held-Group-first, Group-first-None', Group-first-Some'}
use Rattle.lt_ast.specs.declared.group.Range.{Range}
use Rattle.lt_ast.specs.declared.group.Groups.{Groups, Groups', Row_of-Group, end_of-Group, more_of-Group}
use Rattle.lt_ast.specs.declared.trace.MacroDecl.{MacroDecl, MacroDecl', Held-MacroDecl-params, MacroDecl-params-None', MacroDecl-params-Some'}
use Rattle.lt_ast.specs.declared.trace.Body.{Body}
use Rattle.lt_ast.specs.declared.trace.Body.TheVariants as body
use Rattle.lt_ast.specs.declared.trace.TraceExpr.{TraceExpr, Row_of-TraceExpr, end_of-TraceExpr, more_of-TraceExpr, Held-TraceExpr-Catch-2, TraceExpr-Catch-2-None', TraceExpr-Catch-2-Some'}
use Rattle.lt_ast.specs.declared.trace.TraceExpr.TheVariants.{Seq', Braces as Braces', Loop', Raise, Assert', Exist', Let', Exceptions', Catch', Trap', Try', Value}
use Rattle.lt_ast.specs.declared.program.Decl.{Decl}
use Rattle.lt_ast.specs.declared.program.Decl.TheVariants as decl
use Rattle.lt_ast.specs.declared.program.Program.{Program}
use Rattle.lt_ast.specs.declared.program.RunDecl.{RunDecl}

-- a name
abbrev pub word : Name → Word
word n = record { text = letters n.text; span = n.span }

-- names
abbrev pub words : Names → List Word
words ns = map word ns.items.items

-- a number
abbrev pub figure : Literal → Figure
figure l = record { minus = l.minus; text = letters l.text; span = l.span }

-- a step, where there is one
abbrev pub written_step : Option Literal → Option Figure
written_step None = None
written_step (Some l) = Some (figure l)

-- a range, where there is one
abbrev pub written_range : Option Range → Option WrittenRange
written_range None = None
written_range (Some r) = Some (record { low = figure r.low; high = figure r.high; step = written_step r.step })

abbrev mutual
  -- an expression
  pub exp : Expr → Exp
  exp (Number l) = s.number (figure l)
  exp (Flag b at) = s.flag b at
  exp (Named' n args) = named_exp n args
  exp (Pre n at) = s.pre (word n) at
  exp (Paren' p e at) = s.paren (exp e) at
  exp (Unary' op p e at) = s.unary op (exp e) at
  exp (Binary' op p a b at) = s.binary op (exp a) (exp b) at
  exp (If' p a q b r c at) = s.choose (exp a) (exp b) (exp c) at

  -- a name, with its arguments where it has a list of them
  pub named_exp : Name → Held-Expr-Named-1 → Exp
  named_exp n Expr-Named-1-None' = s.named (word n)
  named_exp n (Expr-Named-1-Some' p shape args) = s.called (word n) (argument_row args)

  -- arguments
  pub argument_row : {m : _} → Row_of-Arg m → Arguments
  argument_row end_of-Arg = s.no_arguments
  argument_row (more_of-Arg a rest) = s.argument (argument a) (argument_row rest)

  -- an argument
  pub argument : Arg → Argument
  argument (arg.Value e) = s.value_argument (exp e)
  argument (arg.Trace b at) = s.trace_argument (braced b) at

  -- the bounds of a loop
  pub limits : Bounds → Limits
  limits Forever = s.forever
  limits (Between' p a b) = s.between (exp a) (exp b)
  limits (Around' p a b) = s.around (exp a) (exp b)

  -- what stands in braces
  pub braced : Braced → Braces
  braced (Plain' p t) = s.plain (trace t)
  braced (Choice lead parts) = s.choice lead (alternatives parts)
  braced (Priority' lead shape row) = s.priority lead (trace_row row)
  braced (Parallel' lead shape row) = s.parallel lead (trace_row row)

  -- the alternatives of a choice
  pub alternatives : Parts → Alternatives
  alternatives (Parts' shape row) = part_row row

  -- alternatives
  pub part_row : {m : _} → Row_of-Part m → Alternatives
  part_row end_of-Part = s.no_alternatives
  part_row (more_of-Part w t rest) = s.alternative (alternative w (trace t)) (part_row rest)

  -- an alternative, with its weight where it has one
  pub alternative : Held-Group-first → Trace → Alternative
  alternative Group-first-None' t = s.unweighted t
  alternative (Group-first-Some' e) t = s.weighted (exp e) t

  -- traces
  pub trace_row : {m : _} → Row_of-TraceExpr m → Traces
  trace_row end_of-TraceExpr = s.no_traces
  trace_row (more_of-TraceExpr t rest) = s.one_trace (trace t) (trace_row rest)

  -- groups
  pub groupings : Groups → Groupings
  groupings (Groups' shape row) = group_row row

  -- the groups of a list
  pub group_row : {m : _} → Row_of-Group m → Groupings
  group_row end_of-Group = s.no_groups
  group_row (more_of-Group names kind by_ref range first rest) = s.one_group (s.grouping (words names) kind by_ref (written_range range) (maybe_exp first)) (group_row rest)

  -- an expression, where there is one
  pub maybe_exp : Held-Group-first → MaybeExp
  maybe_exp Group-first-None' = s.no_exp
  maybe_exp (Group-first-Some' e) = s.an_exp (exp e)

  -- a trace, where there is one
  pub maybe_trace : Held-TraceExpr-Catch-2 → MaybeTrace
  maybe_trace TraceExpr-Catch-2-None' = s.no_trace
  maybe_trace (TraceExpr-Catch-2-Some' p t) = s.a_trace (trace t)

  -- parameters, where there is a list of them
  pub parameters : Held-MacroDecl-params → Parameters
  parameters MacroDecl-params-None' = s.no_parameters
  parameters (MacroDecl-params-Some' gs) = s.parameters (groupings gs)

  -- what a macro stands for
  pub meaning : Body → Meaning
  meaning (body.Trace t) = s.trace_meaning (trace t)
  meaning (body.Value e) = s.value_meaning (exp e)

  -- a macro
  pub macro : MacroDecl → Macro
  macro (MacroDecl' n ps kind b) = s.macro (word n) (parameters ps) kind (meaning b)

  -- a trace
  pub trace : TraceExpr → Trace
  trace (Seq' shape row) = s.sequence (trace_row row)
  trace (Braces' b at) = s.braces (braced b) at
  trace (Loop' l p t) = s.loop (limits l) (trace t)
  trace (Raise n) = s.raise (word n)
  trace (Assert' e p t) = s.assert (exp e) (trace t)
  trace (Exist' gs p t) = s.exist (groupings gs) (trace t)
  trace (Let' p d q t) = s.define (macro d) (trace t)
  trace (Exceptions' ns p t) = s.exceptions (words ns) (trace t)
  trace (Catch' n p t h) = s.catch (word n) (trace t) (maybe_trace h)
  trace (Trap' n p t h) = s.trap (word n) (trace t) (maybe_trace h)
  trace (Try' p t h) = s.try (trace t) (maybe_trace h)
  trace (Value e) = s.value (exp e)

-- a run of a node
abbrev pub run : RunDecl → Run
run r = record {
  names = words r.names;
  node = word r.node;
  arguments = map exp r.arguments.items;
  span = r.span;
}

-- a declaration
abbrev pub declaration : Decl → Declaration
declaration (decl.Node n) =
    s.node (word n.name) (groupings n.inputs) (groupings n.outputs) (map run n.runs.items)
    (trace n.body)
declaration (decl.Macro m) = s.macro_declaration (macro m)
declaration (decl.Exceptions ns) = s.exception_declaration (words ns)

-- a program
abbrev pub program : Program → List Declaration
program p = map declaration p.decls.items
