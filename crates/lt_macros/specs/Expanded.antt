-- What a node stands for: a tree without macros, in which locals, counters and exceptions have numbers, and expressions their
-- places in the text.
use Rattle.std.specs.Prelude.{ℕ, List, ◌++◌}
use Rattle.std.specs.List.{flat_map}
use Rattle.std.specs.declared.option.Option.{Option}
use Rattle.lt_num.specs.declared.kind.Kind.{Kind}
use Rattle.lt_num.specs.declared.range.Range.{Range}
use Rattle.lt_macros.specs.Placed.{Placed}

-- a variable as it is declared: its name in the text, its kind, the raw numbers of its values, and its first value
pub record Declared : Type 0 where
  pub name : List ℕ
  pub kind : Kind
  pub range : Range
  pub first : Option Placed

-- An exception as it is declared: its name, the byte of the text at which it is declared, and how many terms of the expansion
-- stand before that. No two declarations that are visible at once share both: where no term stands between two expansions of one
-- declaration, nothing that sees the first is left.
pub record Exception : Type 0 where
  pub name : List ℕ
  pub place : ℕ
  pub terms_before : ℕ

-- how often a counted loop turns: between two numbers, or around an average with a deviation
pub data Bounds : Type 0 where
  between : Placed → Placed → Bounds
  around : Placed → Placed → Bounds

mutual
  -- a trace
  pub data Expanded : Type 0 where
    -- nothing
    eps : Expanded
    -- a deadlock
    dead : Expanded
    -- one instant in which the constraint holds
    con : Placed → Expanded
    -- an exception is raised
    raise : Exception → Expanded
    -- the first, and then the second
    seq : Expanded → Expanded → Expanded
    -- the same over and over
    loop : Expanded → Expanded
    -- the same for each turn of a counter, which has this number
    count : ℕ → Bounds → Expanded → Expanded
    -- one of these, by weight
    any : Parts → Expanded
    -- the first, or the second where nothing can be done in the first
    pri : Expanded → Expanded → Expanded
    -- both at once
    par : Expanded → Expanded → Expanded
    -- a constraint that holds in each instant
    assert : Placed → Expanded → Expanded
    -- a local variable, which has this number
    exist : ℕ → Declared → Expanded → Expanded
    -- the second in place of the first's rest once the first raises the exception
    catch : Exception → Expanded → Expanded → Expanded
    -- the second in place of the first's rest once nothing can be done in the first
    try : Expanded → Expanded → Expanded

  -- traces to choose from, each behind its weight
  pub data Parts : Type 0 where
    no_part : Parts
    part : Placed → Expanded → Parts → Parts

-- a run of a node: which node, what it is given, and the inputs that its outputs become
pub record Call : Type 0 where
  pub node : List ℕ
  pub arguments : List Placed
  pub names : List Declared

-- a node: its name, its variables, the nodes that it runs, and what it does
pub record Node : Type 0 where
  pub name : List ℕ
  pub inputs : List Declared
  pub outputs : List Declared
  pub calls : List Call
  pub body : Expanded

-- the inputs of a node that its runs give
abbrev pub given_inputs : Node → List Declared
given_inputs node = flat_map (λ c. c.names) node.calls

-- the inputs of a node: its own, and then those that runs give
abbrev pub all_inputs : Node → List Declared
all_inputs node = node.inputs ++ given_inputs node
