-- Parts of a tree while it is built.
use Rattle.std.specs.Prelude.{◌≡◌, ℕ, suc, List, [], ◌∷◌, Option, None, Some}
use Rattle.lt_ast.specs.Syntax as s
use Rattle.lt_ast.specs.Syntax.{Limits}
use Rattle.lt_macros.specs.Expanded as x
use Rattle.lt_macros.specs.Expanded.{Bounds, Declared, Expanded, Parts}
use Rattle.lt_macros.specs.Denotation.{Numbers, ExpandedTrace, ExpandedParts, behind_counter, behind_term}
use Rattle.lt_macros.specs.inner.Numbers.{numbers_view}
use Rattle.lt_macros.specs.Tree.{expanded, parts, placed}
use Rattle.lt_macros.specs.declared.build.ExpandedTrace as code
use Rattle.lt_macros.specs.declared.build.ExpandedParts as code_parts
use Rattle.lt_macros.specs.declared.build.TwoTraces.{TwoTraces}
use Rattle.lt_macros.specs.declared.tree.Part.{Part}

-- a trace, and the numbers behind it
abbrev pub numbered : code.ExpandedTrace → ExpandedTrace
numbered b = record { expanded = expanded b.expanded.value; after = numbers_view b.after }

-- alternatives, and the numbers behind them
abbrev pub numbered_parts : code_parts.ExpandedParts → ExpandedParts
numbered_parts b = record { parts = parts b.parts; after = numbers_view b.after }

-- two traces in one, and the numbers behind it
abbrev pub in_two : (Expanded → Expanded → Expanded) → TwoTraces → ExpandedTrace
in_two f t = record { expanded = f (expanded t.first.value) (expanded t.second.value); after = numbers_view t.after }

-- Two traces are built: the first is this one, and the second is numbered behind it.
pub record AreBuilt (t : TwoTraces) (first : ExpandedTrace) (second : Numbers → ExpandedTrace) : Type 0 where
  pub first_is : expanded t.first.value ≡ first.expanded
  pub second_is : expanded t.second.value ≡ (second first.after).expanded
  pub after_is : numbers_view t.after ≡ (second first.after).after

-- the numbers inside a loop
abbrev pub behind_turns : Limits → Numbers → Numbers
behind_turns s.forever n = behind_term n
behind_turns (s.between d e) n = behind_counter n
behind_turns (s.around d e) n = behind_counter n

-- a trace over and over, with bounds and a counter of this number where it is counted
abbrev pub looped : Option Bounds → ℕ → Expanded → Expanded
looped None i inside = x.loop inside
looped (Some b) i inside = x.count i b inside

-- a trace with locals of these declarations, the first of which has this number, each inside the one before
abbrev pub in_all : ℕ → List Declared → Expanded → Expanded
in_all i [] inside = inside
in_all i (d ∷ ds) inside = x.exist i d (in_all (suc i) ds inside)

-- alternatives before others
abbrev pub items_onto : List Part → Parts → Parts
items_onto [] rest = rest
items_onto (p ∷ ps) rest = x.part (placed p.weight) (expanded p.body.value) (items_onto ps rest)

-- alternatives before others, which are numbered behind them
abbrev pub parts_onto : List Part → ExpandedParts → ExpandedParts
parts_onto ps rest = record { parts = items_onto ps rest.parts; after = rest.after }
