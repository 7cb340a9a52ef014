use Rattle.std.proofs.Common.{◌≡◌, ◌+◌, ◌*◌, drop, max}
use Rattle.lt_formula.specs.View.{table_kinds}
use Rattle.lt_parts.specs.Atoms.{is_crowded}
use Rattle.lt_parts.specs.Scenario.{has_constraint_anywhere}
use Rattle.lt_parts.specs.inner.Crowded.{HavePassed, choices_over}
use Rattle.lt_term.specs.declared.term.Term.{size-Term}
use Rattle.lt_parts.proofs.limit.+crowded.Given as goal

-- it is left to the parts that were not looked at, and marks tell what passed
abbrev pub invariant-is_any_crowded-loop-part : goal.invariant-is_any_crowded-loop-part
invariant-is_any_crowded-loop-part l = record {
  left :
      has_constraint_anywhere (is_crowded (table_kinds l.table)) (choices_over l.table l.parts.items)
      ≡ has_constraint_anywhere (is_crowded (table_kinds l.table)) (choices_over l.table (drop l.part-index l.part-items));
  passed : HavePassed l.table l.passed.items;
}

-- How deep the terms are. A function that is given two of them, or a list of them, is called for the parts of one.
abbrev pub decreases-is_anything_crowded : goal.decreases-is_anything_crowded
decreases-is_anything_crowded l = 2 * goal.size-is_anything_crowded l

abbrev pub decreases-is_any_crowded : goal.decreases-is_any_crowded
decreases-is_any_crowded l = 2 * goal.size-is_any_crowded l + 1

abbrev pub decreases-is_either_crowded : goal.decreases-is_either_crowded
decreases-is_either_crowded l = 2 * max (size-Term l.first.now) (size-Term l.second.now) + 1
