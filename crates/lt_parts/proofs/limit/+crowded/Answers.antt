use Rattle.std.proofs.Common.{◌≡◌, ◌∙◌, ℕ, ap, rules, subst, sym}
use Rattle.lt_formula.specs.Table.{spelled}
use Rattle.lt_formula.specs.View.{table_expressions, table_kinds, table_len}
use Rattle.lt_parts.specs.Atoms.{is_crowded}
use Rattle.lt_parts.specs.Scenario.{has_constraint, has_constraint_anywhere}
use Rattle.lt_parts.specs.inner.Crowded.{choices_over}
use Rattle.lt_parts.specs.inner.Numbered.{AreConstraintsBelow}
use Rattle.lt_parts.proofs.Limits.{any_below}
use Rattle.lt_parts.proofs.Numbers.{if_ok}
use Rattle.lt_term.specs.Process.{Process, with_constraints}
use Rattle.lt_term.specs.View.{process, process_over}
use Rattle.lt_term.specs.declared.term.Term.TheFolds
use Rattle.lt_term.proofs.Public.{process_any}
use Rattle.lt_parts.proofs.limit.+crowded.Goals as goal

pub is_anything_crowded-is_any_crowded-requires : goal.is_anything_crowded-is_any_crowded-requires
is_anything_crowded-is_any_crowded-requires t c =
    let n = table_len c.args.table.now in
    let P : Process ℕ → Type 0 = AreConstraintsBelow n in
    (search (rules, TheFolds.the_lemmas), (any_below n c.in-Any.parts (subst P (ap process c.in-Any.is) c.requires.below), c.requires.passed))

pub is_anything_crowded-returns-in-Any : goal.is_anything_crowded-returns-in-Any
is_anything_crowded-returns-in-Any t c =
    let table = c.args.table.now in
    let crowded = is_crowded (table_kinds table) in
    let same : has_constraint_anywhere crowded (choices_over table c.in-Any.parts.items) ≡ has_constraint crowded (process_over table c.args.term.now) =
    sym (ap (λ p. has_constraint crowded (with_constraints (spelled (table_expressions table)) p)) (ap process c.in-Any.is ∙ process_any c.in-Any.parts)) in
    record { passed = c.is_any_crowded.ensures.passed; crowded = if_ok c.is_any_crowded.result _ _ (λ many h. h ∙ same) c.is_any_crowded.ensures.crowded }
