use Rattle.std.proofs.Common.{◌≡◌, subst}
use Rattle.std.specs.Result.{IfOk}
use Rattle.lt_formula.specs.Kinds.{Kinds}
use Rattle.lt_parts.specs.Atoms.{is_crowded}
use Rattle.lt_parts.specs.Scenario.{has_constraint}
use Rattle.lt_parts.proofs.Limits.{scenario_below, table_kinds_viewed}
use Rattle.lt_term.specs.View.{process_over}
use Rattle.lt_parts.proofs.limit.has_too_many_atoms.Goals as goal

pub is_anything_crowded-requires-clause-below : goal.is_anything_crowded-requires-clause-below
is_anything_crowded-requires-clause-below c = scenario_below c.args.scenario.now

pub returns : goal.returns
returns c =
    let s = c.args.scenario.now in
    subst (λ (kinds : Kinds). IfOk c.is_anything_crowded.result (λ many. many ≡ has_constraint (is_crowded kinds) (process_over s.table s.body)))
    (table_kinds_viewed s) c.is_anything_crowded.ensures.crowded
