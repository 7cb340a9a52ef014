use Rattle.std.proofs.Common.{arith}
use Rattle.std.proofs.lemmas.Grind.{common_steps}
use Rattle.lt_types.proofs.Leading.{leads_in_ranges}
use Rattle.lt_types.proofs.intervals.check_ends.Goals as goal

pub returns-in_err-check_end_kind : goal.returns-in_err-check_end_kind
returns-in_err-check_end_kind c = grind (arith, leads_in_ranges)

pub returns-in_err-check_end_kind-2 : goal.returns-in_err-check_end_kind-2
returns-in_err-check_end_kind-2 c = grind (arith, leads_in_ranges)

pub returns-in_err-low : goal.returns-in_err-low
returns-in_err-low c = grind (arith, leads_in_ranges)

pub returns-in_err-high : goal.returns-in_err-high
returns-in_err-high c = grind (arith, leads_in_ranges)

pub returns-in_err-check_step_kind : goal.returns-in_err-check_step_kind
returns-in_err-check_step_kind c = grind (arith, leads_in_ranges)

pub returns-in_err-number-in-Some : goal.returns-in_err-number-in-Some
returns-in_err-number-in-Some c = grind (arith, leads_in_ranges)

pub returns-in_err-check_order-in-Some : goal.returns-in_err-check_order-in-Some
returns-in_err-check_order-in-Some c = grind (arith, common_steps, leads_in_ranges)
