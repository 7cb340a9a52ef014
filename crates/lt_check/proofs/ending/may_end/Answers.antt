use Rattle.std.proofs.Common.{◌≡◌, ◌∙◌, false, sym}
use Rattle.lt_term.specs.View.{process}
use Rattle.lt_check.specs.declared.looking.Look.{Look}
use Rattle.lt_check.specs.inner.MomentView.{IsEndingHalt, is_large}
use Rattle.lt_check.proofs.EndingLooks.{end_halt_is, ends_is}
use Rattle.lt_check.proofs.FollowingLooks.{IsLookAt, passed_on}
use Rattle.lt_check.proofs.ending.may_end.Goals as goal

pub returns-in_err-may_end-clause-halts : goal.returns-in_err-may_end-clause-halts
returns-in_err-may_end-clause-halts c =
    let m = c.args.moment.now in
    let term = c.args.term.now in
    let look : Look = c.in_ok-look.look in
    let told = c.in_ok-look.ensures in
    let small : is_large m (process term) ≡ false = sym c.in_ok-is_too_large.ensures ∙ c.if-branch.false in
    let at : IsLookAt m term look = record { scenario = told.scenario; past = told.past; inputs = told.inputs; budget = told.budget; term_is = told.term } in
    let failed = c.in_err-may_end in
    let halts = end_halt_is m term look at small c.args.end failed.field-0.0 failed.ensures.halts in
    passed_on c.from_residual-in_err-may_end.result failed.field-0.0 (IsEndingHalt m (process term) c.args.end) c.from_residual-in_err-may_end.ensures.1 halts

pub returns-clause-tells : goal.returns-clause-tells
returns-clause-tells c =
    let m = c.args.moment.now in
    let term = c.args.term.now in
    let look : Look = c.in_ok-look.look in
    let told = c.in_ok-look.ensures in
    let small : is_large m (process term) ≡ false = sym c.in_ok-is_too_large.ensures ∙ c.if-branch.false in
    let at : IsLookAt m term look = record { scenario = told.scenario; past = told.past; inputs = told.inputs; budget = told.budget; term_is = told.term } in
    c.in_ok-may_end.ensures.tells ∙ ends_is m term look at small c.args.end
