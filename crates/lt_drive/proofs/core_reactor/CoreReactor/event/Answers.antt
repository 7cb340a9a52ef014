use Rattle.std.proofs.Common.{subst}
use Rattle.std.specs.declared.option.Option.{Option}
use Rattle.lt_loop.specs.CoreState.{PutsOut, core_giving_up}
use Rattle.lt_loop.specs.CoreView.{core_state, last_text}
use Rattle.lt_loop.specs.Event.{play_due, told}
use Rattle.lt_loop.specs.declared.event.PieceKind.{PieceKind}
use Rattle.lt_drive.proofs.Ahead.{some_ahead}
use Rattle.lt_drive.proofs.Sides.{asked_where_put}
use Rattle.lt_drive.proofs.core_reactor.CoreReactor.event.Goals as goal

pub returns-clause-sides : goal.returns-clause-sides
returns-clause-sides g c = λ w kind is goes.
    let u = some_ahead (core_state {b = g.M.Machine} c.event.new.self) in
    let s = core_giving_up u.0 (core_state {b = g.M.Machine} c.args.self.now) in
    let new = core_giving_up u.0 (core_state {b = g.M.Machine} c.event.new.self) in
    let text = last_text {b = g.M.Machine} c.event.new.self in
    let taken = c.event.result.taken in
    let out = subst (λ (p : Option PieceKind). PutsOut (play_due (told c.args.event) taken s) p text new) is (c.event.ensures.out u.0 u.1) in
    asked_where_put s new (told c.args.event) taken kind text w out goes
