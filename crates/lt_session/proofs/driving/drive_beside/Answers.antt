-- The run is driven over the link that is in the oracle's side.
use Rattle.lt_loop.specs.CoreView.{core_state}
use Rattle.lt_drive.proofs.Ahead.{some_ahead}
use Rattle.lt_session.proofs.Drives.{plan_kept}
use Rattle.lt_session.proofs.driving.drive_beside.Goals as goal

pub returns-in-Recorded-clause-driven : goal.returns-in-Recorded-clause-driven
returns-in-Recorded-clause-driven g c = λ u ahead. rw c.in-Recorded.is (c.drive.ensures.driven u ahead)

pub returns-in-Program-clause-driven : goal.returns-in-Program-clause-driven
returns-in-Program-clause-driven g c = λ u ahead. rw c.in-Program.is (c.drive-in-Program.ensures.driven u ahead)

pub returns-in-Recorded-clause-plan : goal.returns-in-Recorded-clause-plan
returns-in-Recorded-clause-plan g c =
    let u = some_ahead (core_state {b = g.M.Machine} c.drive.new.core) in
    plan_kept _ _ _ _ _ (c.drive.ensures.driven u.0 u.1)

pub returns-in-Program-clause-plan : goal.returns-in-Program-clause-plan
returns-in-Program-clause-plan g c =
    let u = some_ahead (core_state {b = g.M.Machine} c.drive-in-Program.new.core) in
    plan_kept _ _ _ _ _ (c.drive-in-Program.ensures.driven u.0 u.1)
