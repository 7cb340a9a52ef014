-- The run is driven over the link that is in the controller's side.
use Rattle.lt_session.proofs.driving.drive_sides.Goals as goal

pub returns-in-Recorded-clause-driven : goal.returns-in-Recorded-clause-driven
returns-in-Recorded-clause-driven g c = λ u ahead. rw c.in-Recorded.is (c.drive_beside.ensures.driven u ahead)

pub returns-in-Program-clause-driven : goal.returns-in-Program-clause-driven
returns-in-Program-clause-driven g c = λ u ahead. rw c.in-Program.is (c.drive_beside-in-Program.ensures.driven u ahead)
