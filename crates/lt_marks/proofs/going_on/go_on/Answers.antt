use Rattle.lt_marks.proofs.Tallies.{whole_stays}
use Rattle.lt_marks.proofs.going_on.go_on.Goals as goal

pub settle-requires-clause-whole : goal.settle-requires-clause-whole
settle-requires-clause-whole c = whole_stays _ _ c.step.ensures.whole c.step.ensures.same_body c.requires
