use Rattle.lt_term.specs.Process.{loop}
use Rattle.lt_term.specs.Tree.{leaf, nothing}
use Rattle.lt_marks.specs.View.{body}
use Rattle.lt_marks.proofs.extents.loop_tally.Goals as goal

pub returns : goal.returns
returns c = λ k. c.either.ensures _ _ (c.followed.ensures (loop (body c.args.again.now.value)) (leaf nothing) _ (c.part_tally.ensures k) c.one_other.ensures.nothing) c.one_vanish.ensures
