use Rattle.std.proofs.Common.{suc, []}
use Rattle.lt_term.specs.Process.{count}
use Rattle.lt_term.specs.Tree.{branch, leaf, more, no_branch, nothing, stop, vanish}
use Rattle.lt_marks.specs.View.{body}
use Rattle.lt_marks.proofs.extents.count_tally.Goals as goal

pub returns : goal.returns
returns c = λ i done k. c.with_part.ensures (more i done) [] _ (branch (stop i done) (leaf vanish) no_branch)
    (c.followed-turn.ensures (count i (suc done) (body c.args.again.now.value)) (leaf nothing) _ (c.part_tally.ensures k) c.one_other.ensures.nothing)
    (c.with_part-end.ensures (stop i done) [] (leaf vanish) no_branch c.one_vanish.ensures (c.one_other-2.ensures.none []))
