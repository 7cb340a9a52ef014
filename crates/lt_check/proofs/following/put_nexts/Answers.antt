use Rattle.lt_check.specs.inner.JudgeView.{context_of, step_of}
use Rattle.lt_check.specs.inner.TermSet.{terms_of}
use Rattle.lt_check.proofs.FollowingFinds.{leaf_more}
use Rattle.lt_check.proofs.following.put_nexts.Goals as goal

pub loop-instant-preserved : goal.loop-instant-preserved
loop-instant-preserved c =
    leaf_more (context_of c.args.question.now) c.args.finder.now.unfolded (step_of c.args.question.now).locals.items (terms_of c.args.terms.now.keys) c.deref-instant-items.result.now c.loop-instant.instant-index (terms_of c.loop-instant.terms.keys) _ c.loop-instant-test.true c.loop-instant.invariant c.in_ok-put_next.ensures
