use Rattle.std.proofs.Common.{arith}
use Rattle.lt_check.proofs.Choices.{pushed_more, pushed_none, pushed_not}
use Rattle.lt_check.proofs.choice.push_parts.Goals as goal
use Rattle.lt_check.proofs.choice.push_parts.Goals.{then-weight-gt0+in_ok-part+in_ok-push, else-weight-gt0}

pub loop-number-init : goal.loop-number-init
loop-number-init c =
    pushed_none c.args.unfolded.now c.args.choice c.requires.within c.args.trees.now.items c.args.weights.now c.requires.count c.requires.trees

pub loop-number-preserved : goal.loop-number-preserved
loop-number-preserved c =
    let start = c.args.unfolded.now in
    let choice = c.args.choice in
    let old = c.args.trees.now.items in
    let vs = c.args.weights.now in
    let i = c.loop-number.number in
    elim c.if-weight-gt0.branch [
      | then-weight-gt0+in_ok-part+in_ok-push w ↦
          rw (w.unfolded-is, w.trees-is)
          (pushed_more start choice c.requires.within old vs c.requires.count i c.loop-number-test.true c.loop-number.unfolded c.loop-number.trees.items c.loop-number.invariant w.part.new.self w.in_ok-part.ensures.grows w.push.new.self.items w.in_ok-part.part w.if-weight-gt0.true w.in_ok-part.ensures.within w.in_ok-push.ensures.items w.in_ok-part.ensures.tree)
      | else-weight-gt0 w ↦
          rw (w.unfolded-is, w.trees-is)
          (pushed_not start choice c.requires.within old vs c.requires.count i c.loop-number-test.true c.loop-number.unfolded c.loop-number.trees.items c.loop-number.invariant (omega (arith, w.if-weight-gt0.false)))
    ]
