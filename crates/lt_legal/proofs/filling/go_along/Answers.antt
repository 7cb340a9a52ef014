use Rattle.std.proofs.Common.{◌∙◌}
use Rattle.lt_legal.proofs.Tables.{along_more}
use Rattle.lt_legal.proofs.filling.go_along.Goals as goal

pub loop-weight-preserved : goal.loop-weight-preserved
loop-weight-preserved c =
    c.loop-weight.invariant
    ∙ along_more c.args.weights.now c.loop-weight.weight-index c.args.behind.now c.loop-weight.all c.find_at-part.result c.joined-all.result c.loop-weight-test.true c.find_at-part.ensures c.joined-all.ensures
