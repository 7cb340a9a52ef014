use Rattle.std.proofs.Common.{◌∙◌, arith, pos}
use Rattle.lt_need.proofs.Points.{product_more}
use Rattle.lt_need.proofs.product.times_points.Goals as goal

pub loop-variable-preserved : goal.loop-variable-preserved
loop-variable-preserved c = record {
  whole = c.loop-variable.invariant.whole
      ∙ product_more c.args.marks.now c.args.ranges.now c.loop-variable.variable c.loop-variable.product c.points_in-points.result c.times-product.result (record { low = pos 0; high = pos 0; step = pos 0 }) c.is_marked.result
      (omega arith) c.is_marked.ensures c.points_in-points.ensures c.times-product.ensures;
  most = omega (arith, c.times-product.ensures);
}
