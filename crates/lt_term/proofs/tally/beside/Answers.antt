use Rattle.lt_term.proofs.Tallies.{beside_weighs}
use Rattle.lt_term.proofs.tally.beside.Goals as goal

pub returns : goal.returns
returns c =
    beside_weighs c.args.first c.args.second c.in_ok-all.all c.sum.result c.product.result c.sum-2.result c.product-2.result c.sum-3.result
    c.sum.ensures c.product.ensures c.sum-2.ensures c.product-2.ensures c.sum-3.ensures c.in_ok-all.ensures
