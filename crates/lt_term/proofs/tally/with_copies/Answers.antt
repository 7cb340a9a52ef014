use Rattle.lt_term.proofs.Tallies.{copies_weigh}
use Rattle.lt_term.proofs.tally.with_copies.Goals as goal

pub returns : goal.returns
returns c =
    copies_weigh c.args.rest c.args.part.now (record { others = c.sum.result; vanishes = c.sum-2.result; goes = c.sum-3.result; raises = c.in_ok-raises.raises }) c.args.copies c.product.result c.product-2.result c.product-3.result
    c.product.ensures c.sum.ensures c.product-2.ensures c.sum-2.ensures c.product-3.ensures c.sum-3.ensures c.in_ok-raises.ensures
