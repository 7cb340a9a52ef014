use Rattle.std.proofs.Common.{to_z, of_z, ap, ◌∙◌, ◌^◌, arith}
use Rattle.std.specs.Int.{w128}
use Rattle.std.proofs.lemmas.Int.{ints}
use Rattle.lt_num.specs.Answer.{bounded}
use Rattle.lt_num.proofs.AnswerLemmas.{product_kept}
use Rattle.lt_num.proofs.whole.product.Goals as goal

pub returns : goal.returns
returns c =
    c.within.ensures
    ∙ ap bounded (product_kept (to_z w128 (of_z w128 c.from.result)) (to_z w128 (of_z w128 c.from-2.result)) c.args.a.raw c.args.b.raw (2 ^ 63) (2 ^ 63) (omega (arith, ints)) (omega (arith, ints)) (omega (arith, ints)) (omega (arith, ints)) (omega arith))
