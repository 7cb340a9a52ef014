use Rattle.std.proofs.Common.{◌≡◌, ◌+◌, ◌*◌, ◌++◌, ◌∷◌, [], refl, ap, sym, ◌∙◌, append_assoc, arith}
use Rattle.lt_term.specs.Offers.{offers_of, offers_of_each}
use Rattle.lt_term.specs.Size.{capped, tree_weight}
use Rattle.lt_walk.specs.inner.Spot.{weights_before}
use Rattle.lt_marks.specs.View.{body, choices_of}
use Rattle.lt_walk.proofs.weighing.+before.Goals as goal

pub returns-in-Part-clause-puts : goal.returns-in-Part-clause-puts
returns-in-Part-clause-puts t c = λ kinds w n k e.
    let m = tree_weight w (offers_of kinds (body c.in-Part.part.value)) in
    let sum : n + 1 * m ≡ n + m = omega arith in
    let next = c.joined.ensures.is n 1 m e refl (c.weigh-first.ensures.is kinds w k) ∙ ap capped sum in
    c.put_before.ensures.puts kinds w (n + m) k next
    ∙ ap (λ ns. ns ++ weights_before w (n + m) (offers_of_each kinds (choices_of c.deref.result.now))) c.push_reserved.ensures.items
    ∙ append_assoc c.args.before.now.items (c.args.nodes ∷ []) _
    ∙ (λ i. c.args.before.now.items ++ (e i ∷ weights_before w (n + m) (offers_of_each kinds (choices_of (c.deref.ensures i)))))
    ∙ ap (λ ps. c.args.before.now.items ++ weights_before w n (offers_of_each kinds (choices_of ps))) (sym c.in-Part.is)
