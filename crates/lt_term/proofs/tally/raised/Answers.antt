use Rattle.std.proofs.Common.{◌≡◌, ◌<◌, ◌+◌, ℕ, nat_eq, if◌then◌else◌, List, length, take, get_or, ap, sym, ◌∙◌, arith}
use Rattle.std.proofs.lemmas.List.{take_more}
use Rattle.std.proofs.lemmas.List.Sums.{sum_by_push}
use Rattle.std.specs.Prelude.{sum_by}
use Rattle.lt_term.specs.Size.{capped}
use Rattle.lt_term.specs.inner.Alike.{count_in}
use Rattle.lt_term.proofs.tally.raised.Goals as goal

capped_first : (s f : ℕ) → capped (capped s + f) ≡ capped (s + f)
capped_first s f = omega arith

-- one more entry
more : (items : List (ℕ × ℕ)) (z i all number new : ℕ) → i < length items → all ≡ capped (count_in z (take i items)) → number ≡ (if nat_eq (get_or items i (0, 0)).0 z then (get_or items i (0, 0)).1 else 0) → new ≡ capped (all + number)
    → new ≡ capped (count_in z (take (i + 1) items))
more items z i all number new l a n e =
    let f : ℕ × ℕ → ℕ = λ r. if nat_eq r.0 z then r.1 else 0 in
    let step : sum_by f (take (i + 1) items) ≡ sum_by f (take i items) + f (get_or items i (0, 0)) = ap (sum_by f) (take_more items i (0, 0) l) ∙ sum_by_push f (take i items) (get_or items i (0, 0)) in
    e ∙ ap (λ k. capped (k + number)) a ∙ capped_first (count_in z (take i items)) number ∙ ap (λ k. capped (count_in z (take i items) + k)) n ∙ sym (ap capped step)

pub loop-other-preserved : goal.loop-other-preserved
loop-other-preserved c =
    more c.deref-other-items.result.now c.args.exception c.loop-other.other-index c.loop-other.all c.number_of.result c.sum-all.result c.loop-other-test.true c.loop-other.invariant c.number_of.ensures c.sum-all.ensures
