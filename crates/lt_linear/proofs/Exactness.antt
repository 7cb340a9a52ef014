-- Comparisons of forms are exact: merging keeps sums.
use Rattle.std.proofs.Common.{◌≡◌, ℕ, zero, suc, Bool, true, false, List, [], ◌∷◌, ℤ, pos, negsuc, ◌+ℤ◌, ◌-ℤ◌, ◌*ℤ◌, Option, Some, None, nat_lt, nat_eq, refl, ap, sym, ◌∙◌, arith, true≢false, if◌then◌else◌}
use Rattle.std.specs.Prelude.{is_some}
use Rattle.std.specs.Ordering.{int_eq}
use Rattle.std.proofs.Math.IntN.{one, *ℤ_comm, suc_ℤ-*ℤ, pred_ℤ-*ℤ, zero-*ℤ, *ℤ-one}
use Rattle.std.proofs.lemmas.Int.{ints}
use Rattle.std.proofs.lemmas.Bool.Decides.{Decides-int_eq}
use Rattle.std.proofs.lemmas.Bool.{eqb-true}
use Rattle.lt_num.proofs.Public.{difference_times, sum_times}
use Rattle.lt_linear.specs.Form.{Term, alone, before, beside, merged, raw_compared, terms_in, with_term}
use Rattle.lt_linear.specs.FormValue.{IntsCompareExactly, RealsCompareExactly, terms_at}
use Rattle.lt_linear.proofs.Mergings.{alone_there, beside_there, compared_there}

turned_zero : (k v : ℤ) → (pos zero *ℤ k) *ℤ v ≡ (pos zero *ℤ v) *ℤ k
turned_zero k v = ap (λ (z : ℤ). z *ℤ v) (zero-*ℤ k) ∙ zero-*ℤ v ∙ sym (ap (λ (z : ℤ). z *ℤ k) (zero-*ℤ v) ∙ zero-*ℤ k)

-- two factors in the other order
turned : (a k v : ℤ) → (a *ℤ k) *ℤ v ≡ (a *ℤ v) *ℤ k
turned (pos zero) k v = turned_zero k v
turned (pos (suc n)) k v =
    ap (λ (z : ℤ). z *ℤ v) (suc_ℤ-*ℤ (pos n) k) ∙ sum_times (pos n *ℤ k) k v
    ∙ (λ i. turned (pos n) k v i +ℤ *ℤ_comm k v i) ∙ sym (ap (λ (z : ℤ). z *ℤ k) (suc_ℤ-*ℤ (pos n) v) ∙ sum_times (pos n *ℤ v) v k)
turned (negsuc zero) k v =
    ap (λ (z : ℤ). z *ℤ v) (pred_ℤ-*ℤ (pos zero) k) ∙ difference_times (pos zero *ℤ k) k v
    ∙ (λ i. turned_zero k v i -ℤ *ℤ_comm k v i) ∙ sym (ap (λ (z : ℤ). z *ℤ k) (pred_ℤ-*ℤ (pos zero) v) ∙ difference_times (pos zero *ℤ v) v k)
turned (negsuc (suc n)) k v =
    ap (λ (z : ℤ). z *ℤ v) (pred_ℤ-*ℤ (negsuc n) k) ∙ difference_times (negsuc n *ℤ k) k v
    ∙ (λ i. turned (negsuc n) k v i -ℤ *ℤ_comm k v i) ∙ sym (ap (λ (z : ℤ). z *ℤ k) (pred_ℤ-*ℤ (negsuc n) v) ∙ difference_times (negsuc n *ℤ v) v k)

-- one more variable, in both forms
one_variable : (a b k v t u : ℤ) → ((a -ℤ b) *ℤ k) *ℤ v +ℤ (t -ℤ u) *ℤ k ≡ ((a *ℤ v +ℤ t) -ℤ (b *ℤ v +ℤ u)) *ℤ k
one_variable a b k v t u =
    ap (λ (z : ℤ). z +ℤ (t -ℤ u) *ℤ k) (turned (a -ℤ b) k v ∙ ap (λ (z : ℤ). z *ℤ k) (difference_times a b v))
    ∙ sym (sum_times (a *ℤ v -ℤ b *ℤ v) (t -ℤ u) k)
    ∙ ap (λ (z : ℤ). z *ℤ k) (let e : (a *ℤ v -ℤ b *ℤ v) +ℤ (t -ℤ u) ≡ (a *ℤ v +ℤ t) -ℤ (b *ℤ v +ℤ u) = omega (arith, ints) in e)

-- one more variable, which one of the two forms lacks
first_alone : (a k v t u : ℤ) → ((a -ℤ pos 0) *ℤ k) *ℤ v +ℤ (t -ℤ u) *ℤ k ≡ ((a *ℤ v +ℤ t) -ℤ u) *ℤ k
first_alone a k v t u = one_variable a (pos 0) k v t u ∙ ap (λ (z : ℤ). ((a *ℤ v +ℤ t) -ℤ z) *ℤ k) (let e : pos 0 *ℤ v +ℤ u ≡ u = omega (arith, ints, zero-*ℤ v) in e)

second_alone : (b k v t u : ℤ) → ((pos 0 -ℤ b) *ℤ k) *ℤ v +ℤ (t -ℤ u) *ℤ k ≡ (t -ℤ (b *ℤ v +ℤ u)) *ℤ k
second_alone b k v t u = one_variable (pos 0) b k v t u ∙ ap (λ (z : ℤ). (z -ℤ (b *ℤ v +ℤ u)) *ℤ k) (let e : pos 0 *ℤ v +ℤ t ≡ t = omega (arith, ints, zero-*ℤ v) in e)

module _ (k : ℤ) (value : ℕ → ℤ) where
  -- the sum of terms that there are
  abbrev sum : Option (List Term) → ℤ
  sum answer = terms_at value (terms_in answer)

  put_sum : (i : ℕ) (c : ℤ) (ts : List Term) → terms_at value (with_term i c ts) ≡ c *ℤ value i +ℤ terms_at value ts
  put_sum i c ts = by (int_eq c (pos 0)) refl
    where
      by : (zero : Bool) → int_eq c (pos 0) ≡ zero → terms_at value (if zero then ts else (i, c) ∷ ts) ≡ c *ℤ value i +ℤ terms_at value ts
      by true h =
          let none : c ≡ pos 0 = (Decides-int_eq c (pos 0)).0 h in
          let product : c *ℤ value i ≡ pos 0 = ap (λ (z : ℤ). z *ℤ value i) none ∙ zero-*ℤ (value i) in
          omega (arith, ints, product)
      by false h = refl

  before_sum : (i : ℕ) (c : ℤ) (rest : Option (List Term)) → is_some rest ≡ true → sum (before i (Some c) rest) ≡ c *ℤ value i +ℤ sum rest
  before_sum i c None h = absurd (true≢false (sym h))
  before_sum i c (Some ts) h = put_sum i c ts

  alone_sum : (us : List Term) → sum (alone (raw_compared k) us) ≡ (pos 0 -ℤ terms_at value us) *ℤ k
  alone_sum [] = sym (zero-*ℤ k)
  alone_sum (u ∷ us) =
      before_sum u.0 ((pos 0 -ℤ u.1) *ℤ k) (alone (raw_compared k) us) (alone_there k us)
      ∙ ap (λ (z : ℤ). ((pos 0 -ℤ u.1) *ℤ k) *ℤ value u.0 +ℤ z) (alone_sum us)
      ∙ second_alone u.1 k (value u.0) (pos 0) (terms_at value us)

  beside_sum : (t : Term) (s : ℤ) (rest : List Term → Option (List Term)) → ((us : List Term) → is_some (rest us) ≡ true) → ((us : List Term) → sum (rest us) ≡ (s -ℤ terms_at value us) *ℤ k)
      → (us : List Term) → sum (beside (raw_compared k) t rest us) ≡ ((t.1 *ℤ value t.0 +ℤ s) -ℤ terms_at value us) *ℤ k
  beside_sum t s rest there h [] =
      before_sum t.0 ((t.1 -ℤ pos 0) *ℤ k) (rest []) (there [])
      ∙ ap (λ (z : ℤ). ((t.1 -ℤ pos 0) *ℤ k) *ℤ value t.0 +ℤ z) (h [])
      ∙ first_alone t.1 k (value t.0) s (pos 0)
  beside_sum t s rest there h (u ∷ us) = by (nat_lt u.0 t.0) (nat_eq u.0 t.0) refl (beside_sum t s rest there h us)
    where
      by : (less same : Bool) → nat_eq u.0 t.0 ≡ same → sum (beside (raw_compared k) t rest us) ≡ ((t.1 *ℤ value t.0 +ℤ s) -ℤ terms_at value us) *ℤ k
          → sum (if less then before u.0 (Some ((pos 0 -ℤ u.1) *ℤ k)) (beside (raw_compared k) t rest us)
          else if same then before t.0 (Some ((t.1 -ℤ u.1) *ℤ k)) (rest us)
          else before t.0 (Some ((t.1 -ℤ pos 0) *ℤ k)) (rest (u ∷ us)))
          ≡ ((t.1 *ℤ value t.0 +ℤ s) -ℤ (u.1 *ℤ value u.0 +ℤ terms_at value us)) *ℤ k
      by true same e behind =
          before_sum u.0 ((pos 0 -ℤ u.1) *ℤ k) (beside (raw_compared k) t rest us) (beside_there k t rest there us)
          ∙ ap (λ (z : ℤ). ((pos 0 -ℤ u.1) *ℤ k) *ℤ value u.0 +ℤ z) behind
          ∙ second_alone u.1 k (value u.0) (t.1 *ℤ value t.0 +ℤ s) (terms_at value us)
      by false true e behind =
          before_sum t.0 ((t.1 -ℤ u.1) *ℤ k) (rest us) (there us)
          ∙ ap (λ (z : ℤ). ((t.1 -ℤ u.1) *ℤ k) *ℤ value t.0 +ℤ z) (h us)
          ∙ one_variable t.1 u.1 k (value t.0) s (terms_at value us)
          ∙ ap (λ (i : ℕ). ((t.1 *ℤ value t.0 +ℤ s) -ℤ (u.1 *ℤ value i +ℤ terms_at value us)) *ℤ k) (sym (eqb-true u.0 t.0 e))
      by false false e behind =
          before_sum t.0 ((t.1 -ℤ pos 0) *ℤ k) (rest (u ∷ us)) (there (u ∷ us))
          ∙ ap (λ (z : ℤ). ((t.1 -ℤ pos 0) *ℤ k) *ℤ value t.0 +ℤ z) (h (u ∷ us))
          ∙ first_alone t.1 k (value t.0) s (u.1 *ℤ value u.0 +ℤ terms_at value us)

  merged_sum : (ts us : List Term) → sum (merged (raw_compared k) ts us) ≡ (terms_at value ts -ℤ terms_at value us) *ℤ k
  merged_sum [] us = alone_sum us
  merged_sum (t ∷ ts) us = beside_sum t (terms_at value ts) (merged (raw_compared k) ts) (compared_there k ts) (merged_sum ts) us

-- for reals
pub reals_compare_exactly : RealsCompareExactly
unfolding one
reals_compare_exactly scale value a b =
    let terms = merged_sum (pos 1) value a.terms b.terms ∙ *ℤ-one (terms_at value a.terms -ℤ terms_at value b.terms) in
    let constants = difference_times a.constant b.constant scale in
    (λ i. terms i +ℤ constants i) ∙ omega (arith, ints)

-- for ints
pub ints_compare_exactly : IntsCompareExactly
unfolding one
ints_compare_exactly scale value a b =
    (λ i. merged_sum scale value a.terms b.terms i +ℤ (a.constant -ℤ b.constant) *ℤ scale)
    ∙ sym (sum_times (terms_at value a.terms -ℤ terms_at value b.terms) (a.constant -ℤ b.constant) scale)
    ∙ ap (λ (z : ℤ). z *ℤ scale)
    (let first = *ℤ-one a.constant in let second = *ℤ-one b.constant in
    let e : (terms_at value a.terms -ℤ terms_at value b.terms) +ℤ (a.constant -ℤ b.constant) ≡ (terms_at value a.terms +ℤ a.constant *ℤ pos 1) -ℤ (terms_at value b.terms +ℤ b.constant *ℤ pos 1) = omega (arith, ints, first, second) in e)
