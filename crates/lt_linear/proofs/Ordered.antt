-- The order of merged terms.
use Rattle.std.proofs.Common.{◌≡◌, ℕ, ◌+◌, ◌*◌, ◌≤◌, Bool, true, false, not, ◌&&◌, IsTrue, List, [], ◌∷◌, length, ℤ, pos, ◌-ℤ◌, unsigned_abs, nat_le, nat_lt, nat_eq, Option, Some, None, refl, ap, sym, subst, arith, true≢false, if◌then◌else◌}
use Rattle.std.specs.Prelude.{is_some}
use Rattle.std.specs.Ordering.{int_eq}
use Rattle.std.proofs.Math.Nat.{mul-le-mul}
use Rattle.std.proofs.lemmas.Int.{ints, unsigned_abs-mul}
use Rattle.std.proofs.lemmas.Bool.{leb-true, ltb-true}
use Rattle.std.proofs.lemmas.Bool.Decides.{nat_tests}
use Rattle.lt_num.specs.Bounds.{most_raw}
use Rattle.lt_linear.specs.Form.{Term, alone, before, beside, is_raw, merged, raw_compared}
use Rattle.lt_linear.specs.Order.{are_in_order, is_coefficient}
use Rattle.lt_linear.specs.inner.Merging.{MergeTells}
use Rattle.lt_linear.proofs.Mergings.{both_hold, number_passes}

pub left_of : (a b : Bool) → IsTrue (a && b) → IsTrue a
left_of true b h = refl
left_of false b h = h

pub right_of : (a b : Bool) → IsTrue (a && b) → IsTrue b
right_of true b h = h
right_of false b h = absurd (cc)

pub le_true : (a b : ℕ) → a ≤ b → IsTrue (nat_le a b)
le_true a b h = grind (arith, nat_tests)

-- what is known of terms in order that there may be
abbrev pub in_order : (ℤ → Bool) → ℕ → ℕ → Option (List Term) → Bool
in_order test least below None = true
in_order test least below (Some ts) = are_in_order test least below ts

-- the parts of a test of terms
pub least_of : (test : ℤ → Bool) (n below : ℕ) (t : Term) (ts : List Term) → IsTrue (are_in_order test n below (t ∷ ts)) → n ≤ t.0
least_of test n below t ts h = leb-true n t.0 (left_of (nat_le n t.0) _ h)

first_of : (test : ℤ → Bool) (n below : ℕ) (t : Term) (ts : List Term) → IsTrue (are_in_order test n below (t ∷ ts)) → IsTrue (test t.1)
first_of test n below t ts h = left_of (test t.1) _ (right_of (not (int_eq t.1 (pos 0))) _ (right_of (nat_le n t.0) _ h))

pub rest_of : (test : ℤ → Bool) (n below : ℕ) (t : Term) (ts : List Term) → IsTrue (are_in_order test n below (t ∷ ts)) → IsTrue (are_in_order test (t.0 + 1) below ts)
rest_of test n below t ts h = right_of (test t.1) _ (right_of (not (int_eq t.1 (pos 0))) _ (right_of (nat_le n t.0) _ h))

-- terms in order are so from a smaller number on
weaker : (test : ℤ → Bool) (n m below : ℕ) (ts : List Term) → n ≤ m → IsTrue (are_in_order test m below ts) → IsTrue (are_in_order test n below ts)
weaker test n m below [] l h = le_true n below (let is = leb-true m below h in omega arith)
weaker test n m below (t ∷ ts) l h =
    both_hold (nat_le n t.0) _ (le_true n t.0 (let is = leb-true m t.0 (left_of (nat_le m t.0) _ h) in omega arith)) (right_of (nat_le m t.0) _ h)

-- they are from a first variable on
again : (test : ℤ → Bool) (n below : ℕ) (t : Term) (ts : List Term) → n ≤ t.0 → (m : ℕ) → IsTrue (are_in_order test m below (t ∷ ts)) → IsTrue (are_in_order test n below (t ∷ ts))
again test n below t ts l m h = both_hold (nat_le n t.0) _ (le_true n t.0 l) (right_of (nat_le m t.0) _ h)

-- there are at most as many as variables
pub few_terms : (test : ℤ → Bool) (n below : ℕ) (ts : List Term) → IsTrue (are_in_order test n below ts) → length ts + n ≤ below
few_terms test n below [] h = let is = leb-true n below h in omega arith
few_terms test n below (t ∷ ts) h =
    let least = least_of test n below t ts h in
    let more = few_terms test (t.0 + 1) below ts (rest_of test n below t ts h) in
    omega arith

-- one term more
before_order : (test : ℤ → Bool) (n below i : ℕ) (o : Option ℤ) (rest : Option (List Term)) → n ≤ i → IsTrue (number_passes test o) → IsTrue (in_order test (i + 1) below rest) → IsTrue (in_order test n below (before i o rest))
before_order test n below i None rest l h k = refl
before_order test n below i (Some c) None l h k = refl
before_order test n below i (Some c) (Some ts) l h k = by (int_eq c (pos 0)) refl
  where
    by : (zero : Bool) → int_eq c (pos 0) ≡ zero → IsTrue (are_in_order test n below (if zero then ts else (i, c) ∷ ts))
    by true is = weaker test n (i + 1) below ts (omega arith) k
    by false is = both_hold (nat_le n i) _ (le_true n i l) (both_hold (not (int_eq c (pos 0))) _ (ap not is) (both_hold (test c) _ h k))

chosen : (P : Option (List Term) → Type 0) (b : Bool) (x y : Option (List Term)) → (b ≡ true → P x) → (b ≡ false → P y) → P (if b then x else y)
chosen P true x y h k = h refl
chosen P false x y h k = k refl

module _ (given test : ℤ → Bool) (f : ℤ → ℤ → Option ℤ) (zero_given : IsTrue (given (pos 0))) (each : (a b : ℤ) → IsTrue (given a) → IsTrue (given b) → IsTrue (number_passes test (f a b))) where
  alone_order : (n below : ℕ) (us : List Term) → IsTrue (are_in_order given n below us) → IsTrue (in_order test n below (alone f us))
  alone_order n below [] h = h
  alone_order n below (u ∷ us) h =
      before_order test n below u.0 (f (pos 0) u.1) (alone f us) (least_of given n below u us h) (each (pos 0) u.1 zero_given (first_of given n below u us h))
      (alone_order (u.0 + 1) below us (rest_of given n below u us h))

  beside_order : (t : Term) (ts : List Term) (rest : List Term → Option (List Term)) (below : ℕ)
      → ((m : ℕ) (us : List Term) → IsTrue (are_in_order given m below ts) → IsTrue (are_in_order given m below us) → IsTrue (in_order test m below (rest us)))
      → (n : ℕ) (us : List Term) → IsTrue (are_in_order given n below (t ∷ ts)) → IsTrue (are_in_order given n below us) → IsTrue (in_order test n below (beside f t rest us))
  beside_order t ts rest below h n [] l r =
      let behind = rest_of given n below t ts l in
      before_order test n below t.0 (f t.1 (pos 0)) (rest []) (least_of given n below t ts l) (each t.1 (pos 0) (first_of given n below t ts l) zero_given)
      (h (t.0 + 1) [] behind (le_true (t.0 + 1) below (let few = few_terms given (t.0 + 1) below ts behind in omega arith)))
  beside_order t ts rest below h n (u ∷ us) l r =
      let tn = least_of given n below t ts l in
      let un = least_of given n below u us r in
      let tp = first_of given n below t ts l in
      let up = first_of given n below u us r in
      let behind_t = rest_of given n below t ts l in
      let behind_u = rest_of given n below u us r in
      chosen (λ answer. IsTrue (in_order test n below answer)) (nat_lt u.0 t.0) _ _
      (λ less.
      before_order test n below u.0 (f (pos 0) u.1) (beside f t rest us) un (each (pos 0) u.1 zero_given up)
      (beside_order t ts rest below h (u.0 + 1) us (again given (u.0 + 1) below t ts (let lt = ltb-true u.0 t.0 less in omega arith) n l) behind_u))
      (λ not_less.
      chosen (λ answer. IsTrue (in_order test n below answer)) (nat_eq u.0 t.0) _ _
      (λ same.
      before_order test n below t.0 (f t.1 u.1) (rest us) tn (each t.1 u.1 tp up)
      (h (t.0 + 1) us behind_t (subst (λ k. IsTrue (are_in_order given (k + 1) below us)) (is_same u.0 t.0 same) behind_u)))
      (λ not_same.
      before_order test n below t.0 (f t.1 (pos 0)) (rest (u ∷ us)) tn (each t.1 (pos 0) tp zero_given)
      (h (t.0 + 1) (u ∷ us) behind_t (again given (t.0 + 1) below u us (is_more u.0 t.0 not_less not_same) n r))))
    where
      is_same : (i j : ℕ) → nat_eq i j ≡ true → i ≡ j
      is_same i j e = grind (arith, nat_tests)

      is_more : (i j : ℕ) → nat_lt i j ≡ false → nat_eq i j ≡ false → j + 1 ≤ i
      is_more i j d e = grind (arith, nat_tests)

  -- merged terms are in order
  pub merged_order : (below n : ℕ) (ts us : List Term) → IsTrue (are_in_order given n below ts) → IsTrue (are_in_order given n below us) → IsTrue (in_order test n below (merged f ts us))
  merged_order below n [] us l r = alone_order n below us r
  merged_order below n (t ∷ ts) us l r = beside_order t ts (merged f ts) below (λ m vs. merged_order below m ts vs) n us l r

-- what was written is in order where all that is due is
pub written_order : (test : ℤ → Bool) (n below : ℕ) (answer : Option (Unit {0})) (written : List Term) (due : Option (List Term)) → MergeTells answer written due → is_some answer ≡ true → IsTrue (in_order test n below due) → IsTrue (are_in_order test n below written)
written_order test n below None written due h s p = absurd (true≢false (sym s))
written_order test n below (Some t) written due h s p = subst (λ d. IsTrue (in_order test n below d)) h p

-- a difference times a factor isn't past its bound
pub compared_size : (factor : ℤ) → unsigned_abs factor ≤ 1_000_000 → (a b : ℤ) → IsTrue (is_raw a) → IsTrue (is_raw b) → IsTrue (number_passes is_coefficient (raw_compared factor a b))
compared_size factor h a b ha hb =
    let la = leb-true (unsigned_abs a) most_raw ha in
    let lb = leb-true (unsigned_abs b) most_raw hb in
    let apart : unsigned_abs (a -ℤ b) ≤ 2_000_000_000_000 = omega (arith, ints) in
    let most : unsigned_abs (a -ℤ b) * unsigned_abs factor ≤ 2_000_000_000_000 * 1_000_000 = mul-le-mul apart h in
    le_true _ _ (omega (arith, unsigned_abs-mul (a -ℤ b) factor, most))
