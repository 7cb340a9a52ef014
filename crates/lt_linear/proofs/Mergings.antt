-- What is known of all numbers that a merging of terms writes.
use Rattle.std.proofs.Common.{◌≡◌, ℕ, ◌≤◌, Bool, true, false, ◌&&◌, IsTrue, List, [], ◌∷◌, ℤ, pos, ◌+ℤ◌, ◌-ℤ◌, ◌*ℤ◌, ◌^◌, unsigned_abs, nat_le, nat_lt, nat_eq, Option, Some, None, FitsSigned, to_z, of_z, w64, refl, ap, sym, ◌∙◌, subst, arith, true≢false, if◌then◌else◌}
use Rattle.std.specs.Prelude.{Ok, Err, is_some}
use Rattle.std.specs.Ordering.{int_eq}
use Rattle.std.proofs.lemmas.Int.{to_z-of_z, fits_signed_mul}
use Rattle.lt_num.specs.Answer.{bounded}
use Rattle.lt_num.specs.Bounds.{most_raw}
use Rattle.lt_num.specs.Rounding.{nearest}
use Rattle.lt_linear.specs.Form.{Term, all_pass, alone, before, beside, is_raw, merged, raw_compared, raw_in}
use Rattle.lt_linear.specs.inner.Merging.{MergeTells, combined, is_usable}
use Rattle.lt_num.specs.declared.fault.Arith.TheVariants.{Overflow}
use Rattle.lt_linear.specs.declared.merging.Operation.{Operation}
use Rattle.lt_linear.specs.declared.merging.Operation.TheVariants.{Compared, Difference, Divided, Scaled, Sum}

-- two tests that hold
pub both_hold : (a b : Bool) → IsTrue a → IsTrue b → IsTrue (a && b)
both_hold true b h k = k
both_hold false b h k = h

-- a test of all that holds of each term
pub all_from : (test : ℤ → Bool) → ((raw : ℤ) → IsTrue (test raw)) → (ts : List Term) → IsTrue (all_pass test ts)
all_from test h [] = refl
all_from test h (t ∷ ts) = both_hold _ _ (h t.1) (all_from test h ts)

-- tests of a number or of terms that there may be
abbrev pub number_passes : (ℤ → Bool) → Option ℤ → Bool
number_passes test None = true
number_passes test (Some c) = test c

abbrev pub terms_pass : (ℤ → Bool) → Option (List Term) → Bool
terms_pass test None = true
terms_pass test (Some ts) = all_pass test ts

before_passes : (test : ℤ → Bool) (i : ℕ) (o : Option ℤ) (rest : Option (List Term)) → IsTrue (number_passes test o) → IsTrue (terms_pass test rest) → IsTrue (terms_pass test (before i o rest))
before_passes test i None rest h k = refl
before_passes test i (Some c) None h k = refl
before_passes test i (Some c) (Some ts) h k = by (int_eq c (pos 0))
  where
    by : (zero : Bool) → IsTrue (all_pass test (if zero then ts else (i, c) ∷ ts))
    by true = k
    by false = both_hold _ _ h k

chosen_passes : (P : Option (List Term) → Type 0) (b : Bool) (x y : Option (List Term)) → P x → P y → P (if b then x else y)
chosen_passes P true x y h k = h
chosen_passes P false x y h k = k

module _ (test : ℤ → Bool) (f : ℤ → ℤ → Option ℤ) (each : (a b : ℤ) → IsTrue (number_passes test (f a b))) where
  Passes : Option (List Term) → Type 0
  Passes answer = IsTrue (terms_pass test answer)

  alone_passes : (us : List Term) → Passes (alone f us)
  unfolding Passes
  alone_passes [] = refl
  alone_passes (u ∷ us) = before_passes test u.0 (f (pos 0) u.1) (alone f us) (each (pos 0) u.1) (alone_passes us)

  beside_passes : (t : Term) (rest : List Term → Option (List Term)) → ((us : List Term) → Passes (rest us)) → (us : List Term) → Passes (beside f t rest us)
  unfolding Passes
  beside_passes t rest h [] = before_passes test t.0 (f t.1 (pos 0)) (rest []) (each t.1 (pos 0)) (h [])
  beside_passes t rest h (u ∷ us) =
      chosen_passes Passes (nat_lt u.0 t.0) _ _
      (before_passes test u.0 (f (pos 0) u.1) (beside f t rest us) (each (pos 0) u.1) (beside_passes t rest h us))
      (chosen_passes Passes (nat_eq u.0 t.0) _ _
      (before_passes test t.0 (f t.1 u.1) (rest us) (each t.1 u.1) (h us))
      (before_passes test t.0 (f t.1 (pos 0)) (rest (u ∷ us)) (each t.1 (pos 0)) (h (u ∷ us))))

  pub merged_passes : (ts us : List Term) → IsTrue (terms_pass test (merged f ts us))
  unfolding Passes
  merged_passes [] us = alone_passes us
  merged_passes (t ∷ ts) us = beside_passes t (merged f ts) (merged_passes ts) us

-- a number that was judged is within its bound
raw_passes : (raw : ℤ) → IsTrue (number_passes is_raw (raw_in (bounded raw)))
raw_passes raw = by (nat_le (unsigned_abs raw) most_raw) refl
  where
    by : (b : Bool) → nat_le (unsigned_abs raw) most_raw ≡ b → IsTrue (number_passes is_raw (raw_in (if b then Ok (record { raw = raw }) else Err Overflow)))
    by true h = h
    by false h = refl

-- so is what an operation gives that needs nothing of its numbers
pub combined_passes : (op : Operation) → ((raw : ℤ) → IsTrue (is_usable op raw)) → (a b : ℤ) → IsTrue (number_passes is_raw (combined op a b))
combined_passes Sum h a b = raw_passes (a +ℤ b)
combined_passes Difference h a b = raw_passes (a -ℤ b)
combined_passes (Scaled by decimals) h a b = raw_passes (nearest (a *ℤ by.raw) (pos (10 ^ decimals)))
combined_passes (Divided by decimals) h a b = raw_passes (nearest (a *ℤ pos (10 ^ decimals)) by.raw)
combined_passes (Compared factor) h a b = let past : false ≡ true = h (pos 1_000_000_000_001) in absurd (true≢false (sym past))

-- a comparison's difference is never past a bound
before_there : (i : ℕ) (c : ℤ) (rest : Option (List Term)) → is_some rest ≡ true → is_some (before i (Some c) rest) ≡ true
before_there i c None h = h
before_there i c (Some ts) h = refl

pub alone_there : (factor : ℤ) (us : List Term) → is_some (alone (raw_compared factor) us) ≡ true
alone_there factor [] = refl
alone_there factor (u ∷ us) = before_there u.0 ((pos 0 -ℤ u.1) *ℤ factor) (alone (raw_compared factor) us) (alone_there factor us)

pub beside_there : (factor : ℤ) (t : Term) (rest : List Term → Option (List Term)) → ((us : List Term) → is_some (rest us) ≡ true) → (us : List Term) → is_some (beside (raw_compared factor) t rest us) ≡ true
beside_there factor t rest h [] = before_there t.0 ((t.1 -ℤ pos 0) *ℤ factor) (rest []) (h [])
beside_there factor t rest h (u ∷ us) =
    chosen_passes (λ answer. is_some answer ≡ true) (nat_lt u.0 t.0) _ _
    (before_there u.0 ((pos 0 -ℤ u.1) *ℤ factor) (beside (raw_compared factor) t rest us) (beside_there factor t rest h us))
    (chosen_passes (λ answer. is_some answer ≡ true) (nat_eq u.0 t.0) _ _
    (before_there t.0 ((t.1 -ℤ u.1) *ℤ factor) (rest us) (h us))
    (before_there t.0 ((t.1 -ℤ pos 0) *ℤ factor) (rest (u ∷ us)) (h (u ∷ us))))

pub compared_there : (factor : ℤ) (ts us : List Term) → is_some (merged (raw_compared factor) ts us) ≡ true
compared_there factor [] us = alone_there factor us
compared_there factor (t ∷ ts) us = beside_there factor t (merged (raw_compared factor) ts) (compared_there factor ts) us

-- the difference times a factor fits, and is kept whole
pub compared_fits : (x y d f : ℤ) → x ≡ d → y ≡ f → unsigned_abs d ≤ 2_000_000_000_000 → unsigned_abs f ≤ 1_000_000 → FitsSigned w64 (x *ℤ y)
compared_fits x y d f ed ef p q = rw (ed, ef) (fits_signed_mul w64 d f 2_000_000_000_000 1_000_000 p q (omega arith))

pub compared_kept : (x y d f : ℤ) → x ≡ d → y ≡ f → unsigned_abs d ≤ 2_000_000_000_000 → unsigned_abs f ≤ 1_000_000 → to_z w64 (of_z w64 (x *ℤ y)) ≡ d *ℤ f
compared_kept x y d f ed ef p q = rw (ed, ef) (to_z-of_z w64 (d *ℤ f) (fits_signed_mul w64 d f 2_000_000_000_000 1_000_000 p q (omega arith)))

-- each operation can do with 0
pub usable_zero : (op : Operation) → IsTrue (is_usable op (pos 0))
usable_zero Sum = refl
usable_zero Difference = refl
usable_zero (Scaled by decimals) = refl
usable_zero (Divided by decimals) = refl
usable_zero (Compared factor) = refl

-- what was written passes a test that all that is due passes
pub written_passes : (test : ℤ → Bool) (answer : Option (Unit {0})) (written : List Term) (due : Option (List Term)) → MergeTells answer written due → is_some answer ≡ true → IsTrue (terms_pass test due) → IsTrue (all_pass test written)
written_passes test None written due h s p = absurd (true≢false (sym s))
written_passes test (Some t) written due h s p = subst (λ d. IsTrue (terms_pass test d)) h p

-- a merging that is due ends
pub ended : (answer : Option (Unit {0})) (written : List Term) (due : Option (List Term)) → MergeTells answer written due → is_some due ≡ true → is_some answer ≡ true
ended None written due h s = absurd (true≢false (sym s ∙ ap is_some h))
ended (Some t) written due h s = refl
