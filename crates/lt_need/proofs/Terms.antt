-- Parts of terms.
use Rattle.std.proofs.Common.{◌≡◌, ◌<◌, ◌-◌, ◌&&◌, ℕ, zero, suc, Bool, true, false, IsTrue, List, [], ◌∷◌, length, refl, arith, get_or, drop, take}
use Rattle.std.specs.Prelude.{if◌then◌else◌, nat_lt, nat_le, slice_range, unsigned_abs}
use Rattle.std.proofs.lemmas.Bool.{ltb-true}
use Rattle.lt_formula.specs.Limits.{most_variables}
use Rattle.lt_linear.specs.Form.{Term}
use Rattle.lt_space.specs.Circuit.{are_terms, is_term, most_coefficient}

first : (a b : Bool) → IsTrue (a && b) → IsTrue a
first true b h = refl
first false b h = h

second : (a b : Bool) → IsTrue (a && b) → IsTrue b
second true b h = h
second false b h = absurd (cc)

both : (a b : Bool) → IsTrue a → IsTrue b → IsTrue (a && b)
both true b h k = k
both false b h k = h

take_exact : (n : ℕ) (ts : List Term) → IsTrue (are_terms ts) → IsTrue (are_terms (take n ts))
take_exact zero ts h = refl
take_exact (suc n) [] h = h
take_exact (suc n) (t ∷ ts) h = both (is_term t) (are_terms (take n ts)) (first (is_term t) (are_terms ts) h) (take_exact n ts (second (is_term t) (are_terms ts) h))

drop_exact : (n : ℕ) (ts : List Term) → IsTrue (are_terms ts) → IsTrue (are_terms (drop n ts))
drop_exact zero ts h = h
drop_exact (suc n) [] h = h
drop_exact (suc n) (t ∷ ts) h = drop_exact n ts (second (is_term t) (are_terms ts) h)

pub range_exact : (ts : List Term) (a b : ℕ) → IsTrue (are_terms ts) → IsTrue (are_terms (slice_range ts a b))
range_exact ts a b h = take_exact (b - a) (drop a ts) (drop_exact a ts h)

pub several_exact : (ts : List Term) → IsTrue (are_terms ts) → IsTrue (are_terms (if nat_lt 1 (length ts) then ts else []))
several_exact ts h = by_test (nat_lt 1 (length ts))
  where
    by_test : (b : Bool) → IsTrue (are_terms (if b then ts else []))
    by_test true = h
    by_test false = refl

-- the variable of one of them
pub variable_within : (ts : List Term) (i : ℕ) (t : Term) → IsTrue (are_terms ts) → i < length ts → (get_or ts i t).0 < most_variables
variable_within [] i t h l = absurd (omega (arith, l))
variable_within (s ∷ ts) zero t h l = below s.0 (nat_lt s.0 most_variables) refl (first (nat_lt s.0 most_variables) (nat_le (unsigned_abs s.1) most_coefficient) (first (is_term s) (are_terms ts) h))
  where
    below : (v : ℕ) (b : Bool) → nat_lt v most_variables ≡ b → IsTrue b → v < most_variables
    below v true e h = ltb-true v most_variables e
    below v false e h = absurd (cc)
variable_within (s ∷ ts) (suc i) t h l = variable_within ts i t (second (is_term s) (are_terms ts) h) (omega (arith, l))
