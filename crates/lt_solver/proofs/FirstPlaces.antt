-- Corners of boxes: the first place of each variable in a direction.
use Rattle.std.proofs.Common.{◌≡◌, ◌<◌, ◌≤ℤ◌, ℕ, zero, suc, Bool, true, false, List, [], ◌∷◌, length, set, ℤ, arith}
use Rattle.std.proofs.lemmas.Int.{ints}
use Rattle.std.specs.Prelude.{if◌then◌else◌}
use Rattle.lt_bounds.specs.Ranges.{range_at}
use Rattle.lt_formula.proofs.Places.{lt_false}
use Rattle.lt_formula.specs.Box.{IsInBox}
use Rattle.lt_formula.specs.Solution.{comes_before}
use Rattle.lt_formula.specs.Translation.{value_by}
use Rattle.lt_formula.specs.declared.scale.Scale.{Scale}
use Rattle.lt_num.specs.Interval.{IsWithin}
use Rattle.lt_num.specs.declared.interval.Interval.{Interval}
use Rattle.lt_solver.specs.inner.Drawing.{place_of}

-- A place of an interval: none of those whose values lie in another interval comes before it.
pub record IsFirstPlace (down : Bool) (scale : Scale) (own values : Interval) (place : ℤ) : Type 0 where
  pub inside : IsWithin own place
  pub first : (other : ℤ) → IsWithin own other → IsWithin values (value_by scale other) → comes_before down other place ≡ false

-- It is the end in that direction of a part that keeps those.
pub end_first : (down : Bool) (scale : Scale) (own values part : Interval) (end : ℤ) → end ≡ (if down then part.high else part.low) → (own.low ≤ℤ part.low) × (part.low ≤ℤ part.high) × (part.high ≤ℤ own.high)
    → ((place : ℤ) → IsWithin own place → IsWithin values (value_by scale place) → IsWithin part place) → IsFirstPlace down scale own values end
end_first true scale own values part end is inside kept = record {
  inside = (omega (arith, ints, is, inside.0, inside.1), omega (arith, ints, is, inside.2));
  first = λ other w v. let k = kept other w v in lt_false end other (omega (arith, ints, is, k.1));
}
end_first false scale own values part end is inside kept = record {
  inside = (omega (arith, ints, is, inside.0), omega (arith, ints, is, inside.1, inside.2));
  first = λ other w v. let k = kept other w v in lt_false other end (omega (arith, ints, is, k.0));
}

-- What holds of each place up to one holds of that too, once it is written.
pub one_written : (P : ℕ → ℤ → Type 0) (places : List ℤ) (i : ℕ) (place : ℤ) → i < length places → ((k : ℕ) → k < i → P k (place_of places k)) → P i place
    → (k : ℕ) → k < suc i → P k (place_of (set places i place) k)
one_written P [] i place l before now k m = absurd (omega (arith, l))
one_written P (x ∷ xs) zero place l before now zero m = now
one_written P (x ∷ xs) zero place l before now (suc k) m = absurd (omega (arith, m))
one_written P (x ∷ xs) (suc i) place l before now zero m = before 0 (omega arith)
one_written P (x ∷ xs) (suc i) place l before now (suc k) m = one_written (λ n. P (suc n)) xs i place (omega (arith, l)) (λ n b. before (suc n) (omega (arith, b))) now k (omega (arith, m))

-- places that lie in their intervals
pub all_inside : (box : List Interval) (places : List ℤ) → length places ≡ length box → ((k : ℕ) → k < length box → IsWithin (range_at box k) (place_of places k)) → IsInBox box places
all_inside [] [] e each = tt
all_inside [] (x ∷ xs) e each = absurd (omega (arith, e))
all_inside (r ∷ box) [] e each = absurd (omega (arith, e))
all_inside (r ∷ box) (x ∷ xs) e each = (each 0 (omega arith), all_inside box xs (omega (arith, e)) (λ k l. each (suc k) (omega (arith, l))))
