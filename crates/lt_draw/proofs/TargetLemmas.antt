-- Targets in ranges.
use Rattle.std.proofs.Common.{◌≡◌, ℕ, ◌*◌, ◌%◌, ◌<◌, refl, ap, subst, sym, ◌∙◌, arith}
use Rattle.std.specs.Prelude.{ℤ, pos, ◌+ℤ◌, ◌≤ℤ◌, unsigned_abs}
use Rattle.std.proofs.Math.Nat.{mod-lt}
use Rattle.lt_num.proofs.Public.{place_fits, point_is, places_are_apart}
use Rattle.lt_num.specs.Range.{HasPoints, IsPoint, count_of, point_at}
use Rattle.lt_num.specs.declared.range.Range.{Range}
use Rattle.lt_draw.specs.Target.{EachIsATarget, target_of}

-- the target of a word is a point
pub targets_are_points : (range : Range) (word : ℕ) → HasPoints range → IsPoint range (target_of range word)
targets_are_points range word has =
    let some : 0 < count_of range = omega arith in
    (word % count_of range, refl, (place_fits range has (word % count_of range)).0 (mod-lt word some))

pub each_is_a_target : EachIsATarget
each_is_a_target range raw has p = (
  p.0,
  (place_fits range has p.0).1 (subst (λ (z : ℤ). z ≤ℤ range.high) p.1 p.2),
  λ word. (λ e. places_are_apart range has _ _ (e ∙ p.1), λ e. ap (λ (k : ℕ). point_at range (pos k)) e ∙ sym p.1),
)

-- so far above the low end
pub above_is : (range : Range) (word place stride : ℕ) → HasPoints range → place ≡ word % count_of range → stride ≡ unsigned_abs range.step → range.low +ℤ pos (place * stride) ≡ target_of range word
above_is range word place stride has at of = (λ i. range.low +ℤ pos (at i * of i)) ∙ sym (point_is range has (word % count_of range))
