-- A box that has one point alone.
use Rattle.std.proofs.Common.{◌≡◌, ◌&&◌, ◌≤◌, ℕ, Bool, true, false, IsTrue, List, [], ◌∷◌, length, map, ℤ, sym, refl, unsigned_abs, arith}
use Rattle.std.proofs.lemmas.Int.{ints}
use Rattle.std.specs.List.{list_all}
use Rattle.lt_formula.specs.Box.{IsInBox}
use Rattle.lt_linear.specs.Form.{is_raw}
use Rattle.lt_num.specs.Bounds.{most_raw}
use Rattle.lt_space.specs.Formula.{Formula, holds}
use Rattle.lt_propagation.proofs.Kleenes.{kleene_agrees}
use Rattle.lt_propagation.specs.Domains.{AreDomains}
use Rattle.lt_propagation.specs.Kleene.{Agrees, IsDecided, kleene_of}
use Rattle.lt_propagation.specs.declared.kleene.Kleene.{Kleene}
use Rattle.lt_propagation.specs.declared.kleene.Kleene.TheVariants.{False, True, Unknown}
use Rattle.lt_check.proofs.Decided.{AreFixed, kleene_decided}
use Rattle.lt_check.specs.inner.Point.{point_of}

first_of : (a b : Bool) → (a && b) ≡ true → a ≡ true
first_of true b h = refl
first_of false b h = absurd (cc)

second_of : (a b : Bool) → (a && b) ≡ true → b ≡ true
second_of true b h = h
second_of false b h = absurd (cc)

raw_small : (v : ℤ) → is_raw v ≡ true → unsigned_abs v ≤ most_raw
raw_small v h = grind (arith, h)

pub points_domains : (vs : List ℤ) → IsTrue (list_all is_raw vs) → AreDomains (map point_of vs)
points_domains [] h = tt
points_domains (v ∷ vs) h =
    let small = raw_small v (first_of (is_raw v) (list_all is_raw vs) h) in
    ((omega (arith, ints), small, small), points_domains vs (second_of (is_raw v) (list_all is_raw vs) h))

points_fixed : (vs : List ℤ) → AreFixed (length (map point_of vs)) (map point_of vs)
points_fixed [] = tt
points_fixed (v ∷ vs) = (refl, points_fixed vs)

points_box : (vs : List ℤ) → IsInBox (map point_of vs) vs
points_box [] = tt
points_box (v ∷ vs) = ((omega (arith, ints), omega (arith, ints)), points_box vs)

true_at : (k : Kleene) (b : Bool) → k ≡ True → Agrees k b → true ≡ b
true_at True b e a = sym a
true_at False b e a = absurd (cc)
true_at Unknown b e a = absurd (cc)

false_at : (k : Kleene) (b : Bool) → k ≡ False → Agrees k b → false ≡ b
false_at False b e a = sym a
false_at True b e a = absurd (cc)
false_at Unknown b e a = absurd (cc)

open_at : (k : Kleene) (b : Bool) → k ≡ Unknown → IsDecided k → false ≡ b
open_at False b e d = absurd (cc)
open_at True b e d = absurd (cc)
open_at Unknown b e d = absurd d

-- what is known at a point is the truth there
module _ (decimals : ℕ) (vs : List ℤ) (f : Formula) where
  agrees : Agrees (kleene_of decimals (map point_of vs) f) (holds decimals vs f)
  agrees = kleene_agrees decimals (map point_of vs) vs f (points_box vs)

  pub is_true : True ≡ kleene_of decimals (map point_of vs) f → true ≡ holds decimals vs f
  is_true e = true_at (kleene_of decimals (map point_of vs) f) (holds decimals vs f) (sym e) agrees

  pub is_false : False ≡ kleene_of decimals (map point_of vs) f → false ≡ holds decimals vs f
  is_false e = false_at (kleene_of decimals (map point_of vs) f) (holds decimals vs f) (sym e) agrees

  pub not_open : Unknown ≡ kleene_of decimals (map point_of vs) f → false ≡ holds decimals vs f
  not_open e = open_at (kleene_of decimals (map point_of vs) f) (holds decimals vs f) (sym e) (kleene_decided decimals (map point_of vs) f (points_fixed vs))
