-- The hard variables of lists with the same atoms, and their points.
use Rattle.std.proofs.Common.{◌≡◌, ◌<◌, ◌+◌, ◌*◌, ◌^◌, ◌&&◌, ◌||◌, ℕ, suc, min, Bool, false, not, List, [], ◌∷◌, length, refl, ap, sym, ◌∙◌, add-one, drop, get_or}
use Rattle.std.specs.Prelude.{if◌then◌else◌}
use Rattle.std.specs.List.{list_any}
use Rattle.std.proofs.lemmas.List.{drop_more}
use Rattle.lt_num.specs.Range.{count_of}
use Rattle.lt_num.specs.declared.range.Range.{Range}
use Rattle.lt_space.specs.Absorbed.{conjuncts}
use Rattle.lt_space.specs.Formula.{Formula}
use Rattle.lt_need.specs.Need.{most_need}
use Rattle.lt_space.specs.declared.formula.Atom.{Atom}
use Rattle.lt_need.specs.Need.{atoms_of, choices_of, has_variable, hard_points, is_difference, is_equation, is_hard, is_hard_variable, same_atom, several_terms, variables_in, whole_need}
use Rattle.lt_need.specs.inner.Marks.{HaveSame}
use Rattle.lt_need.specs.inner.Points.{marked_points, points_in}
use Rattle.lt_need.proofs.Counting.{any_alike}
use Rattle.lt_need.proofs.Powers.{choices_stop, one_factor}

module _ (all : List Range) (xs ys : List Atom) (same : HaveSame xs ys) where
  hard_alike : (a : Atom) → is_hard all xs a ≡ is_hard all ys a
  hard_alike a =
      ap (λ b. not (is_difference all (several_terms a)) && (is_equation a || b))
      (same (λ b. not (same_atom a b) && list_any (λ t. has_variable (several_terms b) t.0) (several_terms a)))

  pub hard_same : (i : ℕ) → is_hard_variable all xs i ≡ is_hard_variable all ys i
  hard_same i =
      same (λ a. is_hard all xs a && has_variable (several_terms a) i)
      ∙ any_alike (λ a. is_hard all xs a && has_variable (several_terms a) i) (λ a. is_hard all ys a && has_variable (several_terms a) i) ys (λ a. ap (λ b. b && has_variable (several_terms a) i) (hard_alike a))

  pub points_same : (i : ℕ) (ranges : List Range) → hard_points all xs i ranges ≡ hard_points all ys i ranges
  points_same i [] = refl
  points_same i (range ∷ ranges) =
      ap (λ b. (if b then count_of range else 1) * hard_points all xs (suc i) ranges) (hard_same i)
      ∙ ap (λ (n : ℕ). (if is_hard_variable all ys i then count_of range else 1) * n) (points_same (suc i) ranges)

-- Points by marks.

marked_same : (all : List Range) (marks : List Bool) (xs : List Atom) → ((i : ℕ) → get_or marks i false ≡ is_hard_variable all xs i) → (i : ℕ) (ranges : List Range) → marked_points marks i ranges ≡ hard_points all xs i ranges
marked_same all marks xs same i [] = refl
marked_same all marks xs same i (range ∷ ranges) =
    ap (λ b. (if b then count_of range else 1) * marked_points marks (suc i) ranges) (same i)
    ∙ ap (λ (n : ℕ). (if is_hard_variable all xs i then count_of range else 1) * n) (marked_same all marks xs same (suc i) ranges)

-- the whole need, by the marks of lists with the same atoms
pub whole_same : (f : Formula) (found : List Atom) (marks : List Bool) (scope : List Bool) (ranges : List Range) → HaveSame (atoms_of f) found → ((i : ℕ) → get_or marks i false ≡ is_hard_variable ranges found i)
    → whole_need f scope ranges ≡ 180 * (variables_in scope + 1) * (marked_points marks 0 ranges * 3 ^ choices_of (conjuncts f))
whole_same f found marks scope ranges same marked =
    ap (λ (k : ℕ). 180 * (variables_in scope + 1) * (k * 3 ^ choices_of (conjuncts f))) (points_same ranges (atoms_of f) found same 0 ranges ∙ sym (marked_same ranges marks found marked 0 ranges))

-- the need, by what was found of it
pub measured : (f : Formula) (found : List Atom) (marks scope : List Bool) (ranges : List Range) (count points choices result : ℕ) → HaveSame (atoms_of f) found → ((i : ℕ) → get_or marks i false ≡ is_hard_variable ranges found i)
    → count ≡ variables_in scope → points ≡ min (180 * (count + 1) * marked_points marks 0 ranges) most_need → choices ≡ min (choices_of (conjuncts f)) 81 → result ≡ min (points * 3 ^ choices) most_need
    → result ≡ min (whole_need f scope ranges) most_need
measured f found marks scope ranges count points choices result same marked counted pointed chosen is =
    is ∙ choices_stop points (choices_of (conjuncts f)) choices chosen ∙ ap (λ (k : ℕ). min (k * 3 ^ choices_of (conjuncts f)) most_need) pointed
    ∙ sym (one_factor (180 * (count + 1)) (marked_points marks 0 ranges) (3 ^ choices_of (conjuncts f)) most_need)
    ∙ ap (λ (k : ℕ). min (180 * (k + 1) * (marked_points marks 0 ranges * 3 ^ choices_of (conjuncts f))) most_need) counted
    ∙ ap (λ (k : ℕ). min k most_need) (sym (whole_same f found marks scope ranges same marked))

-- one range more
points_more : (marks : List Bool) (ranges : List Range) (i : ℕ) (d : Range) → i < length ranges
    → marked_points marks i (drop i ranges) ≡ points_in (get_or marks i false) (get_or ranges i d) * marked_points marks (i + 1) (drop (i + 1) ranges)
points_more marks ranges i d l =
    ap (marked_points marks i) (drop_more ranges i d l) ∙ ap (λ (k : ℕ). points_in (get_or marks i false) (get_or ranges i d) * marked_points marks k (drop (i + 1) ranges)) (sym (add-one i))

pub product_more : (marks : List Bool) (ranges : List Range) (i product points result : ℕ) (d : Range) (counts : Bool) → i < length ranges → counts ≡ get_or marks i false → points ≡ points_in counts (get_or ranges i d)
    → result ≡ min (product * points) most_need
    → min (product * marked_points marks i (drop i ranges)) most_need ≡ min (result * marked_points marks (i + 1) (drop (i + 1) ranges)) most_need
product_more marks ranges i product points result d counts l marked pointed is =
    ap (λ (k : ℕ). min (product * k) most_need)
    (points_more marks ranges i d l ∙ ap (λ (k : ℕ). k * marked_points marks (i + 1) (drop (i + 1) ranges)) (sym (pointed ∙ ap (λ (b : Bool). points_in b (get_or ranges i d)) marked)))
    ∙ one_factor product points (marked_points marks (i + 1) (drop (i + 1) ranges)) most_need ∙ ap (λ (k : ℕ). min (k * marked_points marks (i + 1) (drop (i + 1) ranges)) most_need) (sym is)
