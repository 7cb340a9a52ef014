-- What is drawn is a solution, whatever the rule is.
use Rattle.std.proofs.Common.{◌≡◌, ℕ, Bool, suc, List, [], ◌∷◌, length, ℤ, Some, None, IsTrue, refl, ap, sym, ◌∙◌}
use Rattle.std.specs.Prelude.{MatchOption}
use Rattle.std.specs.declared.option.Option.{Option}
use Rattle.lt_draw.specs.declared.directions.Draw.{Draw}
use Rattle.lt_draw.specs.declared.directions.Draw.TheVariants.{Directed, Inside, Up}
use Rattle.lt_num.specs.declared.range.Range.{Range}
use Rattle.lt_formula.proofs.Insides.{inside_is_a_solution}
use Rattle.lt_formula.proofs.Solutions.{first_solution_is_first}
use Rattle.lt_formula.specs.Inside.{inside_solution}
use Rattle.lt_formula.specs.Solution.{IsPointOf, IsSatisfiable, first_solution}
use Rattle.lt_space.specs.Scope.{ranges_in}
use Rattle.lt_instant.specs.Legal.{SolutionsPass}
use Rattle.lt_instant.specs.Solved.{directions_of, drawn_ranges, drawn_solution, holds_of, ranges_at, scope_of, target_words_of, targets_of}
use Rattle.lt_instant.proofs.Ranges.{target_words_len, targets_len}

length_ranges : (marks : List Bool) (rs : List Range) → length (ranges_in marks rs) ≡ length rs
length_ranges [] [] = refl
length_ranges [] (r ∷ rs) = ap suc (length_ranges [] rs)
length_ranges (b ∷ bs) [] = refl
length_ranges (b ∷ bs) (r ∷ rs) = ap suc (length_ranges bs rs)

-- a solution passes, and where there is none, no point does
abbrev Says : (List ℤ → Bool) → List Range → Option (List ℤ) → Type 0
Says passes ranges o = MatchOption o (IsSatisfiable passes ranges → ⊥) (λ raws. IsPointOf ranges raws × IsTrue (passes raws))

-- it says so where it says more
less : (passes : List ℤ → Bool) (ranges : List Range) (R : List ℤ → Type 0) (o : Option (List ℤ)) → MatchOption o (IsSatisfiable passes ranges → ⊥) (λ raws. IsPointOf ranges raws × IsTrue (passes raws) × R raws) → Says passes ranges o
less passes ranges R None h = h
less passes ranges R (Some raws) h = (h.0, h.1)

drawn_says : (draw : Draw) (passes : List ℤ → Bool) (ranges : List Range) (targets : List ℤ) (words : List ℕ) (down : List Bool) → length targets ≡ length ranges → length words ≡ length ranges → Says passes ranges (drawn_solution draw passes ranges targets words down)
drawn_says Up passes ranges targets words down t w = less passes ranges _ (first_solution passes ranges targets down) (first_solution_is_first passes ranges targets down t)
drawn_says Directed passes ranges targets words down t w = less passes ranges _ (first_solution passes ranges targets down) (first_solution_is_first passes ranges targets down t)
drawn_says Inside passes ranges targets words down t w = less passes ranges _ (inside_solution passes ranges words down) (inside_is_a_solution passes ranges words down w)

pub solutions_pass : SolutionsPass
solutions_pass s draw word ls f =
    let same = sym (length_ranges (scope_of s ls) (drawn_ranges s)) in
    drawn_says draw (holds_of s f) (ranges_at s ls) (targets_of s word) (target_words_of s word) (directions_of s draw word) (targets_len word 0 (drawn_ranges s) ∙ same) (target_words_len word 0 (length (drawn_ranges s)) ∙ same)
