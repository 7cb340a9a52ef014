-- What is drawn inside where constraints are literals.
use Rattle.std.proofs.Common.{◌≡◌, ◌⊎◌, inl, inr, ◌<◌, ◌&&◌, ℕ, suc, zero, Bool, true, false, All, List, [], ◌∷◌, length, map, not, set, get_or, ℤ, pos, Some, None, refl, ap, sym, subst, ◌∙◌, arith}
use Rattle.std.specs.Prelude.{MatchOption, IsTrue}
use Rattle.std.specs.List.{list_all}
use Rattle.std.specs.Ordering.{int_eq}
use Rattle.std.specs.declared.option.Option.{Option}
use Rattle.std.proofs.lemmas.Bool.{cases_eq}
use Rattle.std.proofs.lemmas.List.{get_or-set_other}
use Rattle.std.proofs.lemmas.List.Elements.{All-head, All-tail}
use Rattle.lt_draw.specs.declared.directions.Draw.{Draw}
use Rattle.lt_draw.specs.declared.directions.Draw.TheVariants.{Directed, Inside, Up}
use Rattle.lt_formula.proofs.Solutions.{first_solution_is_first}
use Rattle.lt_formula.specs.Inside.{inside_solution}
use Rattle.lt_formula.specs.Solution.{IsFirst, IsPointOf, IsSatisfiable, first_solution, orders_from}
use Rattle.lt_num.specs.Range.{HasPoints}
use Rattle.lt_num.specs.declared.range.Range.{Range}
use Rattle.lt_space.specs.Formula.{holds}
use Rattle.lt_space.specs.Meaning.{joined}
use Rattle.lt_space.specs.Scope.{ranges_in, zero_alone}
use Rattle.lt_instant.specs.Solved.{drawn_solution, target_words_from, targets_from}
use Rattle.lt_instant.specs.declared.literals.Literal.{Literal}
use Rattle.lt_instant.specs.declared.literals.Literal.TheVariants.{Truth, Flag}
use Rattle.lt_instant.specs.inner.Literals.{firsts_in, is_met, literal_formula, with_literals}
use Rattle.lt_instant.proofs.InsidePoints.{AreLedInside, IsAimed, IsLedInside, led_inside, none_inside}
use Rattle.lt_instant.proofs.LiteralFormulas.{joined_holds, passes}
use Rattle.lt_instant.proofs.LiteralPoints.{IsFree, Names, literals_solved, literals_unsolved, met_passes_all, named, named_only, names_more, ranges_long, unmet_fails, zero_first}
use Rattle.lt_instant.proofs.Ranges.{target_words_len}

-- The numbers that come first do so from each aim, or are targets in whole ranges.
firsts_aimed : (scope : List Bool) (ranges : List Range) (word : ℕ → ℕ) (n : ℕ) → All HasPoints ranges → (i : ℕ) → i < length (ranges_in scope ranges)
    → IsAimed (get_or (ranges_in scope ranges) i zero_alone) (get_or (target_words_from word n (length ranges)) i 0) (get_or (firsts_in scope (targets_from word n ranges)) i (pos 0))
firsts_aimed [] [] word n has i l = absurd (omega (arith, l))
firsts_aimed (m ∷ ms) [] word n has i l = absurd (omega (arith, l))
firsts_aimed [] (r ∷ rs) word n has zero l = inl zero_first
firsts_aimed [] (r ∷ rs) word n has (suc i) l = firsts_aimed [] rs word (suc n) (All-tail HasPoints r rs has) i (omega (arith, l))
firsts_aimed (true ∷ ms) (r ∷ rs) word n has zero l = inr (All-head HasPoints r rs has, refl)
firsts_aimed (false ∷ ms) (r ∷ rs) word n has zero l = inl zero_first
firsts_aimed (m ∷ ms) (r ∷ rs) word n has (suc i) l = firsts_aimed ms rs word (suc n) (All-tail HasPoints r rs has) i (omega (arith, l))

-- ---- which variables are named by none

-- literals say the same whatever the number of a variable is
abbrev AreFreeOf : List Literal → ℕ → Type 0
AreFreeOf ls i = (raws : List ℤ) (u : ℤ) → list_all (passes (set raws i u)) ls ≡ list_all (passes raws) ls

passes_other : (j i : ℕ) (b : Bool) → (i ≡ j → ⊥) → (raws : List ℤ) (u : ℤ) → passes (set raws i u) (Flag j b) ≡ passes raws (Flag j b)
passes_other j i true other raws u = ap (λ z. not (int_eq z (pos 0))) (get_or-set_other raws i j u (pos 0) (λ e. other (sym e)))
passes_other j i false other raws u = ap (λ z. not (not (int_eq z (pos 0)))) (get_or-set_other raws i j u (pos 0) (λ e. other (sym e)))

-- each variable is named by one of some literals, or they are free of it
free_of : (ls : List Literal) (i : ℕ) → Names ls i ⊎ AreFreeOf ls i
free_of [] i = inr (λ raws u. refl)
free_of (Truth b ∷ ls) i = by (free_of ls i)
  where
    by : Names ls i ⊎ AreFreeOf ls i → Names (Truth b ∷ ls) i ⊎ AreFreeOf (Truth b ∷ ls) i
    by (inl n) = inl (names_more (Truth b) ls i n)
    by (inr free) = inr (λ raws u. ap (λ k. b && k) (free raws u))
free_of (Flag j b ∷ ls) i = by (cases_eq i j) (free_of ls i)
  where
    by : (i ≡ j) ⊎ (i ≡ j → ⊥) → Names ls i ⊎ AreFreeOf ls i → Names (Flag j b ∷ ls) i ⊎ AreFreeOf (Flag j b ∷ ls) i
    by (inl same) further = inl (0, b, omega arith, ap (λ k. Flag k b) (sym same))
    by (inr other) (inl n) = inl (names_more (Flag j b) ls i n)
    by (inr other) (inr free) = inr (λ raws u k. passes_other j i b other raws u k && free raws u k)

-- ---- what is drawn inside

module _ (decimals : ℕ) (scope : List Bool) (ranges : List Range) (ts : List ℤ) (down : List Bool) (ls : List Literal) (has : All HasPoints ranges) (at : IsPointOf ranges ts) (many : length ts ≡ length ranges)
    (free : All (IsFree (ranges_in scope ranges)) ls) (word : ℕ → ℕ) (words : List ℕ) (t : ts ≡ targets_from word 0 ranges) (w : words ≡ target_words_from word 0 (length ranges)) where
  -- the numbers that come first, with the truths that the literals say
  abbrev raws : List ℤ
  raws = with_literals (firsts_in scope ts) ls

  -- the ranges at hand
  abbrev within : List Range
  within = ranges_in scope ranges

  -- whether raw numbers pass
  abbrev test : List ℤ → Bool
  test vs = holds decimals vs (joined (map literal_formula ls))

  words_many : length words ≡ length within
  words_many = ap length w ∙ target_words_len word 0 (length ranges) ∙ sym (ranges_long scope ranges)

  aimed : (i : ℕ) → i < length within → IsAimed (get_or within i zero_alone) (get_or words i 0) (get_or (firsts_in scope ts) i (pos 0))
  aimed i l =
      let range = get_or within i zero_alone in
      subst (λ (vs : List ℤ). IsAimed range (get_or words i 0) (get_or (firsts_in scope vs) i (pos 0))) (sym t)
      (subst (λ (ws : List ℕ). IsAimed range (get_or ws i 0) (get_or (firsts_in scope (targets_from word 0 ranges)) i (pos 0))) (sym w) (firsts_aimed scope ranges word 0 has i l))

  -- where those meet the literals, they are drawn inside, ..
  module _ (met : list_all (is_met raws) ls ≡ true) where
    first : first_solution test within ts down ≡ Some raws
    first = literals_solved decimals scope ranges ts down ls has at many free met

    -- they are a point of the ranges
    point : IsPointOf within raws
    point = by (first_solution test within ts down) first (first_solution_is_first test within ts down (many ∙ sym (ranges_long scope ranges)))
      where
        by : (o : Option (List ℤ)) → o ≡ Some raws → MatchOption o (IsSatisfiable test within → ⊥) (λ vs. IsPointOf within vs × IsTrue (test vs) × IsFirst test within (orders_from within ts down) vs) → IsPointOf within raws
        by None e h = absurd (cc e)
        by (Some vs) e h = let same : vs ≡ raws = cc e in subst (IsPointOf within) same h.0

    led : AreLedInside test within words raws
    led i l = by (named ls (firsts_in scope ts) i) (free_of ls i)
      where
        only : Names ls i → IsLedInside test i (get_or within i zero_alone) (get_or words i 0) (get_or raws i (pos 0))
        only n = inl (named_only decimals scope ranges ts down ls has at many free met i n)

        by : Names ls i ⊎ (get_or raws i (pos 0) ≡ get_or (firsts_in scope ts) i (pos 0)) → Names ls i ⊎ AreFreeOf ls i → IsLedInside test i (get_or within i zero_alone) (get_or words i 0) (get_or raws i (pos 0))
        by (inl n) other = only n
        by (inr e) (inl n) = only n
        by (inr e) (inr none) = inr (
          subst (IsAimed (get_or within i zero_alone) (get_or words i 0)) (sym e) (aimed i l),
          λ vs u. joined_holds decimals (set vs i u) ls ∙ none vs u ∙ sym (joined_holds decimals vs ls),
        )

    inside : inside_solution test within words down ≡ Some raws
    inside = led_inside test within words down raws words_many point led (met_passes_all decimals scope ranges ts down ls has at many free met)

    -- .. so by each rule they are what is drawn, ..
    pub literals_drawn : (draw : Draw) → drawn_solution draw test within ts words down ≡ Some raws
    literals_drawn Up = first
    literals_drawn Directed = first
    literals_drawn Inside = inside

  -- .. and else nothing is
  module _ (unmet : list_all (is_met raws) ls ≡ false) where
    pub literals_undrawn : (draw : Draw) → drawn_solution draw test within ts words down ≡ None
    literals_undrawn Up = literals_unsolved decimals scope ranges ts down ls has at many free unmet
    literals_undrawn Directed = literals_unsolved decimals scope ranges ts down ls has at many free unmet
    literals_undrawn Inside = none_inside test within words down words_many (unmet_fails decimals scope ranges ts down ls has at many free unmet)
