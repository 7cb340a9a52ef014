-- Constraints hold together where each of them does.
use Rattle.std.proofs.Common.{◌≡◌, ◌∙◌, ℕ, ℤ, Bool, true, false, List, [], ◌∷◌, map, ap, refl, sym}
use Rattle.std.specs.Prelude.{◌&&◌, Ok, Err}
use Rattle.std.specs.List.{fold, list_all}
use Rattle.std.specs.declared.result.Result.{Result}
use Rattle.lt_num.specs.declared.fault.Arith.{Arith}
use Rattle.lt_formula.specs.Expression.{Expression}
use Rattle.lt_formula.specs.Kinds.{Kinds}
use Rattle.lt_formula.specs.Valuation.{Valuation}
use Rattle.lt_space.specs.Formula.{Formula, conjunction, holds}
use Rattle.lt_space.specs.Meaning.{FormulaAnswer, after, formula_of, formula_of_all, formulas_of, joined}

and_true : (a : Bool) → (a && true) ≡ a
and_true true = refl
and_true false = refl

and_false : (a : Bool) → false ≡ (a && false)
and_false true = refl
and_false false = refl

and_three : (a b c : Bool) → ((a && b) && c) ≡ (a && (b && c))
and_three true b c = refl
and_three false b c = refl

module _ (decimals : ℕ) (raws : List ℤ) where
  -- whether a formula holds; where there is a fault in its place, it doesn't
  abbrev pub answered : FormulaAnswer → Bool
  answered (Ok f) = holds decimals raws f
  answered (Err x) = false

  abbrev all_answered : Result (List Formula) Arith → Bool
  all_answered (Ok fs) = list_all (holds decimals raws) fs
  all_answered (Err x) = false

  joined_holds : (f : Formula) (fs : List Formula) → holds decimals raws (fold conjunction f fs) ≡ (holds decimals raws f && list_all (holds decimals raws) fs)
  joined_holds f [] = sym (and_true (holds decimals raws f))
  joined_holds f (g ∷ gs) = joined_holds (conjunction f g) gs ∙ and_three (holds decimals raws f) (holds decimals raws g) (list_all (holds decimals raws) gs)

  all_joined : (fs : List Formula) → holds decimals raws (joined fs) ≡ list_all (holds decimals raws) fs
  all_joined [] = refl
  all_joined (f ∷ fs) = joined_holds f fs

  after_joined : (y : Result (List Formula) Arith) → answered (after y (λ fs. Ok (joined fs))) ≡ all_answered y
  after_joined (Ok fs) = all_joined fs
  after_joined (Err x) = refl

  one_more : (x : FormulaAnswer) (y : Result (List Formula) Arith) → all_answered (after x (λ f. after y (λ fs. Ok (f ∷ fs)))) ≡ (answered x && all_answered y)
  one_more (Ok f) (Ok fs) = refl
  one_more (Ok f) (Err x) = and_false (holds decimals raws f)
  one_more (Err x) y = refl

  module _ (v : Valuation) (kinds : Kinds) where
    each_formula : (es : List Expression) → all_answered (formulas_of v kinds es) ≡ list_all (λ e. answered (formula_of v kinds e)) es
    each_formula [] = refl
    each_formula (e ∷ es) = one_more (formula_of v kinds e) (formulas_of v kinds es) ∙ ap (λ b. answered (formula_of v kinds e) && b) (each_formula es)

    all_formulas : (es : List Expression) → answered (formula_of_all v kinds es) ≡ list_all (λ e. answered (formula_of v kinds e)) es
    all_formulas es = after_joined (formulas_of v kinds es) ∙ each_formula es

    one_formula : (e : Expression) → answered (formula_of_all v kinds (e ∷ [])) ≡ answered (formula_of v kinds e)
    one_formula e = all_formulas (e ∷ []) ∙ and_true (answered (formula_of v kinds e))

    -- numbers of constraints hold together where each does
    pub each_holds : (meaning : ℕ → Expression) (cs : List ℕ) → answered (formula_of_all v kinds (map meaning cs)) ≡ list_all (λ c. answered (formula_of_all v kinds (meaning c ∷ []))) cs
    each_holds meaning cs = all_formulas (map meaning cs) ∙ by_number cs
      where
        by_number : (cs : List ℕ) → list_all (λ e. answered (formula_of v kinds e)) (map meaning cs) ≡ list_all (λ c. answered (formula_of_all v kinds (meaning c ∷ []))) cs
        by_number [] = refl
        by_number (c ∷ cs) = λ i. sym (one_formula (meaning c)) i && by_number cs i
