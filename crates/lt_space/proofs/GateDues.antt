-- What is due for the gates of operators and choices.
use Rattle.std.proofs.Common.{◌≡◌, Bool, true, false, Option, Result, Ok, refl, ap, sym, ◌∙◌, if◌then◌else◌}
use Rattle.lt_num.specs.Value.{is_true}
use Rattle.lt_num.specs.declared.fault.Arith.{Arith}
use Rattle.lt_num.specs.declared.kind.Kind.{Kind}
use Rattle.lt_num.specs.declared.kind.Kind.TheVariants as kind
use Rattle.lt_num.specs.declared.value.Value.{Value}
use Rattle.lt_formula.specs.Expression.{Expression}
use Rattle.lt_formula.specs.Kinds.{Kinds}
use Rattle.lt_formula.specs.Valuation.{Valuation, value_under}
use Rattle.lt_formula.specs.declared.operator.BinaryOperator.{BinaryOperator}
use Rattle.lt_space.specs.Formula.{choice}
use Rattle.lt_space.specs.Meaning.{FormulaAnswer, after, binary_formula, choice_formula, comparison, connected, form_of, is_boolean, is_known, kind_of, settled_truth, unless_settled}

module _ (v : Valuation) (kinds : Kinds) (op : BinaryOperator) (d e : Expression) (a b : FormulaAnswer) where
  -- what connects two Booleans
  abbrev pub connective : FormulaAnswer
  connective = after a (λ f. after b (λ h. Ok (connected op f h)))

  -- an operator on numbers compares them
  pub numbers_due : is_boolean (kind_of kinds d) ≡ false → after (form_of v kinds d) (λ f. after (form_of v kinds e) (λ h. Ok (comparison op (kind_of kinds d) v.decimals f h))) ≡ binary_formula op v kinds d e a b
  numbers_due h =
      sym (ap (λ q. if q then after (settled_truth v kinds op d) (unless_settled connective) else after (form_of v kinds d) (λ f. after (form_of v kinds e) (λ k. Ok (comparison op (kind_of kinds d) v.decimals f k)))) h)

  -- one on Booleans connects them, unless the left one settles it
  booleans_due : is_boolean (kind_of kinds d) ≡ true → after (settled_truth v kinds op d) (unless_settled connective) ≡ binary_formula op v kinds d e a b
  booleans_due h =
      sym (ap (λ q. if q then after (settled_truth v kinds op d) (unless_settled connective) else after (form_of v kinds d) (λ f. after (form_of v kinds e) (λ k. Ok (comparison op (kind_of kinds d) v.decimals f k)))) h)

  pub settled_due : (answer : Result (Option Bool) Arith) → is_boolean (kind_of kinds d) ≡ true → answer ≡ settled_truth v kinds op d → after answer (unless_settled connective) ≡ binary_formula op v kinds d e a b
  settled_due answer h is = ap (λ (r : Result (Option Bool) Arith). after r (unless_settled connective)) is ∙ booleans_due h

-- what a choice is whose condition is known, ..
pub chosen_due : (v : Valuation) (kinds : Kinds) (c : Expression) (a b d : FormulaAnswer) (answer : Result Value Arith) → is_known kinds c ≡ true → answer ≡ value_under v kinds c
    → after answer (λ value. if is_true value then b else d) ≡ choice_formula v kinds c a b d
chosen_due v kinds c a b d answer h is =
    ap (λ (r : Result Value Arith). after r (λ value. if is_true value then b else d)) is
    ∙ sym (ap (λ q. if q then after (value_under v kinds c) (λ value. if is_true value then b else d) else after a (λ f. after b (λ g. after d (λ k. Ok (choice f g k))))) h)

-- .. and one whose condition isn't
pub open_due : (v : Valuation) (kinds : Kinds) (c : Expression) (a b d : FormulaAnswer) → is_known kinds c ≡ false → after a (λ f. after b (λ g. after d (λ h. Ok (choice f g h)))) ≡ choice_formula v kinds c a b d
open_due v kinds c a b d h =
    sym (ap (λ q. if q then after (value_under v kinds c) (λ value. if is_true value then b else d) else after a (λ f. after b (λ g. after d (λ k. Ok (choice f g k))))) h)

-- what is no Boolean
pub not_boolean : (k : Kind) → (k ≡ kind.Bool → ⊥) → is_boolean k ≡ false
not_boolean kind.Bool h = absurd (h refl)
not_boolean kind.Int h = refl
not_boolean kind.Real h = refl
