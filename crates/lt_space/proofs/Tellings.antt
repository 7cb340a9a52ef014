-- What forms and formulas are, by the shape of an expression, and what is told of them where there is a fault.
use Rattle.std.proofs.Common.{◌≡◌, ℕ, ◌^◌, true, false, pos, refl, ap, sym, ◌∙◌, subst, Result, Ok, Err, if◌then◌else◌}
use Rattle.lt_linear.specs.Form.{constant_form, form_difference, variable_form}
use Rattle.lt_num.specs.Value.{is_true}
use Rattle.lt_num.specs.declared.fault.Arith.{Arith}
use Rattle.lt_formula.specs.Expression.{Expression, constant, variable, previous, unary, binary, choice}
use Rattle.lt_space.specs.Formula.{atom, negation}
use Rattle.lt_formula.specs.Kinds.{Kinds, kind_of_variable, number_of}
use Rattle.lt_space.specs.Meaning.{after, binary_form, binary_formula, choice_formula, decimals_of, form_of, formula_of, is_known, known_form, known_formula}
use Rattle.lt_space.specs.Refusal.{Tells}
use Rattle.lt_space.specs.inner.Both.{both}
use Rattle.lt_formula.specs.Valuation.{Valuation, value_under}
use Rattle.lt_space.specs.declared.formula.Atom.TheVariants.{Flag}
use Rattle.lt_formula.specs.declared.operator.BinaryOperator.{BinaryOperator}
use Rattle.lt_formula.specs.declared.operator.UnaryOperator.{UnaryOperator}
use Rattle.lt_space.specs.declared.refusal.FormulaRefusal.{FormulaRefusal}
use Rattle.lt_space.specs.declared.refusal.FormulaRefusal.TheVariants.{Fault, Memory}
use Rattle.lt_formula.specs.declared.role.Role.{Role}

-- a refusal of a part is one of the whole
pub refused_after : {A B C D : Type 0} (view : A → B) (other : C → D) (r : FormulaRefusal) (due : Result B Arith) (f : B → Result D Arith) → Tells view (Err r) due → Tells other (Err r) (after due f)
refused_after view other (Fault fault) due f h = ap (λ answer. after answer f) h
refused_after view other Memory due f h = tt

-- what comes of a part that there is
pub told_after : {A B C D : Type 0} (view : A → B) (other : C → D) (a : A) (answer : Result C FormulaRefusal) (due : Result B Arith) (f : B → Result D Arith) → Tells view (Ok a) due → Tells other answer (f (view a)) → Tells other answer (after due f)
told_after view other a answer due f h k = subst (λ d. Tells other answer (after d f)) h k

-- the same where the part is a value
pub value_after : {B C D : Type 0} (other : C → D) (a : B) (answer : Result C FormulaRefusal) (due : Result B Arith) (f : B → Result D Arith) → Ok a ≡ due → Tells other answer (f a) → Tells other answer (after due f)
value_after other a answer due f h k = subst (λ d. Tells other answer (after d f)) h k

pub fault_after : {B C D : Type 0} (other : C → D) (fault : Arith) (due : Result B Arith) (f : B → Result D Arith) → Err fault ≡ due → Tells other (Err (Fault fault)) (after due f)
fault_after other fault due f h = ap (λ answer. after answer f) h

-- the same of two parts
after_both : {A B D : Type 0} (a : Result A Arith) (b : Result B Arith) (f : A → B → Result D Arith) → after (both a b) (λ p. f p.0 p.1) ≡ after a (λ x. after b (f x))
after_both (Ok x) (Ok y) f = refl
after_both (Ok x) (Err fault) f = refl
after_both (Err fault) b f = refl

pub refused_after_both : {A B C D E : Type 0} (view : E → A × B) (other : C → D) (r : FormulaRefusal) (a : Result A Arith) (b : Result B Arith) (f : A → B → Result D Arith)
    → Tells view (Err r) (both a b) → Tells other (Err r) (after a (λ x. after b (f x)))
refused_after_both view other r a b f h = subst (λ d. Tells other (Err r) d) (after_both a b f) (refused_after view other r (both a b) (λ p. f p.0 p.1) h)

pub told_after_both : {A B C D E : Type 0} (view : E → A × B) (other : C → D) (pair : E) (answer : Result C FormulaRefusal) (a : Result A Arith) (b : Result B Arith) (f : A → B → Result D Arith)
    → Tells view (Ok pair) (both a b) → Tells other answer (f (view pair).0 (view pair).1) → Tells other answer (after a (λ x. after b (f x)))
told_after_both view other pair answer a b f h k = subst (λ d. Tells other answer d) (after_both a b f) (told_after view other pair answer (both a b) (λ p. f p.0 p.1) h k)

-- the meanings of an expression, by what it is
module _ (v : Valuation) (kinds : Kinds) (x : Expression) where
  form_known_of : (y : Expression) → is_known kinds y ≡ true → form_of v kinds y ≡ known_form v kinds y
  form_known_of (constant k c) h = refl
  form_known_of (variable r i) h =
      ap (λ b. if b then known_form v kinds (variable r i) else Ok (variable_form (number_of kinds r i) (pos (10 ^ decimals_of (kind_of_variable kinds r i) v.decimals)))) h
  form_known_of (previous r i) h = refl
  form_known_of (unary op e) h = ap (λ b. if b then known_form v kinds (unary op e) else after (form_of v kinds e) (form_difference (constant_form (pos 0)))) h
  form_known_of (binary op d e) h = ap (λ b. if b then known_form v kinds (binary op d e) else binary_form op v kinds d e (form_of v kinds d) (form_of v kinds e)) h
  form_known_of (choice c d e) h =
      ap (λ b. if b then known_form v kinds (choice c d e) else after (value_under v kinds c) (λ value. if is_true value then form_of v kinds d else form_of v kinds e)) h

  pub form_known : is_known kinds x ≡ true → form_of v kinds x ≡ known_form v kinds x
  form_known h = form_known_of x h

  pub form_unary : (op : UnaryOperator) (e : Expression) → x ≡ unary op e → is_known kinds x ≡ false → form_of v kinds x ≡ after (form_of v kinds e) (form_difference (constant_form (pos 0)))
  form_unary op e s h =
      ap (form_of v kinds) s
      ∙ ap (λ b. if b then known_form v kinds (unary op e) else after (form_of v kinds e) (form_difference (constant_form (pos 0)))) (sym (ap (is_known kinds) s) ∙ h)

  pub form_binary : (op : BinaryOperator) (d e : Expression) → x ≡ binary op d e → is_known kinds x ≡ false → form_of v kinds x ≡ binary_form op v kinds d e (form_of v kinds d) (form_of v kinds e)
  form_binary op d e s h =
      ap (form_of v kinds) s
      ∙ ap (λ b. if b then known_form v kinds (binary op d e) else binary_form op v kinds d e (form_of v kinds d) (form_of v kinds e)) (sym (ap (is_known kinds) s) ∙ h)

  pub form_choice : (c d e : Expression) → x ≡ choice c d e → is_known kinds x ≡ false → form_of v kinds x ≡ after (value_under v kinds c) (λ value. if is_true value then form_of v kinds d else form_of v kinds e)
  form_choice c d e s h =
      ap (form_of v kinds) s
      ∙ ap (λ b. if b then known_form v kinds (choice c d e) else after (value_under v kinds c) (λ value. if is_true value then form_of v kinds d else form_of v kinds e)) (sym (ap (is_known kinds) s) ∙ h)

  pub form_variable : (r : Role) (i : ℕ) → x ≡ variable r i → is_known kinds x ≡ false → form_of v kinds x ≡ Ok (variable_form (number_of kinds r i) (pos (10 ^ decimals_of (kind_of_variable kinds r i) v.decimals)))
  form_variable r i s h =
      ap (form_of v kinds) s
      ∙ ap (λ b. if b then known_form v kinds (variable r i) else Ok (variable_form (number_of kinds r i) (pos (10 ^ decimals_of (kind_of_variable kinds r i) v.decimals)))) (sym (ap (is_known kinds) s) ∙ h)

  formula_known_of : (y : Expression) → is_known kinds y ≡ true → formula_of v kinds y ≡ known_formula v kinds y
  formula_known_of (constant k c) h = refl
  formula_known_of (variable r i) h = ap (λ b. if b then known_formula v kinds (variable r i) else Ok (atom (Flag (number_of kinds r i)))) h
  formula_known_of (previous r i) h = refl
  formula_known_of (unary op e) h = ap (λ b. if b then known_formula v kinds (unary op e) else after (formula_of v kinds e) (λ f. Ok (negation f))) h
  formula_known_of (binary op d e) h =
      ap (λ b. if b then known_formula v kinds (binary op d e) else binary_formula op v kinds d e (formula_of v kinds d) (formula_of v kinds e)) h
  formula_known_of (choice c d e) h =
      ap (λ b. if b then known_formula v kinds (choice c d e) else choice_formula v kinds c (formula_of v kinds c) (formula_of v kinds d) (formula_of v kinds e)) h

  pub formula_known : is_known kinds x ≡ true → formula_of v kinds x ≡ known_formula v kinds x
  formula_known h = formula_known_of x h

  pub formula_variable : (r : Role) (i : ℕ) → x ≡ variable r i → is_known kinds x ≡ false → formula_of v kinds x ≡ Ok (atom (Flag (number_of kinds r i)))
  formula_variable r i s h =
      ap (formula_of v kinds) s
      ∙ ap (λ b. if b then known_formula v kinds (variable r i) else Ok (atom (Flag (number_of kinds r i)))) (sym (ap (is_known kinds) s) ∙ h)

  pub formula_unary : (op : UnaryOperator) (e : Expression) → x ≡ unary op e → is_known kinds x ≡ false → formula_of v kinds x ≡ after (formula_of v kinds e) (λ f. Ok (negation f))
  formula_unary op e s h =
      ap (formula_of v kinds) s
      ∙ ap (λ b. if b then known_formula v kinds (unary op e) else after (formula_of v kinds e) (λ f. Ok (negation f))) (sym (ap (is_known kinds) s) ∙ h)

  pub formula_binary : (op : BinaryOperator) (d e : Expression) → x ≡ binary op d e → is_known kinds x ≡ false → formula_of v kinds x ≡ binary_formula op v kinds d e (formula_of v kinds d) (formula_of v kinds e)
  formula_binary op d e s h =
      ap (formula_of v kinds) s
      ∙ ap (λ b. if b then known_formula v kinds (binary op d e) else binary_formula op v kinds d e (formula_of v kinds d) (formula_of v kinds e)) (sym (ap (is_known kinds) s) ∙ h)

  pub formula_choice : (c d e : Expression) → x ≡ choice c d e → is_known kinds x ≡ false → formula_of v kinds x ≡ choice_formula v kinds c (formula_of v kinds c) (formula_of v kinds d) (formula_of v kinds e)
  formula_choice c d e s h =
      ap (formula_of v kinds) s
      ∙ ap (λ b. if b then known_formula v kinds (choice c d e) else choice_formula v kinds c (formula_of v kinds c) (formula_of v kinds d) (formula_of v kinds e)) (sym (ap (is_known kinds) s) ∙ h)

pub ruleset tellings = (refused_after, told_after, refused_after_both, told_after_both, value_after, fault_after)

pub ruleset knowns = (form_known, formula_known)
