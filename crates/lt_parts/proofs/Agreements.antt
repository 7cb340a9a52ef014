-- What parts say of an instant is what the formulas of constraints say.
use Rattle.std.proofs.Common.{◌≡◌, ℕ, ◌<◌, Bool, true, false, not, ◌&&◌, ◌||◌, inl, inr, List, [], ◌∷◌, ◌++◌, map, Option, None, Some, Result, Ok, Err, refl, ap, sym, ◌∙◌, subst, slice_index_or, if◌then◌else◌}
use Rattle.lt_num.specs.Value.{is_true}
use Rattle.lt_num.specs.declared.fault.Arith.{Arith}
use Rattle.lt_num.specs.declared.kind.Kind.{Kind}
use Rattle.lt_num.specs.declared.value.Value.{Value}
use Rattle.lt_formula.specs.Expression.{Expression, constant, variable, previous, unary, binary, choice}
use Rattle.lt_formula.specs.Facts.{facts_of}
use Rattle.lt_formula.specs.Kinds.{Kinds, number_of}
use Rattle.lt_formula.specs.Operators.{Answer, and_then, binary_value, settled}
use Rattle.lt_formula.specs.Valuation.{Valuation, settled_or, value_under}
use Rattle.lt_formula.specs.View.{table_kinds, table_len}
use Rattle.lt_formula.specs.declared.operator.BinaryOperator.{BinaryOperator}
use Rattle.lt_formula.specs.declared.operator.BinaryOperator.TheVariants as two
use Rattle.lt_formula.specs.declared.operator.UnaryOperator.{UnaryOperator}
use Rattle.lt_formula.specs.declared.role.Role.{Role}
use Rattle.lt_formula.specs.declared.table.Table.{Table}
use Rattle.lt_linear.specs.declared.form.Form.{Form}
use Rattle.lt_parts.specs.Agreement.{AreFilled, PartsAgree, conjuncts_of_all, filled, filled_piece, told_or}
use Rattle.lt_parts.specs.Outline.{Outlines, OutlinesComparison, conjuncts_of, is_conjunction}
use Rattle.lt_parts.specs.Part.{AreParts, IsFlagOf, IsPart, Piece, at}
use Rattle.lt_parts.proofs.Conjoined.{and_conjuncts, both, both_true, flat, flat_append, joined_flat}
use Rattle.lt_space.specs.Absorbed.{absorbed, and_of, choice_of, conjuncts, not_of, or_of, xor_of}
use Rattle.lt_space.specs.Evaluated.{Either, EvaluateSome, Evaluates, Where, is_and, is_divided, is_settled, is_truth}
use Rattle.lt_space.specs.Formula.{Formula, atom, conjunction, disjunction, exclusive, negation, truth}
use Rattle.lt_space.specs.Formula as formula
use Rattle.lt_space.specs.LoadedView.{atom_of, told_atom}
use Rattle.lt_space.specs.Meaning.{FormulaAnswer, after, binary_formula, choice_formula, comparison, connected, form_of, formula_of, formulas_of, is_boolean, is_known, joined, kind_of, known_formula, settled_truth, unless_settled}
use Rattle.lt_space.specs.SpaceView.{space_formula, space_told, space_wanted}
use Rattle.lt_space.specs.declared.formula.Atom.TheVariants.{Flag}

-- Answers.

-- what comes of a part that there is
after_is : {A B : Type 0} (a : Result A Arith) (f : A → Result B Arith) (y : B) → Ok y ≡ after a f → (x : A) × (Ok x ≡ a) × (Ok y ≡ f x)
after_is (Ok x) f y h = (x, refl, h)
after_is {A} {B} (Err fault) f y h = absurd (clash y fault h)
  where
    clash : (y : B) (fault : Arith) → ◌≡◌ {A = Result B Arith} (Ok y) (Err fault) → ⊥
    clash y fault h = cc

value_is : (a : Answer) (f : Value → Answer) (w : Value) → Ok w ≡ and_then a f → (x : Value) × (Ok x ≡ a) × (Ok w ≡ f x)
value_is (Ok x) f w h = (x, refl, h)
value_is (Err fault) f w h = absurd (clash w fault h)
  where
    clash : (w : Value) (fault : Arith) → ◌≡◌ {A = Answer} (Ok w) (Err fault) → ⊥
    clash w fault h = cc

-- answers that are there are equal
same_ok : (f g : Formula) → ◌≡◌ {A = FormulaAnswer} (Ok f) (Ok g) → f ≡ g
same_ok f g h = cc

same_some : {A : Type 0} (x y : A) → Some x ≡ Some y → x ≡ y
same_some x y h = cc

and_true : (a b : Bool) → (a && b) ≡ true → (a ≡ true) × (b ≡ true)
and_true true b h = (refl, h)
and_true false b h = absurd (cc)

both_true_of : (a b : Bool) → a ≡ true → b ≡ true → (a && b) ≡ true
both_true_of a b h k = ap (λ x. x && b) h ∙ k

where_in : (b : Bool) (P : Type 0) → b ≡ true → P → Where b P
where_in true P h p = p
where_in false P h p = absurd (cc)

either_first : (b : Bool) (P Q : Type 0) → b ≡ true → Either b P Q → P
either_first true P Q h p = p
either_first false P Q h p = absurd (cc)

either_second : (b : Bool) (P Q : Type 0) → b ≡ false → Either b P Q → Q
either_second true P Q h p = absurd (cc)
either_second false P Q h p = p

in_first : (b : Bool) (P Q : Type 0) → b ≡ true → P → Either b P Q
in_first true P Q h p = p
in_first false P Q h p = absurd (cc)

in_second : (b : Bool) (P Q : Type 0) → b ≡ false → Q → Either b P Q
in_second true P Q h p = absurd (cc)
in_second false P Q h p = p

not_false : (b : Bool) → b ≡ false → not b ≡ true
not_false b h = ap not h

not_not : (b : Bool) → not b ≡ false → b ≡ true
not_not true h = refl
not_not false h = absurd (cc)

not_true : (b : Bool) → not b ≡ true → b ≡ false
not_true true h = absurd (cc)
not_true false h = refl

-- What an expression is in an instant.

module _ (v : Valuation) (kinds : Kinds) where
  known_is : (e : Expression) → is_known kinds e ≡ true → formula_of v kinds e ≡ known_formula v kinds e
  known_is (constant k c) h = refl
  known_is (variable r i) h = ap (λ b. if b then known_formula v kinds (variable r i) else Ok (atom (Flag (number_of kinds r i)))) h
  known_is (previous r i) h = refl
  known_is (unary op e) h = ap (λ b. if b then known_formula v kinds (unary op e) else after (formula_of v kinds e) (λ f. Ok (negation f))) h
  known_is (binary op d e) h =
      ap (λ b. if b then known_formula v kinds (binary op d e) else binary_formula op v kinds d e (formula_of v kinds d) (formula_of v kinds e)) h
  known_is (choice c d e) h =
      ap (λ b. if b then known_formula v kinds (choice c d e) else choice_formula v kinds c (formula_of v kinds c) (formula_of v kinds d) (formula_of v kinds e)) h

  -- a known Boolean is a truth, and has a value
  known_truth : (e : Expression) (h : Formula) → is_known kinds e ≡ true → Ok h ≡ formula_of v kinds e → (x : Value) × (Ok x ≡ value_under v kinds e) × (h ≡ truth (is_true x))
  known_truth e h known is =
      let value = after_is (value_under v kinds e) (λ x. Ok (truth (is_true x))) h (is ∙ known_is e known) in
      (value.0, value.1, same_ok h (truth (is_true value.0)) value.2)

  -- and what has a value is due
  known_due : (e : Expression) (x : Value) → is_known kinds e ≡ true → Ok x ≡ value_under v kinds e → Ok (truth (is_true x)) ≡ formula_of v kinds e
  known_due e x known is = ap (λ (r : Answer). after r (λ w. Ok (truth (is_true w)))) is ∙ sym (known_is e known)

  unary_is : (op : UnaryOperator) (e : Expression) → is_known kinds (unary op e) ≡ false → formula_of v kinds (unary op e) ≡ after (formula_of v kinds e) (λ f. Ok (negation f))
  unary_is op e h = ap (λ b. if b then known_formula v kinds (unary op e) else after (formula_of v kinds e) (λ f. Ok (negation f))) h

  binary_is : (op : BinaryOperator) (d e : Expression) → is_known kinds (binary op d e) ≡ false → formula_of v kinds (binary op d e) ≡ binary_formula op v kinds d e (formula_of v kinds d) (formula_of v kinds e)
  binary_is op d e h = ap (λ b. if b then known_formula v kinds (binary op d e) else binary_formula op v kinds d e (formula_of v kinds d) (formula_of v kinds e)) h

  module _ (op : BinaryOperator) (d e : Expression) where
    abbrev pub connective : FormulaAnswer
    connective = after (formula_of v kinds d) (λ f. after (formula_of v kinds e) (λ h. Ok (connected op f h)))

    abbrev pub compared_numbers : FormulaAnswer
    compared_numbers = after (form_of v kinds d) (λ f. after (form_of v kinds e) (λ h. Ok (comparison op (kind_of kinds d) v.decimals f h)))

    connective_is : is_known kinds (binary op d e) ≡ false → is_boolean (kind_of kinds d) ≡ true → formula_of v kinds (binary op d e) ≡ after (settled_truth v kinds op d) (unless_settled connective)
    connective_is h k = binary_is op d e h ∙ ap (λ b. if b then after (settled_truth v kinds op d) (unless_settled connective) else compared_numbers) k

    comparison_is : is_known kinds (binary op d e) ≡ false → is_boolean (kind_of kinds d) ≡ false → formula_of v kinds (binary op d e) ≡ compared_numbers
    comparison_is h k = binary_is op d e h ∙ ap (λ b. if b then after (settled_truth v kinds op d) (unless_settled connective) else compared_numbers) k

    -- a comparison of forms
    forms_of : (h : Formula) → is_known kinds (binary op d e) ≡ false → is_boolean (kind_of kinds d) ≡ false → Ok h ≡ formula_of v kinds (binary op d e)
        → (a : Form) × (b : Form) × (h ≡ comparison op (kind_of kinds d) v.decimals a b)
    forms_of h unknown numbers is =
        let first = after_is (form_of v kinds d) (λ f. after (form_of v kinds e) (λ k. Ok (comparison op (kind_of kinds d) v.decimals f k))) h (is ∙ comparison_is unknown numbers) in
        let second = after_is (form_of v kinds e) (λ k. Ok (comparison op (kind_of kinds d) v.decimals first.0 k)) h first.2 in
        (first.0, second.0, same_ok h (comparison op (kind_of kinds d) v.decimals first.0 second.0) second.2)

    settled_is : (s : Option Bool) → Ok s ≡ settled_truth v kinds op d → (b : Bool) → s ≡ Some b → (is_known kinds d ≡ true) × ((x : Value) × (Ok x ≡ value_under v kinds d) × (settled op x ≡ Some b))
    settled_is s is b some = by (is_known kinds d) refl
      where
        same : (s r : Option Bool) → ◌≡◌ {A = Result (Option Bool) Arith} (Ok s) (Ok r) → s ≡ r
        same s r h = cc

        none : (s : Option Bool) (b : Bool) → s ≡ Some b → s ≡ None → ⊥
        none s b h k = cc

        by : (q : Bool) → is_known kinds d ≡ q → (is_known kinds d ≡ true) × ((x : Value) × (Ok x ≡ value_under v kinds d) × (settled op x ≡ Some b))
        by true known =
            let value = after_is (value_under v kinds d) (λ w. Ok (settled op w)) s (is ∙ ap (λ q. if q then after (value_under v kinds d) (λ w. Ok (settled op w)) else Ok None) known) in
            (known, (value.0, value.1, sym (same s (settled op value.0) value.2) ∙ some))
        by false unknown = absurd (none s b some (same s None (is ∙ ap (λ q. if q then after (value_under v kinds d) (λ w. Ok (settled op w)) else Ok None) unknown)))

    -- what a known left part with a value settles
    settled_known : (x : Value) → is_known kinds d ≡ true → Ok x ≡ value_under v kinds d → Ok (settled op x) ≡ settled_truth v kinds op d
    settled_known x known is =
        ap (λ (r : Answer). after r (λ w. Ok (settled op w))) is ∙ sym (ap (λ q. if q then after (value_under v kinds d) (λ w. Ok (settled op w)) else Ok None) known)

  module _ (c d e : Expression) (unknown : is_known kinds (choice c d e) ≡ false) where
    abbrev pub chosen : FormulaAnswer
    chosen = after (value_under v kinds c) (λ value. if is_true value then formula_of v kinds d else formula_of v kinds e)

    abbrev pub open_choice : FormulaAnswer
    open_choice = after (formula_of v kinds c) (λ f. after (formula_of v kinds d) (λ g. after (formula_of v kinds e) (λ h. Ok (formula.choice f g h))))

    choice_is : formula_of v kinds (choice c d e) ≡ choice_formula v kinds c (formula_of v kinds c) (formula_of v kinds d) (formula_of v kinds e)
    choice_is = ap (λ b. if b then known_formula v kinds (choice c d e) else choice_formula v kinds c (formula_of v kinds c) (formula_of v kinds d) (formula_of v kinds e)) unknown

    chosen_is : is_known kinds c ≡ true → formula_of v kinds (choice c d e) ≡ chosen
    chosen_is h = choice_is ∙ ap (λ b. if b then chosen else open_choice) h

    open_is : is_known kinds c ≡ false → formula_of v kinds (choice c d e) ≡ open_choice
    open_is h = choice_is ∙ ap (λ b. if b then chosen else open_choice) h

-- Connectives.

settles_and : (x : Value) (b : Bool) (f g : Formula) → settled two.And x ≡ Some b → absorbed f ≡ truth (is_true x) → and_of (absorbed f) (absorbed g) ≡ truth b
unfolding settled
settles_and x b f g h k = by (is_true x) refl
  where
    by : (q : Bool) → is_true x ≡ q → and_of (absorbed f) (absorbed g) ≡ truth b
    by true e = absurd (let n : None ≡ Some b = sym (ap (λ q. if q then None else Some false) e) ∙ h in cc)
    by false e = ap (λ y. and_of y (absorbed g)) (k ∙ ap truth e) ∙ ap truth (same_some false b (sym (ap (λ q. if q then None else Some false) e) ∙ h))

settles_or : (x : Value) (b : Bool) (f g : Formula) → settled two.Or x ≡ Some b → absorbed f ≡ truth (is_true x) → or_of (absorbed f) (absorbed g) ≡ truth b
unfolding settled
settles_or x b f g h k = by (is_true x) refl
  where
    by : (q : Bool) → is_true x ≡ q → or_of (absorbed f) (absorbed g) ≡ truth b
    by true e = ap (λ y. or_of y (absorbed g)) (k ∙ ap truth e) ∙ ap truth (same_some true b (sym (ap (λ q. if q then Some true else None) e) ∙ h))
    by false e = absurd (let n : None ≡ Some b = sym (ap (λ q. if q then Some true else None) e) ∙ h in cc)

settles_implies : (x : Value) (b : Bool) (f g : Formula) → settled two.Implies x ≡ Some b → absorbed f ≡ truth (is_true x) → or_of (not_of (absorbed f)) (absorbed g) ≡ truth b
unfolding settled
settles_implies x b f g h k = by (is_true x) refl
  where
    by : (q : Bool) → is_true x ≡ q → or_of (not_of (absorbed f)) (absorbed g) ≡ truth b
    by true e = absurd (let n : None ≡ Some b = sym (ap (λ q. if q then None else Some true) e) ∙ h in cc)
    by false e = ap (λ y. or_of (not_of y) (absorbed g)) (k ∙ ap truth e) ∙ ap truth (same_some true b (sym (ap (λ q. if q then None else Some true) e) ∙ h))

-- an operator that its left part settles is the truth that this gives
settles : (op : BinaryOperator) (x : Value) (b : Bool) (f g : Formula) → settled op x ≡ Some b → absorbed f ≡ truth (is_true x) → absorbed (connected op f g) ≡ truth b
unfolding settled
settles two.And x b f g h k = settles_and x b f g h k
settles two.Or x b f g h k = settles_or x b f g h k
settles two.Implies x b f g h k = settles_implies x b f g h k
settles two.Xor x b f g h k = absurd (cc)
settles two.Eq x b f g h k = absurd (cc)
settles two.Ne x b f g h k = absurd (cc)
settles two.Lt x b f g h k = absurd (cc)
settles two.Le x b f g h k = absurd (cc)
settles two.Gt x b f g h k = absurd (cc)
settles two.Ge x b f g h k = absurd (cc)
settles two.Add x b f g h k = absurd (cc)
settles two.Sub x b f g h k = absurd (cc)
settles two.Mul x b f g h k = absurd (cc)
settles two.Div x b f g h k = absurd (cc)
settles two.Mod x b f g h k = absurd (cc)

-- what an operator gives, by its parts with truths absorbed
absorbed_by : BinaryOperator → Formula → Formula → Formula
absorbed_by two.And a b = and_of a b
absorbed_by two.Or a b = or_of a b
absorbed_by two.Implies a b = or_of (not_of a) b
absorbed_by two.Xor a b = xor_of a b
absorbed_by two.Ne a b = xor_of a b
absorbed_by op a b = not_of (xor_of a b)

connected_absorbed : (op : BinaryOperator) (f g : Formula) → absorbed (connected op f g) ≡ absorbed_by op (absorbed f) (absorbed g)
unfolding absorbed_by
connected_absorbed two.And f g = refl
connected_absorbed two.Or f g = refl
connected_absorbed two.Implies f g = refl
connected_absorbed two.Xor f g = refl
connected_absorbed two.Ne f g = refl
connected_absorbed two.Eq f g = refl
connected_absorbed two.Lt f g = refl
connected_absorbed two.Le f g = refl
connected_absorbed two.Gt f g = refl
connected_absorbed two.Ge f g = refl
connected_absorbed two.Add f g = refl
connected_absorbed two.Sub f g = refl
connected_absorbed two.Mul f g = refl
connected_absorbed two.Div f g = refl
connected_absorbed two.Mod f g = refl

connected_filled : (put : ℕ → Formula) (op : BinaryOperator) (f g : Formula) → filled put (connected op f g) ≡ connected op (filled put f) (filled put g)
connected_filled put two.And f g = refl
connected_filled put two.Or f g = refl
connected_filled put two.Implies f g = refl
connected_filled put two.Xor f g = refl
connected_filled put two.Ne f g = refl
connected_filled put two.Eq f g = refl
connected_filled put two.Lt f g = refl
connected_filled put two.Le f g = refl
connected_filled put two.Gt f g = refl
connected_filled put two.Ge f g = refl
connected_filled put two.Add f g = refl
connected_filled put two.Sub f g = refl
connected_filled put two.Mul f g = refl
connected_filled put two.Div f g = refl
connected_filled put two.Mod f g = refl

-- what `and` settles is false
settled_and : (x : Value) (b : Bool) → settled two.And x ≡ Some b → (is_true x ≡ false) × (b ≡ false)
unfolding settled
settled_and x b h = by (is_true x) refl
  where
    by : (q : Bool) → is_true x ≡ q → (is_true x ≡ false) × (b ≡ false)
    by true e = absurd (let n : None ≡ Some b = sym (ap (λ q. if q then None else Some false) e) ∙ h in cc)
    by false e = (e, sym (same_some false b (sym (ap (λ q. if q then None else Some false) e) ∙ h)))

-- the value of `and`
and_value : (k : Kind) (decimals : ℕ) (a b w : Value) → Ok w ≡ binary_value two.And k decimals a b → is_true w ≡ (is_true a && is_true b)
unfolding binary_value
and_value k decimals a b w h = ap is_true (same (w) _ h)
  where
    same : (x y : Value) → ◌≡◌ {A = Answer} (Ok x) (Ok y) → x ≡ y
    same x y h = cc

-- the value of what is settled
settled_value : (b : Bool) (w : Value) (answer : Answer) → Ok w ≡ settled_or (Some b) answer → is_true w ≡ b
settled_value b w answer h = ap is_true (same w _ h)
  where
    same : (x y : Value) → ◌≡◌ {A = Answer} (Ok x) (Ok y) → x ≡ y
    same x y h = cc

both_truths : (a b : Bool) → both (truth a ∷ []) (truth b ∷ []) ≡ truth (a && b) ∷ []
both_truths true b = refl
both_truths false b = refl

or_true : (b : Bool) → (b || true) ≡ true
or_true true = refl
or_true false = refl

and_is : (op : BinaryOperator) → is_and op ≡ true → op ≡ two.And
and_is two.And h = refl
and_is two.Or h = absurd (cc)
and_is two.Implies h = absurd (cc)
and_is two.Xor h = absurd (cc)
and_is two.Eq h = absurd (cc)
and_is two.Ne h = absurd (cc)
and_is two.Lt h = absurd (cc)
and_is two.Le h = absurd (cc)
and_is two.Gt h = absurd (cc)
and_is two.Ge h = absurd (cc)
and_is two.Add h = absurd (cc)
and_is two.Sub h = absurd (cc)
and_is two.Mul h = absurd (cc)
and_is two.Div h = absurd (cc)
and_is two.Mod h = absurd (cc)

module _ (v : Valuation) (t : Table) (told : ℕ → Option Formula) where
  -- what is told of an expression is what it is
  abbrev pub IsToldOf : Expression → Type 0
  IsToldOf x = (n : ℕ) → n < table_len t → at t n ≡ x → (f : Formula) × (told n ≡ Some f) × (Ok f ≡ formula_of v (table_kinds t) x)

  -- so it is of all that is evaluated for another
  abbrev pub AreTold : Expression → Type 0
  AreTold e = (x : Expression) → Evaluates v (table_kinds t) e x → IsToldOf x

  module _ (atoms : List ℕ) (choose : ℕ → Bool) where
    abbrev pub put : ℕ → Formula
    put i = told_or (told_atom (told (slice_index_or atoms i 0))) (choose i)

    leaf : (x : Expression) (f h : Formula) → IsFlagOf t atoms x f → IsToldOf x → Ok h ≡ formula_of v (table_kinds t) x → (b : Bool) × (filled put f ≡ told_or (atom_of h) b)
    leaf x f h flag told_of is =
        let answer = told_of flag.1 flag.4 flag.5 in
        let same : told (slice_index_or atoms flag.0 0) ≡ Some h = ap told flag.3 ∙ answer.1 ∙ ap Some (same_ok answer.0 h (answer.2 ∙ sym is)) in
        (choose flag.0, ap (filled put) flag.6 ∙ ap (λ o. told_or (told_atom o) (choose flag.0)) same)

    leaf_as : (x : Expression) (f h y : Formula) → IsFlagOf t atoms x f → IsToldOf x → Ok h ≡ formula_of v (table_kinds t) x → h ≡ y → ((b : Bool) → told_or (atom_of y) b ≡ y) → filled put f ≡ h
    leaf_as x f h y flag told_of is e plain =
        let l = leaf x f h flag told_of is in l.1 ∙ ap (λ z. told_or (atom_of z) l.0) e ∙ plain l.0 ∙ sym e

    comparison_agrees : (op : BinaryOperator) (x : Expression) (k : Kind) (decimals : ℕ) (a b : Form) (f h : Formula) → OutlinesComparison (IsFlagOf t atoms x) op f → IsToldOf x → Ok h ≡ formula_of v (table_kinds t) x
        → h ≡ comparison op k decimals a b → filled put f ≡ h
    comparison_agrees two.Ne x k decimals a b f h o told_of is e =
        let l = leaf x o.0 h o.2 told_of is in
        ap (filled put) o.1 ∙ ap negation (l.1 ∙ ap (λ z. told_or (atom_of z) l.0) e) ∙ sym e
    comparison_agrees two.Eq x k decimals a b f h o told_of is e = leaf_as x f h _ o told_of is e (λ b. refl)
    comparison_agrees two.Lt x k decimals a b f h o told_of is e = leaf_as x f h _ o told_of is e (λ b. refl)
    comparison_agrees two.Le x k decimals a b f h o told_of is e = leaf_as x f h _ o told_of is e (λ b. refl)
    comparison_agrees two.Gt x k decimals a b f h o told_of is e = leaf_as x f h _ o told_of is e (λ b. refl)
    comparison_agrees two.Ge x k decimals a b f h o told_of is e = leaf_as x f h _ o told_of is e (λ b. refl)
    comparison_agrees two.And x k decimals a b f h o told_of is e = leaf_as x f h _ o told_of is e (λ b. refl)
    comparison_agrees two.Or x k decimals a b f h o told_of is e = leaf_as x f h _ o told_of is e (λ b. refl)
    comparison_agrees two.Xor x k decimals a b f h o told_of is e = leaf_as x f h _ o told_of is e (λ b. refl)
    comparison_agrees two.Implies x k decimals a b f h o told_of is e = leaf_as x f h _ o told_of is e (λ b. refl)
    comparison_agrees two.Add x k decimals a b f h o told_of is e = leaf_as x f h _ o told_of is e (λ b. refl)
    comparison_agrees two.Sub x k decimals a b f h o told_of is e = leaf_as x f h _ o told_of is e (λ b. refl)
    comparison_agrees two.Mul x k decimals a b f h o told_of is e = leaf_as x f h _ o told_of is e (λ b. refl)
    comparison_agrees two.Div x k decimals a b f h o told_of is e = leaf_as x f h _ o told_of is e (λ b. refl)
    comparison_agrees two.Mod x k decimals a b f h o told_of is e = leaf_as x f h _ o told_of is e (λ b. refl)

    -- an outline agrees with the formula of the instant
    abbrev pub Agrees : Expression → Type 0
    Agrees e = (f h : Formula) → Outlines (IsFlagOf t atoms) (table_kinds t) e f → Ok h ≡ formula_of v (table_kinds t) e → AreTold e → absorbed (filled put f) ≡ absorbed h

    known_agrees : (e : Expression) (f h : Formula) → is_known (table_kinds t) e ≡ true → IsFlagOf t atoms e f → IsToldOf e → Ok h ≡ formula_of v (table_kinds t) e → absorbed (filled put f) ≡ absorbed h
    known_agrees e f h known flag told_of is =
        let value = known_truth v (table_kinds t) e h known is in ap absorbed (leaf_as e f h (truth (is_true value.0)) flag told_of is value.2 (λ b. refl))

    variable_agrees : (r : Role) (i : ℕ) → Agrees (variable r i)
    variable_agrees r i f h o is told_of = by (is_known (table_kinds t) (variable r i)) refl
      where
        by : (q : Bool) → is_known (table_kinds t) (variable r i) ≡ q → absorbed (filled put f) ≡ absorbed h
        by true known = known_agrees (variable r i) f h known o (told_of (variable r i) (inl refl)) is
        by false unknown =
            let e = same_ok h _ (is ∙ ap (λ b. if b then known_formula v (table_kinds t) (variable r i) else Ok (atom (Flag (number_of (table_kinds t) r i)))) unknown) in
            ap absorbed (leaf_as (variable r i) f h (atom (Flag (number_of (table_kinds t) r i))) o (told_of (variable r i) (inl refl)) is e (λ b. refl))

    unary_agrees : (op : UnaryOperator) (e : Expression) → Agrees e → Agrees (unary op e)
    unary_agrees op e ih f h o is told_of = by (is_known (table_kinds t) (unary op e)) refl
      where
        by : (q : Bool) → is_known (table_kinds t) (unary op e) ≡ q → absorbed (filled put f) ≡ absorbed h
        by true known = known_agrees (unary op e) f h known (either_first _ _ _ known o) (told_of (unary op e) (inl refl)) is
        by false unknown =
            let parts = either_second _ _ _ unknown o in
            let due = after_is (formula_of v (table_kinds t) e) (λ k. Ok (negation k)) h (is ∙ unary_is v (table_kinds t) op e unknown) in
            ap (λ k. absorbed (filled put k)) parts.1
            ∙ ap not_of (ih parts.0 due.0 parts.2 due.1 (λ x y. told_of x (inr (where_in _ _ (not_false _ unknown) y))))
            ∙ sym (ap absorbed (same_ok h (negation due.0) due.2))

    binary_agrees : (op : BinaryOperator) (d e : Expression) → Agrees d → Agrees e → Agrees (binary op d e)
    binary_agrees op d e ihd ihe f h o is told_of = by (is_known (table_kinds t) (binary op d e)) refl
      where
        divided : is_known (table_kinds t) (binary op d e) ≡ false → is_boolean (kind_of (table_kinds t) d) ≡ true → is_divided (table_kinds t) op d e ≡ true
        divided unknown boolean = both_true_of (is_boolean (kind_of (table_kinds t) d)) _ boolean (ap (λ q. not q || is_and op) unknown)

        connects : (unknown : is_known (table_kinds t) (binary op d e) ≡ false) (boolean : is_boolean (kind_of (table_kinds t) d) ≡ true) (g i : Formula) → f ≡ connected op g i → Outlines (IsFlagOf t atoms) (table_kinds t) d g → Outlines (IsFlagOf t atoms) (table_kinds t) e i
            → (s : Option Bool) → Ok s ≡ settled_truth v (table_kinds t) op d → Ok h ≡ unless_settled (connective v (table_kinds t) op d e) s → absorbed (filled put f) ≡ absorbed h
        connects unknown boolean g i fs og oi (Some b) settled_ due =
            let part = settled_is v (table_kinds t) op d e (Some b) settled_ b refl in
            let x = part.1.0 in
            let left : absorbed (filled put g) ≡ truth (is_true x) =
            ihd g (truth (is_true x)) og (known_due v (table_kinds t) d x part.0 part.1.1) (λ y z. told_of y (inr (where_in _ _ (divided unknown boolean) (inl z)))) in
            ap (λ k. absorbed (filled put k)) fs
            ∙ ap absorbed (connected_filled put op g i)
            ∙ settles op x b (filled put g) (filled put i) part.1.2 left
            ∙ sym (ap absorbed (same_ok h (truth b) due))
        connects unknown boolean g i fs og oi None settled_ due =
            let first = after_is (formula_of v (table_kinds t) d) (λ a. after (formula_of v (table_kinds t) e) (λ b. Ok (connected op a b))) h due in
            let second = after_is (formula_of v (table_kinds t) e) (λ b. Ok (connected op first.0 b)) h first.2 in
            let opened : not (is_settled (settled_truth v (table_kinds t) op d)) ≡ true = sym (ap (λ r. not (is_settled r)) settled_) in
            let left = ihd g first.0 og first.1 (λ y z. told_of y (inr (where_in _ _ (divided unknown boolean) (inl z)))) in
            let right = ihe i second.0 oi second.1 (λ y z. told_of y (inr (where_in _ _ (divided unknown boolean) (inr (where_in _ _ opened z))))) in
            ap (λ k. absorbed (filled put k)) fs
            ∙ ap absorbed (connected_filled put op g i)
            ∙ connected_absorbed op (filled put g) (filled put i)
            ∙ (λ j. absorbed_by op (left j) (right j))
            ∙ sym (connected_absorbed op first.0 second.0)
            ∙ sym (ap absorbed (same_ok h (connected op first.0 second.0) second.2))

        opens : is_known (table_kinds t) (binary op d e) ≡ false → (q : Bool) → is_boolean (kind_of (table_kinds t) d) ≡ q → absorbed (filled put f) ≡ absorbed h
        opens unknown true boolean =
            let parts = either_second _ _ _ (ap not boolean) (either_second _ _ _ unknown o) in
            let s = after_is (settled_truth v (table_kinds t) op d) (unless_settled (connective v (table_kinds t) op d e)) h (is ∙ connective_is v (table_kinds t) op d e unknown boolean) in
            connects unknown boolean parts.0 parts.1 parts.2 parts.3 parts.4 s.0 s.1 s.2
        opens unknown false numbers =
            let flag = either_first _ _ _ (ap not numbers) (either_second _ _ _ unknown o) in
            let forms = forms_of v (table_kinds t) op d e h unknown numbers is in
            ap absorbed (comparison_agrees op (binary op d e) (kind_of (table_kinds t) d) v.decimals forms.0 forms.1 f h flag (told_of (binary op d e) (inl refl)) is forms.2)

        by : (q : Bool) → is_known (table_kinds t) (binary op d e) ≡ q → absorbed (filled put f) ≡ absorbed h
        by true known = known_agrees (binary op d e) f h known (either_first _ _ _ known o) (told_of (binary op d e) (inl refl)) is
        by false unknown = opens unknown (is_boolean (kind_of (table_kinds t) d)) refl

    -- a choice, where it isn't known
    module _ (c d e : Expression) (ihc : Agrees c) (ihd : Agrees d) (ihe : Agrees e) (f h : Formula) (is : Ok h ≡ formula_of v (table_kinds t) (choice c d e)) (told_of : AreTold (choice c d e)) (unknown : is_known (table_kinds t) (choice c d e) ≡ false) (g k l : Formula)
        (fs : f ≡ formula.choice g k l) (og : Outlines (IsFlagOf t atoms) (table_kinds t) c g) (ok_ : Outlines (IsFlagOf t atoms) (table_kinds t) d k) (ol : Outlines (IsFlagOf t atoms) (table_kinds t) e l) where
      told_c : AreTold c
      told_c y z = told_of y (inr (where_in _ _ (not_false _ unknown) (inl z)))

      picks : is_known (table_kinds t) c ≡ true → (x : Value) → Ok x ≡ value_under v (table_kinds t) c → Ok h ≡ (if is_true x then formula_of v (table_kinds t) d else formula_of v (table_kinds t) e)
          → (q : Bool) → is_true x ≡ q → absorbed (filled put f) ≡ absorbed h
      picks known x value due true held =
          let test : absorbed (filled put g) ≡ truth true = ihc g (truth (is_true x)) og (known_due v (table_kinds t) c x known value) told_c ∙ ap truth held in
          let chosen_ : is_truth (value_under v (table_kinds t) c) ≡ true = sym (ap is_truth value) ∙ held in
          ap (λ z. absorbed (filled put z)) fs
          ∙ ap (λ z. choice_of z (absorbed (filled put k)) (absorbed (filled put l))) test
          ∙ ihd k h ok_ (due ∙ ap (λ q. if q then formula_of v (table_kinds t) d else formula_of v (table_kinds t) e) held)
          (λ y z. told_of y (inr (where_in _ _ (not_false _ unknown) (inr (in_first _ _ _ known (in_first _ _ _ chosen_ z))))))
      picks known x value due false denied =
          let test : absorbed (filled put g) ≡ truth false = ihc g (truth (is_true x)) og (known_due v (table_kinds t) c x known value) told_c ∙ ap truth denied in
          let chosen_ : is_truth (value_under v (table_kinds t) c) ≡ false = sym (ap is_truth value) ∙ denied in
          ap (λ z. absorbed (filled put z)) fs
          ∙ ap (λ z. choice_of z (absorbed (filled put k)) (absorbed (filled put l))) test
          ∙ ihe l h ol (due ∙ ap (λ q. if q then formula_of v (table_kinds t) d else formula_of v (table_kinds t) e) denied)
          (λ y z. told_of y (inr (where_in _ _ (not_false _ unknown) (inr (in_first _ _ _ known (in_second _ _ _ chosen_ z))))))

      choice_opens : (q : Bool) → is_known (table_kinds t) c ≡ q → absorbed (filled put f) ≡ absorbed h
      choice_opens true known =
          let value = after_is (value_under v (table_kinds t) c) (λ w. if is_true w then formula_of v (table_kinds t) d else formula_of v (table_kinds t) e) h (is ∙ chosen_is v (table_kinds t) c d e unknown known) in
          picks known value.0 value.1 value.2 (is_true value.0) refl
      choice_opens false open_ =
          let first = after_is (formula_of v (table_kinds t) c) (λ x. after (formula_of v (table_kinds t) d) (λ y. after (formula_of v (table_kinds t) e) (λ z. Ok (formula.choice x y z)))) h (is ∙ open_is v (table_kinds t) c d e unknown open_) in
          let second = after_is (formula_of v (table_kinds t) d) (λ y. after (formula_of v (table_kinds t) e) (λ z. Ok (formula.choice first.0 y z))) h first.2 in
          let third = after_is (formula_of v (table_kinds t) e) (λ z. Ok (formula.choice first.0 second.0 z)) h second.2 in
          let test = ihc g first.0 og first.1 told_c in
          let yes = ihd k second.0 ok_ second.1 (λ y z. told_of y (inr (where_in _ _ (not_false _ unknown) (inr (in_second _ _ _ open_ (inl z)))))) in
          let no = ihe l third.0 ol third.1 (λ y z. told_of y (inr (where_in _ _ (not_false _ unknown) (inr (in_second _ _ _ open_ (inr z)))))) in
          ap (λ z. absorbed (filled put z)) fs ∙ (λ j. choice_of (test j) (yes j) (no j)) ∙ sym (ap absorbed (same_ok h (formula.choice first.0 second.0 third.0) third.2))

    choice_agrees : (c d e : Expression) → Agrees c → Agrees d → Agrees e → Agrees (choice c d e)
    choice_agrees c d e ihc ihd ihe f h o is told_of = by (is_known (table_kinds t) (choice c d e)) refl
      where
        by : (q : Bool) → is_known (table_kinds t) (choice c d e) ≡ q → absorbed (filled put f) ≡ absorbed h
        by true known = known_agrees (choice c d e) f h known (either_first _ _ _ known o) (told_of (choice c d e) (inl refl)) is
        by false unknown =
            let p = either_second _ _ _ unknown o in choice_opens c d e ihc ihd ihe f h is told_of unknown p.0 p.1 p.2 p.3 p.4 p.5 p.6 (is_known (table_kinds t) c) refl

    agrees : (e : Expression) → Agrees e
    agrees (constant k c) f h o is told_of = known_agrees (constant k c) f h refl o (told_of (constant k c) (inl refl)) is
    agrees (variable r i) f h o is told_of = variable_agrees r i f h o is told_of
    agrees (previous r i) f h o is told_of = known_agrees (previous r i) f h refl o (told_of (previous r i) (inl refl)) is
    agrees (unary op e) f h o is told_of = unary_agrees op e (agrees e) f h o is told_of
    agrees (binary op d e) f h o is told_of = binary_agrees op d e (agrees d) (agrees e) f h o is told_of
    agrees (choice c d e) f h o is told_of = choice_agrees c d e (agrees c) (agrees d) (agrees e) f h o is told_of

  -- Conjuncts.

  -- a formula is the conjunct of a part, with what is told of its atoms
  abbrev pub IsFilledPart : Expression → Formula → Type 0
  IsFilledPart e f = (p : Piece) × IsPart t e p × (choose : ℕ → Bool) × (f ≡ filled_piece told choose p)

  abbrev pub AreFilledParts : List Expression → List Formula → Type 0
  AreFilledParts [] [] = Unit {0}
  AreFilledParts [] (f ∷ fs) = ⊥
  AreFilledParts (e ∷ es) [] = ⊥
  AreFilledParts (e ∷ es) (f ∷ fs) = IsFilledPart e f × AreFilledParts es fs

  zipped : (es : List Expression) (ps : List Piece) (fs : List Formula) → AreParts t es ps → AreFilled told ps fs → AreFilledParts es fs
  zipped [] [] [] a b = tt
  zipped [] [] (f ∷ fs) a b = b
  zipped [] (p ∷ ps) fs a b = absurd a
  zipped (e ∷ es) [] fs a b = absurd a
  zipped (e ∷ es) (p ∷ ps) [] a b = b
  zipped (e ∷ es) (p ∷ ps) (f ∷ fs) a b = ((p, a.0, b.0.0, b.0.1), zipped es ps fs a.1 b.1)

  split : (es ds : List Expression) (fs : List Formula) → AreFilledParts (es ++ ds) fs → (gs : List Formula) × (hs : List Formula) × (fs ≡ gs ++ hs) × AreFilledParts es gs × AreFilledParts ds hs
  split [] ds fs a = ([], fs, refl, tt, a)
  split (e ∷ es) ds [] a = absurd a
  split (e ∷ es) ds (f ∷ fs) a = let more = split es ds fs a.1 in (f ∷ more.0, more.1, ap (λ l. f ∷ l) more.2, (a.0, more.3), more.4)

  -- the conjuncts of a constraint are those of its formula
  abbrev pub Conjoins : Expression → Type 0
  Conjoins e = (fs : List Formula) (h : Formula) → AreFilledParts (conjuncts_of (table_kinds t) e) fs → Ok h ≡ formula_of v (table_kinds t) e → AreTold e → flat fs ≡ conjuncts (absorbed h)

  single : (e : Expression) (fs : List Formula) (h : Formula) → AreFilledParts (e ∷ []) fs → Ok h ≡ formula_of v (table_kinds t) e → AreTold e → flat fs ≡ conjuncts (absorbed h)
  single e [] h a is told_of = absurd a
  single e (f ∷ g ∷ fs) h a is told_of = absurd a.1
  single e (f ∷ []) h a is told_of =
      let p = a.0.0 in
      both_true (conjuncts (absorbed f)) ∙ ap (λ k. conjuncts (absorbed k)) a.0.3 ∙ ap conjuncts (agrees p.atoms a.0.2 e p.conjunct h a.0.1.outlines is told_of)

  and_conjoins : (d e : Expression) → Conjoins d → Conjoins e → is_boolean (kind_of (table_kinds t) d) ≡ true → Conjoins (binary two.And d e)
  and_conjoins d e ihd ihe boolean fs h a is told_of = by (is_known (table_kinds t) (binary two.And d e)) refl
    where
      conjuncts_are : conjuncts_of (table_kinds t) (binary two.And d e) ≡ conjuncts_of (table_kinds t) d ++ conjuncts_of (table_kinds t) e
      conjuncts_are = ap (λ q. if q && true then conjuncts_of (table_kinds t) d ++ conjuncts_of (table_kinds t) e else binary two.And d e ∷ []) boolean

      parts : (gs : List Formula) × (hs : List Formula) × (fs ≡ gs ++ hs) × AreFilledParts (conjuncts_of (table_kinds t) d) gs × AreFilledParts (conjuncts_of (table_kinds t) e) hs
      parts = split (conjuncts_of (table_kinds t) d) (conjuncts_of (table_kinds t) e) fs (subst (λ l. AreFilledParts l fs) conjuncts_are a)

      divided : is_divided (table_kinds t) two.And d e ≡ true
      divided = both_true_of (is_boolean (kind_of (table_kinds t) d)) _ boolean (or_true (not (is_known (table_kinds t) (binary two.And d e))))

      told_d : AreTold d
      told_d y z = told_of y (inr (where_in _ _ divided (inl z)))

      told_e : Ok None ≡ settled_truth v (table_kinds t) two.And d → AreTold e
      told_e none y z = told_of y (inr (where_in _ _ divided (inr (where_in _ _ (sym (ap (λ r. not (is_settled r)) none)) z))))

      whole : flat fs ≡ both (flat parts.0) (flat parts.1)
      whole = ap flat parts.2 ∙ flat_append parts.0 parts.1

      falls : flat parts.0 ≡ truth false ∷ [] → flat fs ≡ truth false ∷ []
      falls left = whole ∙ ap (λ l. both l (flat parts.1)) left

      known_both : is_known (table_kinds t) d ≡ true → is_known (table_kinds t) e ≡ true → (x w : Value) → Ok x ≡ value_under v (table_kinds t) d → h ≡ truth (is_true w)
          → (s : Option Bool) → settled two.And x ≡ s → Ok w ≡ settled_or s (and_then (value_under v (table_kinds t) e) (binary_value two.And (facts_of (table_kinds t) d).kind v.decimals x)) → flat fs ≡ conjuncts (absorbed h)
      known_both kd ke x w value hs (Some b) s due =
          let no = settled_and x b s in
          let w_no : is_true w ≡ false = settled_value b w (and_then (value_under v (table_kinds t) e) (binary_value two.And (facts_of (table_kinds t) d).kind v.decimals x)) due ∙ no.1 in
          falls (ihd parts.0 (truth (is_true x)) parts.3 (known_due v (table_kinds t) d x kd value) told_d ∙ ap (λ q. truth q ∷ []) no.0)
          ∙ sym (ap (λ k. conjuncts (absorbed k)) hs ∙ ap (λ q. truth q ∷ []) w_no)
      known_both kd ke x w value hs None s due =
          let second = value_is (value_under v (table_kinds t) e) (binary_value two.And (facts_of (table_kinds t) d).kind v.decimals x) w due in
          let opened : Ok None ≡ settled_truth v (table_kinds t) two.And d = ap Ok (sym s) ∙ settled_known v (table_kinds t) two.And d e x kd value in
          let left = ihd parts.0 (truth (is_true x)) parts.3 (known_due v (table_kinds t) d x kd value) told_d in
          let right = ihe parts.1 (truth (is_true second.0)) parts.4 (known_due v (table_kinds t) e second.0 ke second.1) (told_e opened) in
          whole
          ∙ (λ j. both (left j) (right j))
          ∙ both_truths (is_true x) (is_true second.0)
          ∙ sym (ap (λ k. conjuncts (absorbed k)) hs ∙ ap (λ q. truth q ∷ []) (and_value (facts_of (table_kinds t) d).kind v.decimals x second.0 w second.2))

      open_both : (s : Option Bool) → Ok s ≡ settled_truth v (table_kinds t) two.And d → Ok h ≡ unless_settled (connective v (table_kinds t) two.And d e) s → flat fs ≡ conjuncts (absorbed h)
      open_both (Some b) settled_ due =
          let part = settled_is v (table_kinds t) two.And d e (Some b) settled_ b refl in
          let no = settled_and part.1.0 b part.1.2 in
          falls (ihd parts.0 (truth (is_true part.1.0)) parts.3 (known_due v (table_kinds t) d part.1.0 part.0 part.1.1) told_d ∙ ap (λ q. truth q ∷ []) no.0)
          ∙ sym (ap (λ k. conjuncts (absorbed k)) (same_ok h (truth b) due) ∙ ap (λ q. truth q ∷ []) no.1)
      open_both None settled_ due =
          let first = after_is (formula_of v (table_kinds t) d) (λ x. after (formula_of v (table_kinds t) e) (λ y. Ok (conjunction x y))) h due in
          let second = after_is (formula_of v (table_kinds t) e) (λ y. Ok (conjunction first.0 y)) h first.2 in
          let left = ihd parts.0 first.0 parts.3 first.1 told_d in
          let right = ihe parts.1 second.0 parts.4 second.1 (told_e settled_) in
          whole
          ∙ (λ j. both (left j) (right j))
          ∙ sym (and_conjuncts (absorbed first.0) (absorbed second.0))
          ∙ sym (ap (λ k. conjuncts (absorbed k)) (same_ok h (conjunction first.0 second.0) second.2))

      by : (q : Bool) → is_known (table_kinds t) (binary two.And d e) ≡ q → flat fs ≡ conjuncts (absorbed h)
      by true known =
          let k = and_true (is_known (table_kinds t) d) (is_known (table_kinds t) e) known in
          let value = known_truth v (table_kinds t) (binary two.And d e) h known is in
          let first = value_is (value_under v (table_kinds t) d) (λ x. settled_or (settled two.And x) (and_then (value_under v (table_kinds t) e) (binary_value two.And (facts_of (table_kinds t) d).kind v.decimals x))) value.0 value.1 in
          known_both k.0 k.1 first.0 value.0 first.1 value.2 (settled two.And first.0) refl first.2
      by false unknown =
          let s = after_is (settled_truth v (table_kinds t) two.And d) (unless_settled (connective v (table_kinds t) two.And d e)) h (is ∙ connective_is v (table_kinds t) two.And d e unknown boolean) in
          open_both s.0 s.1 s.2

  two_conjoin : (op : BinaryOperator) (d e : Expression) → Conjoins d → Conjoins e → Conjoins (binary op d e)
  two_conjoin op d e ihd ihe = by (is_conjunction (table_kinds t) op d) refl
    where
      by : (q : Bool) → is_conjunction (table_kinds t) op d ≡ q → Conjoins (binary op d e)
      by true both_ =
          let b = and_true (is_boolean (kind_of (table_kinds t) d)) (is_and op) both_ in
          subst (λ (o : BinaryOperator). Conjoins (binary o d e)) (sym (and_is op b.1)) (and_conjoins d e ihd ihe b.0)
      by false other =
          λ fs h a is told_of. single (binary op d e) fs h
          (subst (λ l. AreFilledParts l fs) (ap (λ q. if q then conjuncts_of (table_kinds t) d ++ conjuncts_of (table_kinds t) e else binary op d e ∷ []) other) a) is told_of

  conjoins : (e : Expression) → Conjoins e
  conjoins (constant k c) fs h a is told_of = single (constant k c) fs h a is told_of
  conjoins (variable r i) fs h a is told_of = single (variable r i) fs h a is told_of
  conjoins (previous r i) fs h a is told_of = single (previous r i) fs h a is told_of
  conjoins (unary op e) fs h a is told_of = single (unary op e) fs h a is told_of
  conjoins (binary op d e) fs h a is told_of = two_conjoin op d e (conjoins d) (conjoins e) fs h a is told_of
  conjoins (choice c d e) fs h a is told_of = single (choice c d e) fs h a is told_of

  all_conjoin : (es : List Expression) (fs hs : List Formula) → AreFilledParts (conjuncts_of_all (table_kinds t) es) fs → Ok hs ≡ formulas_of v (table_kinds t) es → ((x : Expression) → EvaluateSome v (table_kinds t) es x → IsToldOf x)
      → flat fs ≡ flat hs
  all_conjoin [] [] hs a is told_of = ap flat (same [] hs (sym is))
    where
      same : (x y : List Formula) → ◌≡◌ {A = Result (List Formula) Arith} (Ok x) (Ok y) → x ≡ y
      same x y h = cc
  all_conjoin [] (f ∷ fs) hs a is told_of = absurd a
  all_conjoin (e ∷ es) fs hs a is told_of =
      let parts = split (conjuncts_of (table_kinds t) e) (conjuncts_of_all (table_kinds t) es) fs a in
      let first = after_is (formula_of v (table_kinds t) e) (λ f. after (formulas_of v (table_kinds t) es) (λ gs. Ok (f ∷ gs))) hs is in
      let more = after_is (formulas_of v (table_kinds t) es) (λ gs. Ok (first.0 ∷ gs)) hs first.2 in
      let left = conjoins e parts.0 first.0 parts.3 first.1 (λ x y. told_of x (inl y)) in
      let right = all_conjoin es parts.1 more.0 parts.4 more.1 (λ x y. told_of x (inr y)) in
      ap flat parts.2 ∙ flat_append parts.0 parts.1 ∙ (λ j. both (left j) (right j)) ∙ ap flat (same (first.0 ∷ more.0) hs (sym more.2))
    where
      same : (x y : List Formula) → ◌≡◌ {A = Result (List Formula) Arith} (Ok x) (Ok y) → x ≡ y
      same x y h = cc

pub parts_agree : PartsAgree
parts_agree v t s pieces formulas tells due parts filled_ =
    let es = map (at t) (space_wanted s) in
    let hs = after_is (formulas_of v (table_kinds t) es) (λ fs. Ok (joined fs)) (space_formula s) due in
    let told_of : (x : Expression) → EvaluateSome v (table_kinds t) es x → IsToldOf v t (space_told s) x =
    λ x y n l e. let answer = tells.evaluated n l (subst (EvaluateSome v (table_kinds t) es) (sym e) y) in (answer.0, answer.1, answer.2 ∙ ap (formula_of v (table_kinds t)) e) in
    joined_flat formulas
    ∙ all_conjoin v t (space_told s) es formulas hs.0 (zipped v t (space_told s) (conjuncts_of_all (table_kinds t) es) pieces formulas parts filled_) hs.1 told_of
    ∙ sym (joined_flat hs.0)
    ∙ sym (ap (λ f. conjuncts (absorbed f)) (same_ok (space_formula s) (joined hs.0) hs.2))
