-- Steps by which it is noted what a load evaluated.
use Rattle.std.proofs.Common.{◌≡◌, ℕ, zero, suc, ◌+◌, ◌<◌, Bool, true, false, not, ◌&&◌, ◌⊎◌, inl, inr, IsTrue, List, [], ◌∷◌, ◌++◌, length, map, nat_lt, Option, None, Some, Result, Ok, Err, refl, ap, sym, ◌∙◌, subst, arith, length-append, if◌then◌else◌, is_some}
use Rattle.std.specs.Prelude.{slice_set, slice_index_or, IsOk}
use Rattle.std.specs.List.{list_all}
use Rattle.std.proofs.lemmas.Bool.{ltb-true}
use Rattle.std.proofs.lemmas.Bool.Decides.{nat_tests}
use Rattle.lt_num.specs.Value.{is_true}
use Rattle.lt_num.specs.declared.fault.Arith.{Arith}
use Rattle.lt_num.specs.declared.value.Value.{Value}
use Rattle.lt_formula.specs.Expression.{Expression, constant, variable, previous, unary, binary, choice}
use Rattle.lt_formula.specs.Kinds.{Kinds}
use Rattle.lt_formula.specs.Operators.{Answer, and_then, binary_value, settled}
use Rattle.lt_formula.specs.Facts.{facts_of}
use Rattle.lt_formula.specs.Table.{HasEachOnce, expression_at, extended, nodes_of}
use Rattle.lt_formula.specs.Valuation.{Valuation, settled_or, value_under}
use Rattle.lt_formula.specs.View.{table_expressions, table_kinds, table_len}
use Rattle.lt_formula.specs.declared.facts.Facts.{Facts}
use Rattle.lt_formula.specs.declared.node.ExpNode.{ExpNode}
use Rattle.lt_formula.specs.declared.operator.BinaryOperator.{BinaryOperator}
use Rattle.lt_formula.specs.declared.operator.UnaryOperator.{UnaryOperator}
use Rattle.lt_formula.specs.declared.table.Table.{Table}
use Rattle.lt_space.specs.Circuit.{formula_at}
use Rattle.lt_space.specs.CircuitView.{circuit_formulas}
use Rattle.lt_space.specs.Evaluated.{ChosenOf, Either, EvaluateSome, Evaluates, Where, is_divided, is_settled, is_truth}
use Rattle.lt_space.specs.Formula.{Formula, negation, truth}
use Rattle.lt_space.specs.Formula as formula
use Rattle.lt_space.specs.Meaning.{FormulaAnswer, after, connected, formula_of, formula_of_all, formulas_of, is_boolean, is_known, joined, kind_of, settled_truth, unless_settled}
use Rattle.lt_space.specs.inner.Kept.{AreKept, Grows, Stands, are_free, number_at}
use Rattle.lt_space.specs.inner.Noted.{AreDue, AreEvaluated, AreNoted, EvaluatesWithin, IsDue, IsNoted, Notes, are_below, at, is_below}
use Rattle.lt_space.specs.SpaceView.{TellsEvaluated, space_circuit, space_told, space_wanted, told_at}
use Rattle.lt_space.specs.inner.Memo.{memo_numbers}
use Rattle.lt_space.specs.inner.Pushed.{no_formula}
use Rattle.lt_space.specs.inner.Work.{IsReady, IsVisited, StayWide, Visits, formula_due, formulas_in}
use Rattle.lt_space.specs.declared.space.Space.{Space}
use Rattle.lt_space.specs.declared.work.Work.{Work}
use Rattle.lt_space.proofs.Circuits.{both, left_of, right_of}
use Rattle.lt_space.proofs.GateDues.{chosen_due, open_due, settled_due}
use Rattle.lt_space.proofs.Memos.{free_at, grows_same, grows_twice, kept_none, kept_on, kept_set, set_length, stands_on}
use Rattle.lt_space.proofs.Tellings.{formula_binary, formula_choice, formula_known, formula_unary}
use Rattle.lt_space.proofs.Visitings.{wide_same, wide_twice}

-- Numbers.

-- a number that is there
pub some_noted : (numbers : List (Option ℕ)) (k : ℕ) (o : Option ℕ) → o ≡ number_at numbers k → is_some o ≡ true → IsNoted numbers k
some_noted numbers k (Some n) is h = (n, sym is)
some_noted numbers k None is h = absurd (cc)

-- one that is written
pub set_here : (numbers : List (Option ℕ)) (k n : ℕ) → k < length numbers → IsNoted (slice_set numbers k (Some n)) k
set_here [] k n h = absurd (omega arith)
set_here (x ∷ numbers) zero n h = (n, refl)
set_here (x ∷ numbers) (suc k) n h = set_here numbers k n (omega arith)

pub set_on : (numbers : List (Option ℕ)) (k n j : ℕ) → IsNoted numbers j → IsNoted (slice_set numbers k (Some n)) j
set_on [] k n j h = h
set_on (x ∷ numbers) zero n zero h = (n, refl)
set_on (x ∷ numbers) zero n (suc j) h = h
set_on (x ∷ numbers) (suc k) n zero h = h
set_on (x ∷ numbers) (suc k) n (suc j) h = set_on numbers k n j h

pub set_back : (numbers : List (Option ℕ)) (k n j : ℕ) → IsNoted (slice_set numbers k (Some n)) j → (k ≡ j) ⊎ IsNoted numbers j
set_back [] k n j h = inr h
set_back (x ∷ numbers) zero n zero h = inl refl
set_back (x ∷ numbers) zero n (suc j) h = inr h
set_back (x ∷ numbers) (suc k) n zero h = inr h
set_back (x ∷ numbers) (suc k) n (suc j) h = elim (set_back numbers k n j h) [ inl e ↦ inl (ap suc e) | inr m ↦ inr m ]

-- numbers that stand for items are below their count
pub kept_below : (items : List Formula) (numbers : List (Option ℕ)) (due : ℕ → FormulaAnswer) → AreKept Formula no_formula items numbers due → IsTrue (are_below (length items) numbers)
kept_below items [] due kept = refl
kept_below items (None ∷ numbers) due kept = kept_below items numbers (λ k. due (suc k)) (λ k n h. kept (suc k) n h)
kept_below items (Some m ∷ numbers) due kept =
    both (nat_lt m (length items)) _ (lt_true m (length items) (kept zero m refl).within) (kept_below items numbers (λ k. due (suc k)) (λ k n h. kept (suc k) n h))
  where
    lt_true : (a b : ℕ) → a < b → IsTrue (nat_lt a b)
    lt_true a b h = grind (arith, nat_tests)

-- where none is noted
pub free_below : (most : ℕ) (numbers : List (Option ℕ)) → IsTrue (are_free numbers) → IsTrue (are_below most numbers)
free_below most [] h = refl
free_below most (None ∷ numbers) h = free_below most numbers h
free_below most (Some n ∷ numbers) h = absurd (cc)

pub not_free : (numbers : List (Option ℕ)) (k : ℕ) → IsTrue (are_free numbers) → IsNoted numbers k → ⊥
not_free numbers k free h = clash h.0 (sym (free_at numbers k free) ∙ h.1)
  where
    clash : (n : ℕ) → None ≡ Some n → ⊥
    clash n e = cc

-- where none is noted, nothing is told
pub untold : (s : Space) → IsTrue (are_free (memo_numbers s.noted)) → (k : ℕ) → space_told s k ≡ None
untold s free k = ap (told_at (circuit_formulas (space_circuit s))) (free_at (memo_numbers s.noted) k free)

-- a number that is noted is below
pub below_at : (most : ℕ) (numbers : List (Option ℕ)) (k n : ℕ) → IsTrue (are_below most numbers) → Some n ≡ number_at numbers k → n < most
below_at most [] k n h is = absurd (cc)
below_at most (None ∷ numbers) zero n h is = absurd (cc)
below_at most (Some m ∷ numbers) zero n h is = let same : n ≡ m = cc in let l : m < most = ltb-true m most (left_of (nat_lt m most) _ h) in omega arith
below_at most (o ∷ numbers) (suc k) n h is = below_at most numbers k n (right_of (is_below most o) _ h) is

-- Expressions.

length_extended : (es : List Expression) (ns : List ExpNode) → length (extended es ns) ≡ length es + length ns
length_extended es [] = omega arith
length_extended es (n ∷ ns) = length_extended (es ++ expression_at es n ∷ []) ns ∙ simp length-append (omega arith)

length_nodes : (entries : List (ExpNode × Facts)) → length (nodes_of entries) ≡ length entries
length_nodes [] = refl
length_nodes (e ∷ es) = ap suc (length_nodes es)

-- a table has as many expressions as it says
pub length_expressions : (t : Table) → length (table_expressions t) ≡ table_len t
length_expressions t = let all = length_extended [] (nodes_of t.nodes.entries) in let nodes = length_nodes t.nodes.entries in omega (arith, all, nodes)

-- equal ones have one number
pub one_number : (t : Table) (i j : ℕ) → HasEachOnce (table_expressions t) → i < table_len t → j < table_len t → at t i ≡ at t j → i ≡ j
one_number t i j once h k e = once i j (omega (arith, h, length_expressions t)) (omega (arith, k, length_expressions t)) e

-- What is evaluated.

pub unrolled : (v : Valuation) (kinds : Kinds) (x y : Expression) → Evaluates v kinds x y → (x ≡ y) ⊎ EvaluatesWithin v kinds x y
unrolled v kinds (constant k c) y h = h
unrolled v kinds (variable r i) y h = h
unrolled v kinds (previous r i) y h = h
unrolled v kinds (unary op e) y h = h
unrolled v kinds (binary op d e) y h = h
unrolled v kinds (choice c d e) y h = h

pub rolled : (v : Valuation) (kinds : Kinds) (x y : Expression) → (x ≡ y) ⊎ EvaluatesWithin v kinds x y → Evaluates v kinds x y
rolled v kinds (constant k c) y h = h
rolled v kinds (variable r i) y h = h
rolled v kinds (previous r i) y h = h
rolled v kinds (unary op e) y h = h
rolled v kinds (binary op d e) y h = h
rolled v kinds (choice c d e) y h = h

pub where_in : (b : Bool) (P : Type 0) → b ≡ true → P → Where b P
where_in true P h p = p
where_in false P h p = absurd (cc)

pub where_out : (b : Bool) (P : Type 0) → Where b P → P
where_out true P h = h
where_out false P h = absurd h

pub where_none : (b : Bool) (P : Type 0) → b ≡ false → Where b P → ⊥
where_none true P h p = absurd (cc)
where_none false P h p = p

-- Dues.

after_due : {A : Type 0} (a : Result A Arith) (f : A → FormulaAnswer) → IsDue (after a f) → (x : A) × (Ok x ≡ a) × IsDue (f x)
after_due (Ok x) f h = (x, refl, h)
after_due (Err fault) f h = absurd (clash h.0 fault h.1)
  where
    clash : (f : Formula) (fault : Arith) → ◌≡◌ {A = FormulaAnswer} (Ok f) (Err fault) → ⊥
    clash f fault h = cc

-- a visit of what is due gives a gate
pub due_ok : (v : Valuation) (t : Table) (f owed : ℕ) (due : FormulaAnswer) (answer : Result ℕ Arith) (a b : Work) → IsDue due → Visits v t f owed due answer a b → IsOk answer
due_ok v t f owed due (Ok n) a b h g = refl
due_ok v t f owed due (Err fault) a b h g = absurd (clash h.0 fault (h.1 ∙ sym g.is))
  where
    clash : (f : Formula) (fault : Arith) → ◌≡◌ {A = FormulaAnswer} (Ok f) (Err fault) → ⊥
    clash f fault h = cc

pub visited_ok : (v : Valuation) (t : Table) (f owed : ℕ) (due : FormulaAnswer) (answer : Result ℕ Arith) (n : ℕ) (a b : Work) → answer ≡ Ok n → Visits v t f owed due answer a b → IsVisited v t f owed due n a b
visited_ok v t f owed due answer n a b is g = subst (λ (r : Result ℕ Arith). Visits v t f owed due r a b) is g

module _ (v : Valuation) (kinds : Kinds) where
  due_is : (a b : FormulaAnswer) → a ≡ b → IsDue a → IsDue b
  due_is a b e h = subst IsDue e h

  -- what is known and has a value
  pub known_due : (e : Expression) (value : Value) → is_known kinds e ≡ true → Ok value ≡ value_under v kinds e → IsDue (formula_of v kinds e)
  known_due e value known is =
      (truth (is_true value), ap (λ (r : Answer). after r (λ w. Ok (truth (is_true w)))) is ∙ sym (formula_known v kinds e known))

  pub known_value_of : (e : Expression) → is_known kinds e ≡ true → IsDue (formula_of v kinds e) → (value : Value) × (Ok value ≡ value_under v kinds e)
  known_value_of e known h =
      let d = after_due (value_under v kinds e) (λ w. Ok (truth (is_true w))) (due_is _ _ (formula_known v kinds e known) h) in (d.0, d.1)

  -- the part of an operator
  pub one_due : (op : UnaryOperator) (e : Expression) → is_known kinds e ≡ false → IsDue (formula_of v kinds (unary op e)) → IsDue (formula_of v kinds e)
  one_due op e unknown h =
      let d = after_due (formula_of v kinds e) (λ f. Ok (negation f)) (due_is _ _ (formula_unary v kinds (unary op e) op e refl unknown) h) in (d.0, d.1)

  and_then_ok : (a : Answer) (f : Value → Answer) (w : Value) → Ok w ≡ and_then a f → (x : Value) × (Ok x ≡ a) × (Ok w ≡ f x)
  and_then_ok (Ok x) f w h = (x, refl, h)
  and_then_ok (Err fault) f w h = absurd (clash w fault h)
    where
      clash : (w : Value) (fault : Arith) → ◌≡◌ {A = Answer} (Ok w) (Err fault) → ⊥
      clash w fault h = cc

  after_some : (a : Answer) (f : Value → Option Bool) (b : Bool) → ◌≡◌ {A = Result (Option Bool) Arith} (Ok (Some b)) (after a (λ x. Ok (f x))) → (x : Value) × (Ok x ≡ a)
  after_some (Ok x) f b h = (x, refl)
  after_some (Err fault) f b h = absurd (clash b fault h)
    where
      clash : (b : Bool) (fault : Arith) → ◌≡◌ {A = Result (Option Bool) Arith} (Ok (Some b)) (Err fault) → ⊥
      clash b fault h = cc

  and_true : (a b : Bool) → (a && b) ≡ true → (a ≡ true) × (b ≡ true)
  and_true true b h = (refl, h)
  and_true false b h = absurd (cc)

  -- a truth that is settled is that of a known part that has a value
  settled_value : (op : BinaryOperator) (d : Expression) (b : Bool) → Ok (Some b) ≡ settled_truth v kinds op d → IsDue (formula_of v kinds d)
  settled_value op d b h = by (is_known kinds d) refl
    where
      none : (b : Bool) → ◌≡◌ {A = Result (Option Bool) Arith} (Ok (Some b)) (Ok None) → ⊥
      none b h = cc

      by : (q : Bool) → is_known kinds d ≡ q → IsDue (formula_of v kinds d)
      by true known =
          let value = after_some (value_under v kinds d) (settled op) b (h ∙ ap (λ q. if q then after (value_under v kinds d) (λ w. Ok (settled op w)) else Ok None) known) in
          known_due d value.0 known value.1
      by false unknown = absurd (none b (h ∙ ap (λ q. if q then after (value_under v kinds d) (λ w. Ok (settled op w)) else Ok None) unknown))

  -- what a known left part with a value settles
  settled_known : (op : BinaryOperator) (d : Expression) (a : Value) → is_known kinds d ≡ true → Ok a ≡ value_under v kinds d → Ok (settled op a) ≡ settled_truth v kinds op d
  settled_known op d a known is =
      ap (λ (r : Answer). after r (λ w. Ok (settled op w))) is ∙ sym (ap (λ q. if q then after (value_under v kinds d) (λ w. Ok (settled op w)) else Ok None) known)

  -- what is due for an operator that isn't known
  connected_due : (op : BinaryOperator) (d e : Expression) → is_divided kinds op d e ≡ true → is_known kinds (binary op d e) ≡ false → IsDue (formula_of v kinds (binary op d e))
      → (s : Option Bool) × (Ok s ≡ settled_truth v kinds op d) × IsDue (unless_settled (after (formula_of v kinds d) (λ f. after (formula_of v kinds e) (λ h. Ok (connected op f h)))) s)
  connected_due op d e divided unknown h =
      let boolean = (and_true (is_boolean (kind_of kinds d)) _ divided).0 in
      let whole = settled_due v kinds op d e (formula_of v kinds d) (formula_of v kinds e) (settled_truth v kinds op d) boolean refl in
      after_due (settled_truth v kinds op d) (unless_settled (after (formula_of v kinds d) (λ f. after (formula_of v kinds e) (λ k. Ok (connected op f k)))))
      (due_is _ _ (formula_binary v kinds (binary op d e) op d e refl unknown ∙ sym whole) h)

  -- the left part of an operator whose parts are evaluated one by one, ..
  pub left_due : (op : BinaryOperator) (d e : Expression) → is_divided kinds op d e ≡ true → IsDue (formula_of v kinds (binary op d e)) → IsDue (formula_of v kinds d)
  left_due op d e divided h = by (is_known kinds (binary op d e)) refl
    where
      opened : (s : Option Bool) → Ok s ≡ settled_truth v kinds op d → IsDue (unless_settled (after (formula_of v kinds d) (λ f. after (formula_of v kinds e) (λ k. Ok (connected op f k)))) s) → IsDue (formula_of v kinds d)
      opened (Some b) is k = settled_value op d b is
      opened None is k = let first = after_due (formula_of v kinds d) (λ f. after (formula_of v kinds e) (λ g. Ok (connected op f g))) k in (first.0, first.1)

      by : (q : Bool) → is_known kinds (binary op d e) ≡ q → IsDue (formula_of v kinds d)
      by true known =
          let value = known_value_of (binary op d e) known h in
          let first = and_then_ok (value_under v kinds d) (λ a. settled_or (settled op a) (and_then (value_under v kinds e) (binary_value op (facts_of kinds d).kind v.decimals a))) value.0 value.1 in
          known_due d first.0 (and_true (is_known kinds d) (is_known kinds e) known).0 first.1
      by false unknown = let s = connected_due op d e divided unknown h in opened s.0 s.1 s.2

  -- .. and the right one, unless that settles it
  pub right_due : (op : BinaryOperator) (d e : Expression) → is_divided kinds op d e ≡ true → is_settled (settled_truth v kinds op d) ≡ false → IsDue (formula_of v kinds (binary op d e)) → IsDue (formula_of v kinds e)
  right_due op d e divided unsettled h = by (is_known kinds (binary op d e)) refl
    where
      not_both : (b : Bool) → Ok (Some b) ≡ settled_truth v kinds op d → ⊥
      not_both b is = let t : true ≡ is_settled (settled_truth v kinds op d) = ap is_settled is in cc

      opened : (s : Option Bool) → Ok s ≡ settled_truth v kinds op d → IsDue (unless_settled (after (formula_of v kinds d) (λ f. after (formula_of v kinds e) (λ k. Ok (connected op f k)))) s) → IsDue (formula_of v kinds e)
      opened (Some b) is k = absurd (not_both b is)
      opened None is k =
          let first = after_due (formula_of v kinds d) (λ f. after (formula_of v kinds e) (λ g. Ok (connected op f g))) k in
          let second = after_due (formula_of v kinds e) (λ g. Ok (connected op first.0 g)) first.2 in (second.0, second.1)

      rest : (a w : Value) (s : Option Bool) → Ok s ≡ settled_truth v kinds op d → Ok w ≡ settled_or s (and_then (value_under v kinds e) (binary_value op (facts_of kinds d).kind v.decimals a)) → is_known kinds e ≡ true → IsDue (formula_of v kinds e)
      rest a w (Some b) is k known = absurd (not_both b is)
      rest a w None is k known = let value = and_then_ok (value_under v kinds e) (binary_value op (facts_of kinds d).kind v.decimals a) w k in known_due e value.0 known value.1

      by : (q : Bool) → is_known kinds (binary op d e) ≡ q → IsDue (formula_of v kinds e)
      by true known =
          let parts = and_true (is_known kinds d) (is_known kinds e) known in
          let value = known_value_of (binary op d e) known h in
          let first = and_then_ok (value_under v kinds d) (λ a. settled_or (settled op a) (and_then (value_under v kinds e) (binary_value op (facts_of kinds d).kind v.decimals a))) value.0 value.1 in
          rest first.0 value.0 (settled op first.0) (settled_known op d first.0 parts.0 first.1) first.2 parts.1
      by false unknown = let s = connected_due op d e divided unknown h in opened s.0 s.1 s.2

  module _ (c d e : Expression) (unknown : is_known kinds (choice c d e) ≡ false) (h : IsDue (formula_of v kinds (choice c d e))) where
    -- what is due for a choice whose condition is known, ..
    chosen_value : is_known kinds c ≡ true → (x : Value) × (Ok x ≡ value_under v kinds c) × IsDue (if is_true x then formula_of v kinds d else formula_of v kinds e)
    chosen_value known =
        after_due (value_under v kinds c) (λ value. if is_true value then formula_of v kinds d else formula_of v kinds e)
        (due_is _ _ (formula_choice v kinds (choice c d e) c d e refl unknown ∙ sym (chosen_due v kinds c (formula_of v kinds c) (formula_of v kinds d) (formula_of v kinds e) (value_under v kinds c) known refl)) h)

    -- .. and for one where it isn't
    open_parts : is_known kinds c ≡ false → (f : Formula) × (Ok f ≡ formula_of v kinds c) × IsDue (after (formula_of v kinds d) (λ g. after (formula_of v kinds e) (λ k. Ok (formula.choice f g k))))
    open_parts open_ =
        after_due (formula_of v kinds c) (λ f. after (formula_of v kinds d) (λ g. after (formula_of v kinds e) (λ k. Ok (formula.choice f g k))))
        (due_is _ _ (formula_choice v kinds (choice c d e) c d e refl unknown ∙ sym (open_due v kinds c (formula_of v kinds c) (formula_of v kinds d) (formula_of v kinds e) open_)) h)

    -- its condition, ..
    pub condition_due : IsDue (formula_of v kinds c)
    condition_due = by (is_known kinds c) refl
      where
        by : (q : Bool) → is_known kinds c ≡ q → IsDue (formula_of v kinds c)
        by true known = let value = chosen_value known in known_due c value.0 known value.1
        by false open_ = let first = open_parts open_ in (first.0, first.1)

    -- .. the chosen part, ..
    pub chosen_first : is_known kinds c ≡ true → is_truth (value_under v kinds c) ≡ true → IsDue (formula_of v kinds d)
    chosen_first known is =
        let value = chosen_value known in
        let yes : is_true value.0 ≡ true = ap is_truth value.1 ∙ is in
        due_is _ _ (ap (λ q. if q then formula_of v kinds d else formula_of v kinds e) yes) value.2

    pub chosen_second : is_known kinds c ≡ true → is_truth (value_under v kinds c) ≡ false → IsDue (formula_of v kinds e)
    chosen_second known is =
        let value = chosen_value known in
        let no : is_true value.0 ≡ false = ap is_truth value.1 ∙ is in
        due_is _ _ (ap (λ q. if q then formula_of v kinds d else formula_of v kinds e) no) value.2

    -- .. and both
    pub open_first : is_known kinds c ≡ false → IsDue (formula_of v kinds d)
    open_first open_ =
        let first = open_parts open_ in
        let second = after_due (formula_of v kinds d) (λ g. after (formula_of v kinds e) (λ k. Ok (formula.choice first.0 g k))) first.2 in (second.0, second.1)

    pub open_second : is_known kinds c ≡ false → IsDue (formula_of v kinds e)
    open_second open_ =
        let first = open_parts open_ in
        let second = after_due (formula_of v kinds d) (λ g. after (formula_of v kinds e) (λ k. Ok (formula.choice first.0 g k))) first.2 in
        let third = after_due (formula_of v kinds e) (λ k. Ok (formula.choice first.0 second.0 k)) second.2 in (third.0, third.1)

-- of a list of constraints without a fault each is due
pub all_due : (v : Valuation) (t : Table) (wanted : List ℕ) → IsDue (formula_of_all v (table_kinds t) (map (at t) wanted)) → AreDue v t wanted
all_due v t wanted h = let fs = after_due (formulas_of v (table_kinds t) (map (at t) wanted)) (λ gs. Ok (joined gs)) h in each wanted fs.0 fs.1
  where
    after_list : {A B : Type 0} (a : Result A Arith) (f : A → Result B Arith) (y : B) → Ok y ≡ after a f → (x : A) × (Ok x ≡ a) × (Ok y ≡ f x)
    after_list (Ok x) f y h = (x, refl, h)
    after_list {A} {B} (Err fault) f y h = absurd (clash y fault h)
      where
        clash : (y : B) (fault : Arith) → ◌≡◌ {A = Result B Arith} (Ok y) (Err fault) → ⊥
        clash y fault h = cc

    each : (ks : List ℕ) (fs : List Formula) → Ok fs ≡ formulas_of v (table_kinds t) (map (at t) ks) → AreDue v t ks
    each [] fs h = tt
    each (k ∷ ks) fs h =
        let first = after_list (formula_due v t k) (λ f. after (formulas_of v (table_kinds t) (map (at t) ks)) (λ gs. Ok (f ∷ gs))) fs h in
        let more = after_list (formulas_of v (table_kinds t) (map (at t) ks)) (λ gs. Ok (first.0 ∷ gs)) fs first.2 in
        ((first.0, first.1), each ks more.0 more.1)

-- What is noted.

module _ (v : Valuation) (t : Table) where
  -- what is noted stays right where a gate is worked out
  pub noted_on : (from : ℕ) (due : FormulaAnswer) (n : ℕ) (a b : Work) (numbers : List (Option ℕ)) → AreNoted v t a numbers → IsVisited v t from 0 due n a b → AreNoted v t b numbers
  noted_on from due n a b numbers h g =
      record {
        ready = record { right = g.right; room = g.room };
        len = h.len;
        kept = kept_on Formula no_formula (formulas_in a) (formulas_in b) numbers (formula_due v t) g.grows h.kept;
        closed = h.closed;
      }

  -- all is noted already
  pub notes_none : (these : ℕ → Type 0) (w : Work) (numbers : List (Option ℕ)) → AreNoted v t w numbers → ((k : ℕ) → k < table_len t → these k → IsNoted numbers k) → Notes v t these w w numbers numbers
  notes_none these w numbers right covered =
      record { right = right; grows = grows_same Formula no_formula (formulas_in w); wide = wide_same w; stays = λ k h. h; covers = covered; only = λ k l h. inl h }

  -- the same expressions, told in another way
  pub notes_as : (these those : ℕ → Type 0) (a b : Work) (old new : List (Option ℕ)) → ((k : ℕ) → those k → these k) → ((k : ℕ) → these k → those k) → Notes v t these a b old new → Notes v t those a b old new
  notes_as these those a b old new there back h =
      record {
        right = h.right;
        grows = h.grows;
        wide = h.wide;
        stays = h.stays;
        covers = λ k l x. h.covers k l (there k x);
        only = λ k l x. elim (h.only k l x) [ inl y ↦ inl y | inr y ↦ inr (back k y) ];
      }

  -- some, and then others
  pub notes_then : (first second : ℕ → Type 0) (a b c : Work) (old mid new : List (Option ℕ)) → Notes v t first a b old mid → Notes v t second b c mid new → Notes v t (λ k. first k ⊎ second k) a c old new
  notes_then first second a b c old mid new h g =
      record {
        right = g.right;
        grows = grows_twice Formula no_formula (formulas_in a) (formulas_in b) (formulas_in c) h.grows g.grows;
        wide = wide_twice a b c h.wide g.wide;
        stays = λ k x. g.stays k (h.stays k x);
        covers = λ k l x. elim x [ inl y ↦ g.stays k (h.covers k l y) | inr y ↦ g.covers k l y ];
        only = λ k l x. elim (g.only k l x) [ inl y ↦ earlier k (h.only k l y) | inr y ↦ inr (inr y) ];
      }
    where
      earlier : (k : ℕ) → IsNoted old k ⊎ first k → IsNoted old k ⊎ (first k ⊎ second k)
      earlier k (inl y) = inl y
      earlier k (inr y) = inr (inl y)

  -- an expression, behind what its evaluation evaluates
  pub notes_whole : (exp gate from : ℕ) (a b c : Work) (old mid new : List (Option ℕ)) → exp < table_len t → HasEachOnce (table_expressions t) → AreNoted v t a old → IsVisited v t from 0 (formula_due v t exp) gate a b
      → Notes v t (λ k. EvaluatesWithin v (table_kinds t) (at t exp) (at t k)) b c old mid → new ≡ slice_set mid exp (Some gate) → Notes v t (λ k. Evaluates v (table_kinds t) (at t exp) (at t k)) a c old new
  notes_whole exp gate from a b c old mid new within once h g p is = subst (Notes v t (λ k. Evaluates v (table_kinds t) (at t exp) (at t k)) a c old) (sym is) whole
    where
      here : IsNoted (slice_set mid exp (Some gate)) exp
      here = set_here mid exp gate (omega (arith, within, p.right.len))

      covered : (k : ℕ) → k < table_len t → Evaluates v (table_kinds t) (at t exp) (at t k) → IsNoted (slice_set mid exp (Some gate)) k
      covered k l x = by (unrolled v (table_kinds t) (at t exp) (at t k) x)
        where
          by : (at t exp ≡ at t k) ⊎ EvaluatesWithin v (table_kinds t) (at t exp) (at t k) → IsNoted (slice_set mid exp (Some gate)) k
          by (inl e) = subst (IsNoted (slice_set mid exp (Some gate))) (one_number t exp k once within l e) here
          by (inr y) = set_on mid exp gate k (p.covers k l y)

      closed : (k j : ℕ) → IsNoted (slice_set mid exp (Some gate)) k → k < table_len t → j < table_len t → Evaluates v (table_kinds t) (at t k) (at t j) → IsNoted (slice_set mid exp (Some gate)) j
      closed k j x lk l y = by (set_back mid exp gate k x)
        where
          by : (exp ≡ k) ⊎ IsNoted mid k → IsNoted (slice_set mid exp (Some gate)) j
          by (inl e) = covered j l (subst (λ n. Evaluates v (table_kinds t) (at t n) (at t j)) (sym e) y)
          by (inr z) = set_on mid exp gate j (p.right.closed k j z lk l y)

      only : (k : ℕ) → k < table_len t → IsNoted (slice_set mid exp (Some gate)) k → IsNoted old k ⊎ Evaluates v (table_kinds t) (at t exp) (at t k)
      only k l x = by (set_back mid exp gate k x)
        where
          deeper : IsNoted old k ⊎ EvaluatesWithin v (table_kinds t) (at t exp) (at t k) → IsNoted old k ⊎ Evaluates v (table_kinds t) (at t exp) (at t k)
          deeper (inl y) = inl y
          deeper (inr y) = inr (rolled v (table_kinds t) (at t exp) (at t k) (inr y))

          by : (exp ≡ k) ⊎ IsNoted mid k → IsNoted old k ⊎ Evaluates v (table_kinds t) (at t exp) (at t k)
          by (inl e) = inr (rolled v (table_kinds t) (at t exp) (at t k) (inl (ap (at t) e)))
          by (inr y) = deeper (p.only k l y)

      stood : Stands Formula no_formula (formulas_in c) gate (formula_due v t exp)
      stood = stands_on Formula no_formula (formulas_in b) (formulas_in c) gate (formula_due v t exp) p.grows g.stands

      whole : Notes v t (λ k. Evaluates v (table_kinds t) (at t exp) (at t k)) a c old (slice_set mid exp (Some gate))
      whole = record {
        right = record {
          ready = p.right.ready;
          len = set_length mid exp (Some gate) ∙ p.right.len;
          kept = kept_set Formula no_formula (formulas_in c) mid (formula_due v t) exp gate p.right.kept stood;
          closed = closed;
        };
        grows = grows_twice Formula no_formula (formulas_in a) (formulas_in b) (formulas_in c) g.grows p.grows;
        wide = wide_twice a b c g.wide p.wide;
        stays = λ k x. set_on mid exp gate k (p.stays k x);
        covers = covered;
        only = only;
      }

-- What is noted so far of a list of constraints, where some are left.
pub record AreNotedSoFar (v : Valuation) (t : Table) (wanted left : List ℕ) (a b : Work) (old new : List (Option ℕ)) : Type 0 where
  pub within : IsTrue (list_all (λ e. nat_lt e (table_len t)) left)
  pub due : AreDue v t left
  pub right : AreNoted v t b new
  pub grows : Grows Formula no_formula (formulas_in a) (formulas_in b)
  pub wide : StayWide a b
  pub stays : (k : ℕ) → IsNoted old k → IsNoted new k
  pub among : (x : Expression) → EvaluateSome v (table_kinds t) (map (at t) left) x → EvaluateSome v (table_kinds t) (map (at t) wanted) x
  pub covers : (k : ℕ) → k < table_len t → EvaluateSome v (table_kinds t) (map (at t) wanted) (at t k) → IsNoted new k ⊎ EvaluateSome v (table_kinds t) (map (at t) left) (at t k)
  pub only : (k : ℕ) → k < table_len t → IsNoted new k → IsNoted old k ⊎ EvaluateSome v (table_kinds t) (map (at t) wanted) (at t k)

module _ (v : Valuation) (t : Table) where
  pub none_noted : (wanted : List ℕ) (w : Work) (numbers : List (Option ℕ)) → IsTrue (list_all (λ e. nat_lt e (table_len t)) wanted) → AreDue v t wanted → AreNoted v t w numbers → AreNotedSoFar v t wanted wanted w w numbers numbers
  none_noted wanted w numbers within due right =
      record {
        within = within;
        due = due;
        right = right;
        grows = grows_same Formula no_formula (formulas_in w);
        wide = wide_same w;
        stays = λ k h. h;
        among = λ x h. h;
        covers = λ k l h. inr h;
        only = λ k l h. inl h;
      }

  -- one more is noted
  pub next_noted : (wanted left more : List ℕ) (exp : ℕ) (a b c : Work) (old mid new : List (Option ℕ)) → left ≡ exp ∷ more → AreNotedSoFar v t wanted left a b old mid → Notes v t (λ k. Evaluates v (table_kinds t) (at t exp) (at t k)) b c mid new
      → AreNotedSoFar v t wanted more a c old new
  next_noted wanted left more exp a b c old mid new is h g = by (subst (λ (l : List ℕ). AreNotedSoFar v t wanted l a b old mid) is h)
    where
      by : AreNotedSoFar v t wanted (exp ∷ more) a b old mid → AreNotedSoFar v t wanted more a c old new
      by s = record {
        within = right_of (nat_lt exp (table_len t)) _ s.within;
        due = s.due.1;
        right = g.right;
        grows = grows_twice Formula no_formula (formulas_in a) (formulas_in b) (formulas_in c) s.grows g.grows;
        wide = wide_twice a b c s.wide g.wide;
        stays = λ k x. g.stays k (s.stays k x);
        among = λ x y. s.among x (inr y);
        covers = λ k l x. covered k l (s.covers k l x);
        only = λ k l x. noted k l (g.only k l x);
      }
        where
          covered : (k : ℕ) → k < table_len t → IsNoted mid k ⊎ (Evaluates v (table_kinds t) (at t exp) (at t k) ⊎ EvaluateSome v (table_kinds t) (map (at t) more) (at t k)) → IsNoted new k ⊎ EvaluateSome v (table_kinds t) (map (at t) more) (at t k)
          covered k l (inl x) = inl (g.stays k x)
          covered k l (inr (inl x)) = inl (g.covers k l x)
          covered k l (inr (inr x)) = inr x

          noted : (k : ℕ) → k < table_len t → IsNoted mid k ⊎ Evaluates v (table_kinds t) (at t exp) (at t k) → IsNoted old k ⊎ EvaluateSome v (table_kinds t) (map (at t) wanted) (at t k)
          noted k l (inl x) = s.only k l x
          noted k l (inr x) = inr (s.among (at t k) (inl x))

  -- what is left has a first expression
  pub left_first : (wanted left more : List ℕ) (exp : ℕ) (a b : Work) (old new : List (Option ℕ)) → left ≡ exp ∷ more → AreNotedSoFar v t wanted left a b old new → (exp < table_len t) × IsDue (formula_due v t exp)
  left_first wanted left more exp a b old new is h = by (subst (λ (l : List ℕ). AreNotedSoFar v t wanted l a b old new) is h)
    where
      by : AreNotedSoFar v t wanted (exp ∷ more) a b old new → (exp < table_len t) × IsDue (formula_due v t exp)
      by s = (ltb-true exp (table_len t) (left_of (nat_lt exp (table_len t)) _ s.within), s.due.0)

  -- all are noted
  pub all_noted : (wanted left : List ℕ) (a b : Work) (old new : List (Option ℕ)) → length left ≡ 0 → AreNotedSoFar v t wanted left a b old new → Notes v t (λ k. EvaluateSome v (table_kinds t) (map (at t) wanted) (at t k)) a b old new
  all_noted wanted (e ∷ es) a b old new none h = absurd (omega arith)
  all_noted wanted [] a b old new none h =
      record { right = h.right; grows = h.grows; wide = h.wide; stays = h.stays; covers = λ k l x. covered k (h.covers k l x); only = h.only }
    where
      covered : (k : ℕ) → IsNoted new k ⊎ ⊥ → IsNoted new k
      covered k (inl x) = x
      covered k (inr x) = absurd x

  -- where nothing is kept nothing is noted
  pub free_noted : (w : Work) (numbers : List (Option ℕ)) → IsReady v t w → length numbers ≡ table_len t → IsTrue (are_free numbers) → AreNoted v t w numbers
  free_noted w numbers ready len free =
      record {
        ready = ready;
        len = len;
        kept = kept_none Formula no_formula (formulas_in w) numbers (formula_due v t) free;
        closed = λ k j x lk lj y. absurd (not_free numbers k free x);
      }

  -- what was noted where nothing was before
  pub notes_evaluated : (wanted : List ℕ) (a b : Work) (old new : List (Option ℕ)) → IsTrue (are_free old) → Notes v t (λ k. EvaluateSome v (table_kinds t) (map (at t) wanted) (at t k)) a b old new → AreEvaluated v t wanted (formulas_in b) new
  notes_evaluated wanted a b old new free h =
      record { kept = h.right.kept; covers = h.covers; only = λ k l x. earlier k (h.only k l x) }
    where
      earlier : (k : ℕ) → IsNoted old k ⊎ EvaluateSome v (table_kinds t) (map (at t) wanted) (at t k) → EvaluateSome v (table_kinds t) (map (at t) wanted) (at t k)
      earlier k (inl x) = absurd (not_free old k free x)
      earlier k (inr x) = x

  told_same : (s : Space) (k n : ℕ) → number_at (memo_numbers s.noted) k ≡ Some n → space_told s k ≡ Some (formula_at (circuit_formulas (space_circuit s)) n)
  told_same s k n is = ap (told_at (circuit_formulas (space_circuit s))) is

  -- a space tells what was noted
  pub tells_evaluated : (s : Space) (wanted : List ℕ) → space_wanted s ≡ wanted → AreEvaluated v t wanted (formulas_in s.work) (memo_numbers s.noted) → TellsEvaluated v t s
  tells_evaluated s wanted is h =
      record {
        evaluated = λ k l x.
            let noted = h.covers k l (subst (λ (ks : List ℕ). EvaluateSome v (table_kinds t) (map (at t) ks) (at t k)) is x) in
            let stands = h.kept k noted.0 noted.1 in (slice_index_or (formulas_in s.work) noted.0 no_formula, told_same s k noted.0 noted.1, stands.is);
        skipped = λ k l x. none k (number_at (memo_numbers s.noted) k) refl (λ n e. x (subst (λ (ks : List ℕ). EvaluateSome v (table_kinds t) (map (at t) ks) (at t k)) (sym is) (h.only k l (n, e))));
      }
    where
      none : (k : ℕ) (o : Option ℕ) → number_at (memo_numbers s.noted) k ≡ o → ((n : ℕ) → number_at (memo_numbers s.noted) k ≡ Some n → ⊥) → space_told s k ≡ None
      none k None e x = ap (told_at (circuit_formulas (space_circuit s))) e
      none k (Some n) e x = absurd (x n e)

  -- and nothing, where nothing was
  pub tells_none : (s : Space) → space_wanted s ≡ [] → IsTrue (are_free (memo_numbers s.noted)) → TellsEvaluated v t s
  tells_none s is free =
      record {
        evaluated = λ k l x. absurd (subst (λ (ks : List ℕ). EvaluateSome v (table_kinds t) (map (at t) ks) (at t k)) is x);
        skipped = λ k l x. untold s free k;
      }

-- What was noted of the parts of an expression.

module _ (v : Valuation) (t : Table) (a : Work) (old : List (Option ℕ)) where
  -- of an operator whose left part settles it, ..
  pub notes_left : (op : BinaryOperator) (d e : Expression) (b : Work) (new : List (Option ℕ)) → is_divided (table_kinds t) op d e ≡ true → is_settled (settled_truth v (table_kinds t) op d) ≡ true
      → Notes v t (λ k. Evaluates v (table_kinds t) d (at t k)) a b old new → Notes v t (λ k. EvaluatesWithin v (table_kinds t) (binary op d e) (at t k)) a b old new
  notes_left op d e b new divided settled_ h =
      notes_as v t (λ k. Evaluates v (table_kinds t) d (at t k)) (λ k. EvaluatesWithin v (table_kinds t) (binary op d e) (at t k)) a b old new (λ k x. there k (where_out _ _ x)) (λ k x. where_in _ _ divided (inl x)) h
    where
      there : (k : ℕ) → Evaluates v (table_kinds t) d (at t k) ⊎ Where (not (is_settled (settled_truth v (table_kinds t) op d))) (Evaluates v (table_kinds t) e (at t k)) → Evaluates v (table_kinds t) d (at t k)
      there k (inl x) = x
      there k (inr x) = absurd (where_none _ _ (ap not settled_) x)

  -- .. and of one where it doesn't
  pub notes_both : (op : BinaryOperator) (d e : Expression) (b c : Work) (mid new : List (Option ℕ)) → is_divided (table_kinds t) op d e ≡ true → is_settled (settled_truth v (table_kinds t) op d) ≡ false
      → Notes v t (λ k. Evaluates v (table_kinds t) d (at t k)) a b old mid → Notes v t (λ k. Evaluates v (table_kinds t) e (at t k)) b c mid new
      → Notes v t (λ k. EvaluatesWithin v (table_kinds t) (binary op d e) (at t k)) a c old new
  notes_both op d e b c mid new divided open_ h g =
      notes_as v t (λ k. Evaluates v (table_kinds t) d (at t k) ⊎ Evaluates v (table_kinds t) e (at t k)) (λ k. EvaluatesWithin v (table_kinds t) (binary op d e) (at t k)) a c old new (λ k x. there k (where_out _ _ x))
      (λ k x. where_in _ _ divided (back k x)) (notes_then v t (λ k. Evaluates v (table_kinds t) d (at t k)) (λ k. Evaluates v (table_kinds t) e (at t k)) a b c old mid new h g)
    where
      there : (k : ℕ) → Evaluates v (table_kinds t) d (at t k) ⊎ Where (not (is_settled (settled_truth v (table_kinds t) op d))) (Evaluates v (table_kinds t) e (at t k)) → Evaluates v (table_kinds t) d (at t k) ⊎ Evaluates v (table_kinds t) e (at t k)
      there k (inl x) = inl x
      there k (inr x) = inr (where_out _ _ x)

      back : (k : ℕ) → Evaluates v (table_kinds t) d (at t k) ⊎ Evaluates v (table_kinds t) e (at t k) → Evaluates v (table_kinds t) d (at t k) ⊎ Where (not (is_settled (settled_truth v (table_kinds t) op d))) (Evaluates v (table_kinds t) e (at t k))
      back k (inl x) = inl x
      back k (inr x) = inr (where_in _ _ (ap not open_) x)

  -- of a choice, by what is noted beside its condition
  pub notes_choice : (c d e : Expression) (these : ℕ → Type 0) (b f : Work) (mid new : List (Option ℕ)) → is_known (table_kinds t) (choice c d e) ≡ false
      → ((k : ℕ) → ChosenOf v (table_kinds t) c (Evaluates v (table_kinds t) d (at t k)) (Evaluates v (table_kinds t) e (at t k)) → these k) → ((k : ℕ) → these k → ChosenOf v (table_kinds t) c (Evaluates v (table_kinds t) d (at t k)) (Evaluates v (table_kinds t) e (at t k)))
      → Notes v t (λ k. Evaluates v (table_kinds t) c (at t k)) a b old mid → Notes v t these b f mid new → Notes v t (λ k. EvaluatesWithin v (table_kinds t) (choice c d e) (at t k)) a f old new
  notes_choice c d e these b f mid new unknown to from h g =
      notes_as v t (λ k. Evaluates v (table_kinds t) c (at t k) ⊎ these k) (λ k. EvaluatesWithin v (table_kinds t) (choice c d e) (at t k)) a f old new (λ k x. there k (where_out _ _ x))
      (λ k x. where_in _ _ (ap not unknown) (back k x)) (notes_then v t (λ k. Evaluates v (table_kinds t) c (at t k)) these a b f old mid new h g)
    where
      there : (k : ℕ) → Evaluates v (table_kinds t) c (at t k) ⊎ ChosenOf v (table_kinds t) c (Evaluates v (table_kinds t) d (at t k)) (Evaluates v (table_kinds t) e (at t k)) → Evaluates v (table_kinds t) c (at t k) ⊎ these k
      there k (inl x) = inl x
      there k (inr x) = inr (to k x)

      back : (k : ℕ) → Evaluates v (table_kinds t) c (at t k) ⊎ these k → Evaluates v (table_kinds t) c (at t k) ⊎ ChosenOf v (table_kinds t) c (Evaluates v (table_kinds t) d (at t k)) (Evaluates v (table_kinds t) e (at t k))
      back k (inl x) = inl x
      back k (inr x) = inr (from k x)

pub not_is_true : (b : Bool) → not b ≡ true → b ≡ false
not_is_true true h = absurd (cc)
not_is_true false h = refl

pub not_is_false : (b : Bool) → not b ≡ false → b ≡ true
not_is_false true h = refl
not_is_false false h = absurd (cc)

-- one of two facts, by a test
pub either_first : (b : Bool) (P Q : Type 0) → b ≡ true → Either b P Q → P
either_first true P Q h p = p
either_first false P Q h p = absurd (cc)

pub either_second : (b : Bool) (P Q : Type 0) → b ≡ false → Either b P Q → Q
either_second true P Q h p = absurd (cc)
either_second false P Q h p = p

pub in_first : (b : Bool) (P Q : Type 0) → b ≡ true → P → Either b P Q
in_first true P Q h p = p
in_first false P Q h p = absurd (cc)

pub in_second : (b : Bool) (P Q : Type 0) → b ≡ false → Q → Either b P Q
in_second true P Q h p = absurd (cc)
in_second false P Q h p = p
