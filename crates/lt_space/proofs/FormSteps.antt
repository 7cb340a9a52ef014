-- Forms of expressions by those of their parts.
use Rattle.std.proofs.Common.{◌≡◌, ℕ, ◌+◌, ◌^◌, ◌<◌, ◌≤◌, Bool, true, false, IsTrue, Result, Ok, Err, ℤ, pos, unsigned_abs, refl, ap, sym, ◌∙◌, subst, arith, if◌then◌else◌}
use Rattle.lt_num.specs.Answer.{bounded}
use Rattle.lt_num.specs.Bounds.{most_raw}
use Rattle.lt_num.specs.Value.{is_true, raw_of}
use Rattle.lt_num.specs.declared.fault.Arith.{Arith}
use Rattle.lt_num.specs.declared.fixed.Fixed.{Fixed}
use Rattle.lt_num.specs.declared.kind.Kind.{Kind}
use Rattle.lt_num.specs.declared.value.Value.{Value}
use Rattle.lt_formula.specs.Expression.{Expression, binary, choice, variable}
use Rattle.lt_formula.specs.Facts.{facts_of}
use Rattle.lt_formula.specs.Kinds.{Kinds, number_of}
use Rattle.lt_formula.specs.Table.{spelled}
use Rattle.lt_formula.specs.Valuation.{Valuation, value_under}
use Rattle.lt_formula.specs.View.{table_expressions, table_kinds}
use Rattle.lt_formula.specs.declared.facts.Facts.{Facts}
use Rattle.lt_formula.specs.declared.operator.BinaryOperator.{BinaryOperator}
use Rattle.lt_formula.specs.declared.operator.BinaryOperator.TheVariants as two
use Rattle.lt_formula.specs.declared.role.Role.{Role}
use Rattle.lt_formula.specs.declared.table.Table.{Table}
use Rattle.lt_linear.specs.Form.{constant_form, is_raw, variable_form}
use Rattle.lt_linear.specs.declared.form.Form.{Form}
use Rattle.lt_space.specs.Meaning.{FormAnswer, after, binary_form, decimals_of, form_of, form_times, is_known, kind_of, known_form}
use Rattle.lt_space.specs.inner.Measures.{AwaitForm, Gives, HasPlace, IsGiven, IsRefused, PutTells, StayLarge, form_due, measured}
use Rattle.lt_space.specs.inner.Place.{form_at, no_form}
use Rattle.lt_space.specs.declared.measures.Measures.{Measures}
use Rattle.lt_space.proofs.Circuits.{le_true}
use Rattle.lt_space.proofs.Memos.{stands_on}
use Rattle.lt_space.proofs.Measurings.{large_twice, next_await, place_of, put_gives, then_gives, two_due}
use Rattle.lt_space.proofs.Tellings.{form_choice, form_variable}

-- What is due.

-- what an operator gives on two parts of a table
abbrev pub binary_due : Valuation → Table → BinaryOperator → ℕ → ℕ → FormAnswer
binary_due v t op left right =
    binary_form op v (table_kinds t) (spelled (table_expressions t) left) (spelled (table_expressions t) right) (form_due v t left) (form_due v t right)

pub binary_is : (v : Valuation) (t : Table) (op other : BinaryOperator) (left right : ℕ) → other ≡ op → binary_due v t op left right ≡ binary_due v t other left right
binary_is v t op other left right is = ap (λ o. binary_due v t o left right) (sym is)

-- an operator that works out no form of its own
pub binary_known : (v : Valuation) (kinds : Kinds) (op : BinaryOperator) (x d e : Expression) (a b : FormAnswer)
    → (op ≡ two.Add → ⊥) → (op ≡ two.Sub → ⊥) → (op ≡ two.Mul → ⊥) → (op ≡ two.Div → ⊥) → x ≡ binary op d e → known_form v kinds x ≡ binary_form op v kinds d e a b
binary_known v kinds op x d e a b add sub mul div is = ap (known_form v kinds) is ∙ by op add sub mul div
  where
    by : (o : BinaryOperator) → (o ≡ two.Add → ⊥) → (o ≡ two.Sub → ⊥) → (o ≡ two.Mul → ⊥) → (o ≡ two.Div → ⊥) → known_form v kinds (binary o d e) ≡ binary_form o v kinds d e a b
    by two.And h i j k = refl
    by two.Or h i j k = refl
    by two.Xor h i j k = refl
    by two.Implies h i j k = refl
    by two.Eq h i j k = refl
    by two.Ne h i j k = refl
    by two.Lt h i j k = refl
    by two.Le h i j k = refl
    by two.Gt h i j k = refl
    by two.Ge h i j k = refl
    by two.Add h i j k = absurd (h refl)
    by two.Sub h i j k = absurd (i refl)
    by two.Mul h i j k = absurd (j refl)
    by two.Div h i j k = absurd (k refl)
    by two.Mod h i j k = refl

-- whether an expression is known, by its facts
pub known_of : (t : Table) (exp : ℕ) (facts : Facts) (b : Bool) → facts ≡ facts_of (table_kinds t) (spelled (table_expressions t) exp) → facts.is_known ≡ b
    → is_known (table_kinds t) (spelled (table_expressions t) exp) ≡ b
known_of t exp facts b h k = ap (λ (f : Facts). f.is_known) (sym h) ∙ k

-- a choice: by its condition's value one of its branches, or else the fault of the condition
pub choice_is : (v : Valuation) (t : Table) (exp condition first second : ℕ) (value : Value)
    → spelled (table_expressions t) exp ≡ choice (spelled (table_expressions t) condition) (spelled (table_expressions t) first) (spelled (table_expressions t) second)
    → is_known (table_kinds t) (spelled (table_expressions t) exp) ≡ false → Ok value ≡ value_under v (table_kinds t) (spelled (table_expressions t) condition)
    → (if is_true value then form_due v t first else form_due v t second) ≡ form_due v t exp
choice_is v t exp condition first second value spells unknown told =
    let es = spelled (table_expressions t) in
    ap (λ (w : Result Value Arith). after w (λ (u : Value). if is_true u then form_due v t first else form_due v t second)) told
    ∙ sym (form_choice v (table_kinds t) (es exp) (es condition) (es first) (es second) spells unknown)

pub choice_fails : (v : Valuation) (t : Table) (exp condition first second : ℕ) (fault : Arith)
    → spelled (table_expressions t) exp ≡ choice (spelled (table_expressions t) condition) (spelled (table_expressions t) first) (spelled (table_expressions t) second)
    → is_known (table_kinds t) (spelled (table_expressions t) exp) ≡ false → Err fault ≡ value_under v (table_kinds t) (spelled (table_expressions t) condition)
    → Err fault ≡ form_due v t exp
choice_fails v t exp condition first second fault spells unknown told =
    let es = spelled (table_expressions t) in
    ap (λ (w : Result Value Arith). after w (λ (u : Value). if is_true u then form_due v t first else form_due v t second)) told
    ∙ sym (form_choice v (table_kinds t) (es exp) (es condition) (es first) (es second) spells unknown)

-- the branch that is chosen
pub chosen : (b c : Bool) (first second due : FormAnswer) → b ≡ c → (if b then first else second) ≡ due → (if c then first else second) ≡ due
chosen b c first second due same h = subst (λ w. (if w then first else second) ≡ due) same h

-- a known number
pub known_told : (v : Valuation) (kinds : Kinds) (x : Expression) (value : Value) (number : Fixed) → Ok value ≡ value_under v kinds x → Ok number ≡ bounded (raw_of value) → Ok (constant_form number.raw) ≡ known_form v kinds x
known_told v kinds x value number told within =
    ap (λ a. after a (λ (n : Fixed). Ok (constant_form n.raw))) within
    ∙ ap (λ a. after a (λ (w : Value). after (bounded (raw_of w)) (λ (n : Fixed). Ok (constant_form n.raw)))) told

-- a variable of its kind
pub variable_told : (v : Valuation) (kinds : Kinds) (x : Expression) (r : Role) (i number decimals : ℕ) (coefficient : ℤ) (k : Kind) → x ≡ variable r i → is_known kinds x ≡ false → number ≡ number_of kinds r i
    → coefficient ≡ pos (10 ^ decimals) → decimals ≡ decimals_of k v.decimals → k ≡ kind_of kinds x → Ok (variable_form number coefficient) ≡ form_of v kinds x
variable_told v kinds x r i number decimals coefficient k spells unknown is power places kind =
    let same : k ≡ kind_of kinds (variable r i) = kind ∙ ap (kind_of kinds) spells in
    (λ j. Ok (variable_form (is j) ((power ∙ ap (λ n. pos (10 ^ n)) (places ∙ ap (λ s. decimals_of s v.decimals) same)) j))) ∙ sym (form_variable v kinds x r i spells unknown)

-- a power of ten is within the bound
pub power_raw : (c : ℤ) → unsigned_abs c ≤ 1_000_000 → IsTrue (is_raw c)
power_raw c h = le_true (unsigned_abs c) most_raw (omega (arith, h))

-- the product of a known factor and a form
pub known_times : (v : Valuation) (t : Table) (left right : ℕ) → is_known (table_kinds t) (spelled (table_expressions t) left) ≡ true
    → after (value_under v (table_kinds t) (spelled (table_expressions t) left)) (λ by. after (form_due v t right) (λ f. form_times (kind_of (table_kinds t) (spelled (table_expressions t) left)) v.decimals f (raw_of by)))
    ≡ binary_due v t two.Mul left right
known_times v t left right h =
    let kinds = table_kinds t in
    let d = spelled (table_expressions t) left in
    let e = spelled (table_expressions t) right in
    ap (λ (b : Bool). if b then after (value_under v kinds d) (λ by. after (form_due v t right) (λ f. form_times (kind_of kinds d) v.decimals f (raw_of by)))
    else after (form_due v t left) (λ f. after (value_under v kinds e) (λ by. form_times (kind_of kinds d) v.decimals f (raw_of by)))) (sym h)

-- the product of a form and a known factor
pub times_known : (v : Valuation) (t : Table) (left right : ℕ) → is_known (table_kinds t) (spelled (table_expressions t) left) ≡ false
    → after (form_due v t left) (λ f. after (value_under v (table_kinds t) (spelled (table_expressions t) right)) (λ by. form_times (kind_of (table_kinds t) (spelled (table_expressions t) left)) v.decimals f (raw_of by)))
    ≡ binary_due v t two.Mul left right
times_known v t left right h =
    let kinds = table_kinds t in
    let d = spelled (table_expressions t) left in
    let e = spelled (table_expressions t) right in
    ap (λ (b : Bool). if b then after (value_under v kinds d) (λ by. after (form_due v t right) (λ f. form_times (kind_of kinds d) v.decimals f (raw_of by)))
    else after (form_due v t left) (λ f. after (value_under v kinds e) (λ by. form_times (kind_of kinds d) v.decimals f (raw_of by)))) (sym h)

-- a number that is known first
pub known_first : {A B C : Type 0} (a : A) (da : Result A Arith) (db : Result B Arith) (op : A → B → Result C Arith) → Ok a ≡ da → after db (op a) ≡ after da (λ x. after db (op x))
known_first a da db op h = ap (λ d. after d (λ x. after db (op x))) h

-- a fault of the second one
pub fault_then : {A B C : Type 0} (a : A) (da : Result A Arith) (db : Result B Arith) (op : A → B → Result C Arith) (fault : Arith) → Ok a ≡ da → Err fault ≡ db → Err fault ≡ after da (λ x. after db (op x))
fault_then a da db op fault h k = λ i. after (h i) (λ x. after (k i) (op x))

-- Calls and what they give.

module _ (v : Valuation) (t : Table) where
  -- what is given is what is due
  pub gives_is : (f owed : ℕ) (d due : FormAnswer) (answer : Result ℕ Arith) (a b : Measures) → d ≡ due → Gives v t f owed d answer a b → Gives v t f owed due answer a b
  gives_is f owed d due answer a b e h = subst (λ w. Gives v t f owed w answer a b) e h

  -- a fault that is due
  pub fault_gives : (f owed : ℕ) (due : FormAnswer) (fault : Arith) (answer : Result ℕ Arith) (a b : Measures) → answer ≡ Err fault → Err fault ≡ due → StayLarge a b → Gives v t f owed due answer a b
  fault_gives f owed due fault answer a b is told large = subst (λ r. Gives v t f owed due r a b) (sym is) (record { is = told; large = large })

  -- a fault of a part
  pub part_fails : (f owed : ℕ) (d due : FormAnswer) (op : Form → FormAnswer) (fault : Arith) (answer : Result ℕ Arith) (a b : Measures)
      → answer ≡ Err fault → IsRefused d fault a b → after d op ≡ due → Gives v t f owed due answer a b
  part_fails f owed d due op fault answer a b is h e = fault_gives f owed due fault answer a b is (ap (λ w. after w op) h.is ∙ e) h.large

  -- a fault after a part
  pub later_fails : {B : Type 0} (f owed from : ℕ) (d due : FormAnswer) (w : Result B Arith) (op : Form → B → FormAnswer) (n : ℕ) (fault : Arith) (answer : Result ℕ Arith) (a b c : Measures)
      → answer ≡ Err fault → IsGiven v t from 0 d n a b → Err fault ≡ w → StayLarge b c → after d (λ x. after w (op x)) ≡ due → Gives v t f owed due answer a c
  later_fails f owed from d due w op n fault answer a b c is g told large e =
      fault_gives f owed due fault answer a c is (fault_then (form_at (measured b) n) d w op fault g.stands.is told ∙ e) (large_twice a b c g.large large)

  -- after two parts
  pub await_twice : (i j exp n₁ n₂ : ℕ) (d₁ d₂ : FormAnswer) (a b c : Measures) → AwaitForm v t exp a → IsGiven v t (i + 1) 0 d₁ n₁ a b → i < exp → IsGiven v t (j + 1) 0 d₂ n₂ b c → j < exp → AwaitForm v t exp c
  await_twice i j exp n₁ n₂ d₁ d₂ a b c await g l h m = next_await v t (j + 1) exp d₂ n₂ b c (next_await v t (i + 1) exp d₁ n₁ a b await g (omega (arith, l))) h (omega (arith, m))

  pub place_once : (i exp n : ℕ) (d : FormAnswer) (a b : Measures) → AwaitForm v t exp a → IsGiven v t (i + 1) 0 d n a b → i < exp → HasPlace b
  place_once i exp n d a b await g l = place_of v t exp b (next_await v t (i + 1) exp d n a b await g (omega (arith, l)))

  pub place_twice : (i j exp n₁ n₂ : ℕ) (d₁ d₂ : FormAnswer) (a b c : Measures) → AwaitForm v t exp a → IsGiven v t (i + 1) 0 d₁ n₁ a b → i < exp → IsGiven v t (j + 1) 0 d₂ n₂ b c → j < exp → HasPlace c
  place_twice i j exp n₁ n₂ d₁ d₂ a b c await g l h m = place_of v t exp c (await_twice i j exp n₁ n₂ d₁ d₂ a b c await g l h m)

  -- a form is put that comes of that of a part
  pub one_put : (i exp n : ℕ) (d put due : FormAnswer) (op : Form → FormAnswer) (answer : Result ℕ Arith) (a b c : Measures) → AwaitForm v t exp a → IsGiven v t (i + 1) 0 d n a b → i < exp
      → PutTells put answer b c → put ≡ op (form_at (measured b) n) → after d op ≡ due → Gives v t exp 1 due answer a c
  one_put i exp n d put due op answer a b c await g l told is e =
      let next = next_await v t (i + 1) exp d n a b await g (omega (arith, l)) in
      then_gives v t exp (i + 1) 1 d put due n answer a b c g (omega (arith, l)) (put_gives v t exp b c put answer next told) (is ∙ ap (λ w. after w op) g.stands.is ∙ e)

  -- a form is put that comes of those of two parts
  pub two_put : (i j exp n₁ n₂ : ℕ) (d₁ d₂ due : FormAnswer) (op : Form → Form → FormAnswer) (answer : Result ℕ Arith) (a b c d : Measures) → AwaitForm v t exp a → IsGiven v t (i + 1) 0 d₁ n₁ a b → i < exp
      → IsGiven v t (j + 1) 0 d₂ n₂ b c → j < exp → PutTells (op (form_at (measured c) n₁) (form_at (measured c) n₂)) answer c d → after d₁ (λ x. after d₂ (op x)) ≡ due → Gives v t exp 1 due answer a d
  two_put i j exp n₁ n₂ d₁ d₂ due op answer a b c d await g l h m told e =
      let x = form_at (measured c) n₁ in
      let y = form_at (measured c) n₂ in
      let first = (stands_on Form no_form (measured b) (measured c) n₁ d₁ h.grows g.stands).is in
      let given = then_gives v t exp (j + 1) 1 d₂ (op x y) (op x y) n₂ answer b c d h (omega (arith, m)) (put_gives v t exp c d (op x y) answer (await_twice i j exp n₁ n₂ d₁ d₂ a b c await g l h m) told) refl in
      then_gives v t exp (i + 1) 1 d₁ (op x y) due n₁ answer a b d g (omega (arith, l)) given (two_due x y d₁ d₂ op first h.stands.is ∙ e)
