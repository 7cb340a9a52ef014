-- Steps by which gates are worked out.
use Rattle.std.proofs.Common.{◌≡◌, ℕ, ◌+◌, ◌*◌, ◌<◌, ◌≤◌, false, IsTrue, List, [], ◌∷◌, ◌++◌, length, nat_le, nat_lt, Option, Some, Result, Ok, Err, refl, ap, sym, ◌∙◌, subst, arith, unsigned_abs, not, ◌&&◌, pos, zero, suc, ◌⊎◌, inl, inr, ℤ, length-append}
use Rattle.std.specs.Prelude.{slice_set}
use Rattle.std.specs.Ordering.{int_eq}
use Rattle.std.proofs.lemmas.Bool.Decides.{nat_tests}
use Rattle.lt_num.specs.declared.fault.Arith.{Arith}
use Rattle.lt_num.specs.declared.kind.Kind.{Kind}
use Rattle.lt_formula.specs.Limits.{most_variables}
use Rattle.lt_formula.specs.Valuation.{Valuation}
use Rattle.lt_formula.specs.declared.operator.BinaryOperator.{BinaryOperator}
use Rattle.lt_formula.specs.declared.operator.BinaryOperator.TheVariants as two
use Rattle.lt_formula.specs.declared.table.Table.{Table}
use Rattle.lt_linear.specs.Form.{Term, form_compared}
use Rattle.lt_linear.specs.Order.{are_in_order, is_coefficient, is_difference}
use Rattle.lt_linear.specs.declared.form.Form.{Form}
use Rattle.lt_linear.proofs.Public.{few_terms}
use Rattle.lt_space.specs.Circuit.{are_terms, formula_at, is_exact_form}
use Rattle.lt_space.specs.CircuitView.{circuit_formulas, circuit_len, circuit_room, circuit_terms, circuit_terms_room}
use Rattle.lt_space.specs.Formula.{Formula, atom, exclusive, negation, truth}
use Rattle.lt_space.specs.Meaning.{FormAnswer, FormulaAnswer, after, compared, comparison, connected, factor_of}
use Rattle.lt_space.specs.inner.Kept.{AreKept, Stands, number_at, unkept}
use Rattle.lt_space.specs.inner.Measures.{AreReady, IsGiven, IsRedrafted, IsRefused, StayLarge, measured}
use Rattle.lt_space.specs.inner.Memo.{memo_numbers}
use Rattle.lt_space.specs.inner.Place.{form_at}
use Rattle.lt_space.specs.inner.Pushed.{IsPushed, no_formula}
use Rattle.lt_space.specs.inner.Work.{AwaitsGate, IsFailed, IsReady, IsVisited, StayWide, Visits, formula_due, formulas_in, gates_in}
use Rattle.lt_space.specs.declared.circuit.Circuit.{Circuit}
use Rattle.lt_space.specs.declared.formula.Atom.TheVariants.{Compare}
use Rattle.lt_space.specs.declared.formula.Relation.{Relation}
use Rattle.lt_space.specs.declared.measures.Measures.{Measures}
use Rattle.lt_space.specs.declared.memo.Memo.{Memo}
use Rattle.lt_space.specs.declared.work.Work.{Work}
use Rattle.lt_space.proofs.Circuits.{both, left_of, le_true, length-formulas, right_of}
use Rattle.lt_space.proofs.Measurings.{large_same, large_twice}
use Rattle.lt_space.proofs.Memos.{grows_one, grows_same, grows_twice, kept_on, kept_set, one_unkept, other_at, set_length, stands_last, unkept_set}

-- Gates that are put.

-- a gate was put, with so many terms
pub pushed_terms : (old new : Circuit) (n : ℕ) (formula : Formula) (count : ℕ) → n ≡ circuit_len old → circuit_formulas new ≡ circuit_formulas old ++ formula ∷ [] → circuit_len new ≡ circuit_len old + 1
    → length (circuit_terms new) ≤ length (circuit_terms old) + count → circuit_room new ≡ circuit_room old → circuit_terms_room old ≤ circuit_terms_room new → IsPushed 1 count old new n formula
pushed_terms old new n formula count number formulas len terms room terms_room =
    let at : length (circuit_formulas old) ≡ n = length-formulas old.terms.items old.gates.items ∙ sym number in
    let stands = subst (λ k. Stands Formula no_formula (circuit_formulas new) k (Ok formula)) at (stands_last Formula no_formula (circuit_formulas old) (circuit_formulas new) formula (Ok formula) formulas refl) in
    record {
      within = stands.within;
      is = same _ _ stands.is;
      grows = grows_one Formula no_formula (circuit_formulas old) (circuit_formulas new) formula formulas;
      len = omega (arith, len);
      terms = terms;
      room = room;
      terms_room = terms_room;
    }
  where
    same : (f g : Formula) → ◌≡◌ {A = FormulaAnswer} (Ok f) (Ok g) → f ≡ g
    same f g h = cc

-- a gate was put without terms
pub pushed_gate : (old new : Circuit) (n : ℕ) (formula : Formula) → n ≡ circuit_len old → circuit_formulas new ≡ circuit_formulas old ++ formula ∷ [] → circuit_len new ≡ circuit_len old + 1
    → circuit_terms new ≡ circuit_terms old → circuit_room new ≡ circuit_room old → circuit_terms_room new ≡ circuit_terms_room old → IsPushed 1 0 old new n formula
pushed_gate old new n formula number formulas len terms room terms_room =
    pushed_terms old new n formula 0 number formulas len (omega (arith, ap length terms)) room (omega (arith, terms_room))

-- more may be put
pub pushed_more : (old new : Circuit) (n : ℕ) (formula : Formula) (g g₂ k k₂ : ℕ) → g ≤ g₂ → k ≤ k₂ → IsPushed g k old new n formula → IsPushed g₂ k₂ old new n formula
pushed_more old new n formula g g₂ k k₂ lg lk p =
    record { within = p.within; is = p.is; grows = p.grows; len = omega (arith, p.len); terms = omega (arith, p.terms); room = p.room; terms_room = p.terms_room }

-- a gate was put over one that was put
pub pushed_twice : (a b c : Circuit) (n m : ℕ) (f g : Formula) (k : ℕ) → IsPushed 1 k a b n f → IsPushed 1 0 b c m g → IsPushed 2 k a c m g
pushed_twice a b c n m f g k p q =
    record {
      within = q.within;
      is = q.is;
      grows = grows_twice Formula no_formula (circuit_formulas a) (circuit_formulas b) (circuit_formulas c) p.grows q.grows;
      len = omega (arith, p.len, q.len);
      terms = omega (arith, p.terms, q.terms);
      room = q.room ∙ p.room;
      terms_room = omega (arith, p.terms_room, q.terms_room);
    }

-- it is another formula
pub pushed_is : (old new : Circuit) (n : ℕ) (f g : Formula) (i j : ℕ) → f ≡ g → IsPushed i j old new n f → IsPushed i j old new n g
pushed_is old new n f g i j e p = subst (IsPushed i j old new n) e p

-- Parts of gates.

lt_true : (a b : ℕ) → a < b → IsTrue (nat_lt a b)
lt_true a b h = grind (arith, nat_tests)

-- a formula that is there is that of a gate
pub one_fits : (c : Circuit) (a : ℕ) → a < length (circuit_formulas c) → IsTrue (nat_lt a (circuit_len c))
one_fits c a h = lt_true a (circuit_len c) (omega (arith, h, length-formulas c.terms.items c.gates.items))

pub two_fit : (c : Circuit) (a b : ℕ) → a < length (circuit_formulas c) → b < length (circuit_formulas c) → IsTrue (nat_lt a (circuit_len c) && nat_lt b (circuit_len c))
two_fit c a b h k = both (nat_lt a (circuit_len c)) _ (one_fits c a h) (one_fits c b k)

pub three_fit : (c : Circuit) (a b d : ℕ) → a < length (circuit_formulas c) → b < length (circuit_formulas c) → d < length (circuit_formulas c)
    → IsTrue (nat_lt a (circuit_len c) && (nat_lt b (circuit_len c) && nat_lt d (circuit_len c)))
three_fit c a b d h k l = both (nat_lt a (circuit_len c)) _ (one_fits c a h) (two_fit c b d k l)

-- a variable that is below the others
pub flag_fits : (n below : ℕ) → n < below → below ≤ most_variables → IsTrue (nat_lt n most_variables)
flag_fits n below h k = lt_true n most_variables (omega (arith, h, k))

-- two operators say that just one part holds, ..
pub connected_xor : (op : BinaryOperator) (f h : Formula) → (op ≡ two.Xor) ⊎ (op ≡ two.Ne) → exclusive f h ≡ connected op f h
connected_xor op f h (inl is) = ap (λ (o : BinaryOperator). connected o f h) (sym is)
connected_xor op f h (inr is) = ap (λ (o : BinaryOperator). connected o f h) (sym is)

-- .. what is not another one gives what `=` does, ..
pub connected_rest : (op : BinaryOperator) (f h : Formula) → (op ≡ two.And → ⊥) → (op ≡ two.Or → ⊥) → (op ≡ two.Xor → ⊥) → (op ≡ two.Implies → ⊥) → (op ≡ two.Ne → ⊥) → negation (exclusive f h) ≡ connected op f h
connected_rest two.And f h a o x i n = absurd (a refl)
connected_rest two.Or f h a o x i n = absurd (o refl)
connected_rest two.Xor f h a o x i n = absurd (x refl)
connected_rest two.Implies f h a o x i n = absurd (i refl)
connected_rest two.Ne f h a o x i n = absurd (n refl)
connected_rest two.Eq f h a o x i n = refl
connected_rest two.Lt f h a o x i n = refl
connected_rest two.Le f h a o x i n = refl
connected_rest two.Gt f h a o x i n = refl
connected_rest two.Ge f h a o x i n = refl
connected_rest two.Add f h a o x i n = refl
connected_rest two.Sub f h a o x i n = refl
connected_rest two.Mul f h a o x i n = refl
connected_rest two.Div f h a o x i n = refl
connected_rest two.Mod f h a o x i n = refl

-- .. and what compares nothing is false
pub comparison_rest : (op : BinaryOperator) (k : Kind) (decimals : ℕ) (a b : Form) → (op ≡ two.Eq → ⊥) → (op ≡ two.Ne → ⊥) → (op ≡ two.Lt → ⊥) → (op ≡ two.Le → ⊥) → (op ≡ two.Gt → ⊥) → (op ≡ two.Ge → ⊥) → truth false ≡ comparison op k decimals a b
comparison_rest two.Eq k decimals a b e n l m g h = absurd (e refl)
comparison_rest two.Ne k decimals a b e n l m g h = absurd (n refl)
comparison_rest two.Lt k decimals a b e n l m g h = absurd (l refl)
comparison_rest two.Le k decimals a b e n l m g h = absurd (m refl)
comparison_rest two.Gt k decimals a b e n l m g h = absurd (g refl)
comparison_rest two.Ge k decimals a b e n l m g h = absurd (h refl)
comparison_rest two.And k decimals a b e n l m g h = refl
comparison_rest two.Or k decimals a b e n l m g h = refl
comparison_rest two.Xor k decimals a b e n l m g h = refl
comparison_rest two.Implies k decimals a b e n l m g h = refl
comparison_rest two.Add k decimals a b e n l m g h = refl
comparison_rest two.Sub k decimals a b e n l m g h = refl
comparison_rest two.Mul k decimals a b e n l m g h = refl
comparison_rest two.Div k decimals a b e n l m g h = refl
comparison_rest two.Mod k decimals a b e n l m g h = refl

-- Differences that are compared.

terms_of : (n below : ℕ) (ts : List Term) → below ≤ most_variables → IsTrue (are_in_order is_coefficient n below ts) → IsTrue (are_terms ts)
terms_of n below [] l h = refl
terms_of n below (t ∷ ts) l h =
    let rest = right_of (is_coefficient t.1) _ (right_of (not (int_eq t.1 (pos 0))) _ (right_of (nat_le n t.0) _ h)) in
    let few = few_terms is_coefficient (t.0 + 1) below ts rest in
    both (nat_lt t.0 most_variables && nat_le (unsigned_abs t.1) 2_000_000_000_000_000_000) _
    (both (nat_lt t.0 most_variables) _ (lt_true t.0 most_variables (omega arith)) (left_of (is_coefficient t.1) _ (right_of (not (int_eq t.1 (pos 0))) _ (right_of (nat_le n t.0) _ h))))
    (terms_of (t.0 + 1) below ts l rest)

-- a difference is one of a comparison
pub difference_exact : (below : ℕ) (form : Form) → below ≤ most_variables → IsTrue (is_difference below form) → IsTrue (is_exact_form form)
difference_exact below form l h =
    let order = left_of (are_in_order is_coefficient 0 below form.terms) _ h in
    let few = few_terms is_coefficient 0 below form.terms order in
    both (nat_le (length form.terms) 128) _ (le_true (length form.terms) 128 (omega arith)) (both (are_terms form.terms) _ (terms_of 0 below form.terms l order) (right_of (are_in_order is_coefficient 0 below form.terms) _ h))

-- so is a lent one
pub lent_difference : (below : ℕ) (form lent : Form) → lent ≡ form → IsTrue (is_difference below form) → IsTrue (is_difference below lent)
lent_difference below form lent is h = subst (λ (f : Form). IsTrue (is_difference below f)) (sym is) h

-- and has at most as many terms as variables
pub difference_few : (below : ℕ) (form : Form) → IsTrue (is_difference below form) → length form.terms ≤ below
difference_few below form h = let few = few_terms is_coefficient 0 below form.terms (left_of (are_in_order is_coefficient 0 below form.terms) _ h) in omega arith

pub terms_more : (ts new us : List Term) (most : ℕ) → new ≡ ts ++ us → length us ≤ most → length new ≤ length ts + most
terms_more ts new us most is l = omega (arith, ap length is, length-append ts us, l)

-- the atom of a difference is what compares two forms
pub compared_is : (k : Kind) (decimals : ℕ) (relation : Relation) (factor : ℤ) (a b form : Form) → form ≡ form_compared factor a b → factor ≡ factor_of k decimals → atom (Compare form relation) ≡ compared k decimals a b relation
compared_is k decimals relation factor a b form is by = ap (λ (f : Form). atom (Compare f relation)) (is ∙ ap (λ z. form_compared z a b) by)

-- a draft that was written loses no room
pub redraft_large : (old new : Measures) → IsRedrafted old new → StayLarge old new
redraft_large old new h =
    subst (StayLarge old) (sym h.same) (record { len = refl; variables = refl; forms = omega arith; terms = omega arith; draft = h.draft })

-- Room.

pub wide_same : (w : Work) → StayWide w w
wide_same w = record { len = refl; gates = refl; terms = omega arith; measures = large_same w.measures }

pub wide_twice : (a b c : Work) → StayWide a b → StayWide b c → StayWide a c
wide_twice a b c h k =
    record {
      len = k.len ∙ h.len;
      gates = k.gates ∙ h.gates;
      terms = omega (arith, h.terms, k.terms);
      measures = large_twice a.measures b.measures c.measures h.measures k.measures;
    }

at_least : (u v : ℕ) → 1 ≤ u → v ≤ u * v
at_least zero v h = absurd (omega arith)
at_least (suc u) v h = omega arith

module _ (v : Valuation) (t : Table) where
  -- an expression without a gate leaves room for two, ..
  pub gates_of : (exp : ℕ) (w : Work) → AwaitsGate v t exp w → circuit_len w.circuit + 2 ≤ circuit_room w.circuit
  gates_of exp w h =
      let one : 1 ≤ unkept (gates_in w) = one_unkept (gates_in w) exp h.free (omega (arith, h.within, h.ready.right.len)) in
      omega (arith, h.ready.room.gates, one)

  -- .. and for the terms of a comparison
  pub terms_room_of : (exp : ℕ) (w : Work) → AwaitsGate v t exp w → length (circuit_terms w.circuit) + w.measures.variables ≤ circuit_terms_room w.circuit
  terms_room_of exp w h =
      let one : 1 ≤ unkept (gates_in w) = one_unkept (gates_in w) exp h.free (omega (arith, h.within, h.ready.right.len)) in
      omega (arith, h.ready.room.terms, at_least (unkept (gates_in w)) w.measures.variables one)

  -- a gate that was put is what is due
  pub pushed_visited : (exp : ℕ) (old : Work) (c : Circuit) (n : ℕ) (formula : Formula) (due : FormulaAnswer) → AwaitsGate v t exp old → IsPushed 2 old.measures.variables old.circuit c n formula → Ok formula ≡ due
      → IsVisited v t exp 1 due n old (record old { circuit = c })
  pushed_visited exp old c n formula due await p told =
      record {
        stands = record { within = p.within; is = ap Ok p.is ∙ told };
        right = record {
          len = await.ready.right.len;
          kept = kept_on Formula no_formula (formulas_in old) (circuit_formulas c) (gates_in old) (formula_due v t) p.grows await.ready.right.kept;
          measured = await.ready.right.measured;
        };
        room = record { gates = omega (arith, await.ready.room.gates, p.len, p.room); terms = omega (arith, await.ready.room.terms, p.terms, p.terms_room) };
        spent = omega (arith, p.len);
        grows = p.grows;
        same = λ k l. refl;
        wide = record { len = refl; gates = p.room; terms = p.terms_room; measures = large_same old.measures };
      }

  -- the same where the gate is a small one
  pub one_visited : (exp : ℕ) (old : Work) (c : Circuit) (n : ℕ) (formula : Formula) (due : FormulaAnswer) → AwaitsGate v t exp old → IsPushed 1 0 old.circuit c n formula → Ok formula ≡ due
      → IsVisited v t exp 1 due n old (record old { circuit = c })
  one_visited exp old c n formula due await p told =
      pushed_visited exp old c n formula due await (pushed_more old.circuit c n formula 1 2 0 old.measures.variables (omega arith) (omega arith) p) told

  -- after a part was worked out, an expression has no gate yet
  pub next_gate : (from exp : ℕ) (due : FormulaAnswer) (n : ℕ) (a b : Work) → AwaitsGate v t exp a → IsVisited v t from 0 due n a b → from ≤ exp → AwaitsGate v t exp b
  next_gate from exp due n a b await g l =
      record { ready = record { right = g.right; room = g.room }; within = await.within; free = g.same exp l ∙ await.free }

  -- what is there after a part
  pub then_visits : (f f₁ owed : ℕ) (d₁ d due : FormulaAnswer) (n₁ : ℕ) (answer : Result ℕ Arith) (a b c : Work) → IsVisited v t f₁ 0 d₁ n₁ a b → f₁ ≤ f → Visits v t f owed d answer b c → d ≡ due → Visits v t f owed due answer a c
  then_visits f f₁ owed d₁ d due n₁ (Ok n) a b c g l h e =
      record {
        stands = subst (Stands Formula no_formula (formulas_in c) n) e h.stands;
        right = h.right;
        room = h.room;
        spent = omega (arith, g.spent, h.spent);
        grows = grows_twice Formula no_formula (formulas_in a) (formulas_in b) (formulas_in c) g.grows h.grows;
        same = λ k m. h.same k m ∙ g.same k (omega (arith, l, m));
        wide = wide_twice a b c g.wide h.wide;
      }
  then_visits f f₁ owed d₁ d due n₁ (Err fault) a b c g l h e = record { is = h.is ∙ e; wide = wide_twice a b c g.wide h.wide }

  -- what is there for a part may be what is due for the whole
  pub part_visits : (f f₁ : ℕ) (d due : FormulaAnswer) (answer : Result ℕ Arith) (a b : Work) → Visits v t f₁ 0 d answer a b → f₁ ≤ f → d ≡ due → Visits v t f 1 due answer a b
  part_visits f f₁ d due (Ok n) a b g l e =
      record {
        stands = subst (Stands Formula no_formula (formulas_in b) n) e g.stands;
        right = g.right;
        room = record { gates = omega (arith, g.room.gates); terms = omega (arith, g.room.terms) };
        spent = omega (arith, g.spent);
        grows = g.grows;
        same = λ k m. g.same k (omega (arith, l, m));
        wide = g.wide;
      }
  part_visits f f₁ d due (Err fault) a b g l e = record { is = g.is ∙ e; wide = g.wide }

  -- a gate that is there is kept
  pub keep_visited : (exp n : ℕ) (old mid : Work) (memo : Memo) → AwaitsGate v t exp old → IsVisited v t exp 1 (formula_due v t exp) n old mid → memo_numbers memo ≡ slice_set (gates_in mid) exp (Some n)
      → IsVisited v t (exp + 1) 0 (formula_due v t exp) n old (record mid { memo = memo })
  keep_visited exp n old mid memo await g is =
      let free = g.same exp (omega arith) ∙ await.free in
      let within : exp < length (gates_in mid) = omega (arith, await.within, g.right.len) in
      let less : unkept (memo_numbers memo) + 1 ≡ unkept (gates_in mid) = ap (λ ns. unkept ns + 1) is ∙ unkept_set (gates_in mid) exp n free within in
      let w : (unkept (memo_numbers memo) + 1) * mid.measures.variables ≡ unkept (gates_in mid) * mid.measures.variables = ap (λ u. u * mid.measures.variables) less in
      let len : length (memo_numbers memo) ≡ length (gates_in mid) = ap length is ∙ set_length (gates_in mid) exp (Some n) in
      record {
        stands = g.stands;
        right = record {
          len = len ∙ g.right.len;
          kept = subst (λ (ns : List (Option ℕ)). AreKept Formula no_formula (formulas_in mid) ns (formula_due v t)) (sym is) (kept_set Formula no_formula (formulas_in mid) (gates_in mid) (formula_due v t) exp n g.right.kept g.stands);
          measured = g.right.measured;
        };
        room = record { gates = omega (arith, g.room.gates, less); terms = omega (arith, g.room.terms, w) };
        spent = omega (arith, g.spent, less);
        grows = g.grows;
        same = λ k l. ap (λ ns. number_at ns k) is ∙ other_at (gates_in mid) exp k (Some n) (omega arith) ∙ g.same k (omega arith);
        wide = record { len = len ∙ g.wide.len; gates = g.wide.gates; terms = g.wide.terms; measures = g.wide.measures };
      }

  -- a gate that is kept is there
  pub found_visited : (exp n : ℕ) (w : Work) → IsReady v t w → Some n ≡ number_at (gates_in w) exp → IsVisited v t (exp + 1) 0 (formula_due v t exp) n w w
  found_visited exp n w ready is =
      record {
        stands = ready.right.kept exp n (sym is);
        right = ready.right;
        room = ready.room;
        spent = omega arith;
        grows = grows_same Formula no_formula (formulas_in w);
        same = λ k l. refl;
        wide = wide_same w;
      }

  -- after forms were worked out, an expression has no gate yet
  pub await_measured : (exp : ℕ) (w : Work) (m : Measures) → AwaitsGate v t exp w → AreReady v t m → StayLarge w.measures m → AwaitsGate v t exp (record w { measures = m })
  await_measured exp w m await ready large =
      let same : unkept (gates_in w) * m.variables ≡ unkept (gates_in w) * w.measures.variables = ap (λ k. unkept (gates_in w) * k) large.variables in
      record {
        ready = record {
          right = record { len = await.ready.right.len; kept = await.ready.right.kept; measured = ready };
          room = record { gates = await.ready.room.gates; terms = omega (arith, await.ready.room.terms, same) };
        };
        within = await.within;
        free = await.free;
      }

  -- what is there after forms were worked out
  pub measured_visited : (f owed : ℕ) (due : FormulaAnswer) (n : ℕ) (old : Work) (m : Measures) (new : Work) → StayLarge old.measures m → IsVisited v t f owed due n (record old { measures = m }) new → IsVisited v t f owed due n old new
  measured_visited f owed due n old m new large g =
      record {
        stands = g.stands;
        right = g.right;
        room = g.room;
        spent = g.spent;
        grows = g.grows;
        same = g.same;
        wide = record { len = g.wide.len; gates = g.wide.gates; terms = g.wide.terms; measures = large_twice old.measures m new.measures large g.wide.measures };
      }

  -- a draft that was written changes nothing of what is kept
  pub ready_redrafted : (old new : Measures) → AreReady v t old → IsRedrafted old new → AreReady v t new
  ready_redrafted old new ready redrafted =
      subst (AreReady v t) (sym redrafted.same)
      (record {
        right = record { len = ready.right.len; variables = ready.right.variables; kept = ready.right.kept; forms = ready.right.forms };
        room = record { forms = ready.room.forms; terms = ready.room.terms; draft = omega (arith, ready.room.draft, redrafted.draft) };
      })

  -- a fault of the first part, of the second one, and of the third
  pub stop_first : (dl : FormulaAnswer) (fault : Arith) (a b : Work) (g : Formula → FormulaAnswer) → IsFailed dl fault a b → IsFailed (after dl g) fault a b
  stop_first dl fault a b g h = record { is = ap (λ d. after d g) h.is; wide = h.wide }

  pub stop_then : (f₁ owed : ℕ) (dl dr : FormulaAnswer) (n : ℕ) (fault : Arith) (a b c : Work) (op : Formula → Formula → FormulaAnswer) → IsVisited v t f₁ owed dl n a b → IsFailed dr fault b c → IsFailed (after dl (λ x. after dr (op x))) fault a c
  stop_then f₁ owed dl dr n fault a b c op g h = record { is = λ i. after (g.stands.is i) (λ x. after (h.is i) (op x)); wide = wide_twice a b c g.wide h.wide }

  -- a fault is what is due
  pub stop_is : (d due : FormulaAnswer) (fault : Arith) (a b : Work) → d ≡ due → IsFailed d fault a b → IsFailed due fault a b
  stop_is d due fault a b e h = record { is = h.is ∙ e; wide = h.wide }

  -- what is there is what is due
  pub visited_is : (f owed : ℕ) (d due : FormulaAnswer) (n : ℕ) (a b : Work) → d ≡ due → IsVisited v t f owed d n a b → IsVisited v t f owed due n a b
  visited_is f owed d due n a b e g = subst (λ (x : FormulaAnswer). IsVisited v t f owed x n a b) e g

  pub visits_is : (f owed : ℕ) (d due : FormulaAnswer) (answer : Result ℕ Arith) (a b : Work) → d ≡ due → Visits v t f owed d answer a b → Visits v t f owed due answer a b
  visits_is f owed d due answer a b e g = subst (λ (x : FormulaAnswer). Visits v t f owed x answer a b) e g

  -- a fault of the first of two forms, and of the second one
  pub form_failed : (dl : FormAnswer) (fault : Arith) (w : Work) (m : Measures) (g : Form → FormulaAnswer) → IsRefused dl fault w.measures m → IsFailed (after dl g) fault w (record w { measures = m })
  form_failed dl fault w m g h = record { is = ap (λ (d : FormAnswer). after d g) h.is; wide = record { len = refl; gates = refl; terms = omega arith; measures = h.large } }

  pub form_failed_then : (f₁ : ℕ) (dl dr : FormAnswer) (n : ℕ) (fault : Arith) (w : Work) (m₁ m₂ : Measures) (g : Form → Form → FormulaAnswer) → IsGiven v t f₁ 0 dl n w.measures m₁ → IsRefused dr fault m₁ m₂
      → IsFailed (after dl (λ x. after dr (g x))) fault w (record w { measures = m₂ })
  form_failed_then f₁ dl dr n fault w m₁ m₂ g h k =
      record { is = λ i. after (h.stands.is i) (λ x. after (k.is i) (g x)); wide = record { len = refl; gates = refl; terms = omega arith; measures = large_twice w.measures m₁ m₂ h.large k.large } }

  -- a comparison of two forms that were worked out is what is due
  pub compared_visited : (exp n a b f₁ f₂ : ℕ) (w : Work) (m₁ m₂ m₃ : Measures) (c : Circuit) (dl dr : FormAnswer) (op : Form → Form → Formula) → AwaitsGate v t exp w → IsGiven v t f₁ 0 dl a w.measures m₁ → IsGiven v t f₂ 0 dr b m₁ m₂
      → IsPushed 2 m₂.variables w.circuit c n (op (form_at (measured m₂) a) (form_at (measured m₂) b)) → IsRedrafted m₂ m₃
      → IsVisited v t exp 1 (after dl (λ f. after dr (λ h. Ok (op f h)))) n w (record w { circuit = c; measures = m₃ })
  compared_visited exp n a b f₁ f₂ w m₁ m₂ m₃ c dl dr op await g h p redrafted =
      let large = large_twice w.measures m₂ m₃ (large_twice w.measures m₁ m₂ g.large h.large) (redraft_large m₂ m₃ redrafted) in
      let ready = ready_redrafted m₂ m₃ (record { right = h.right; room = h.room }) redrafted in
      let first : Ok (form_at (measured m₂) a) ≡ dl = ap Ok (h.grows.same a g.stands.within) ∙ g.stands.is in
      let told : Ok (op (form_at (measured m₂) a) (form_at (measured m₂) b)) ≡ after dl (λ f. after dr (λ k. Ok (op f k))) = λ i. after (first i) (λ f. after (h.stands.is i) (λ k. Ok (op f k))) in
      let same : m₂.variables ≡ m₃.variables = sym (ap (λ (m : Measures). m.variables) redrafted.same) in
      let pushed = subst (λ k. IsPushed 2 k w.circuit c n (op (form_at (measured m₂) a) (form_at (measured m₂) b))) same p in
      let due = after dl (λ f. after dr (λ k. Ok (op f k))) in
      measured_visited exp 1 due n w m₃ (record w { circuit = c; measures = m₃ }) large
      (pushed_visited exp (record w { measures = m₃ }) c n (op (form_at (measured m₂) a) (form_at (measured m₂) b)) due (await_measured exp w m₃ await ready large) pushed told)

  -- a gate over one part, ..
  pub one_part : (exp n a f₁ : ℕ) (w w₁ : Work) (c : Circuit) (d₁ due : FormulaAnswer) (op : Formula → Formula) → AwaitsGate v t exp w → IsVisited v t f₁ 0 d₁ a w w₁ → f₁ ≤ exp
      → IsPushed 1 0 w₁.circuit c n (op (formula_at (formulas_in w₁) a)) → after d₁ (λ x. Ok (op x)) ≡ due → IsVisited v t exp 1 due n w (record w₁ { circuit = c })
  one_part exp n a f₁ w w₁ c d₁ due op await g l p e =
      let whole = op (formula_at (formulas_in w₁) a) in
      let is : Ok whole ≡ due = ap (λ (d : FormulaAnswer). after d (λ x. Ok (op x))) g.stands.is ∙ e in
      then_visits exp f₁ 1 d₁ due due a (Ok n) w w₁ (record w₁ { circuit = c }) g l (one_visited exp w₁ c n whole due (next_gate f₁ exp d₁ a w w₁ await g l) p is) refl

  -- .. over two, ..
  pub two_parts : (exp n a b f₁ f₂ : ℕ) (w w₁ w₂ : Work) (c : Circuit) (d₁ d₂ due : FormulaAnswer) (op : Formula → Formula → Formula) → AwaitsGate v t exp w → IsVisited v t f₁ 0 d₁ a w w₁ → f₁ ≤ exp → IsVisited v t f₂ 0 d₂ b w₁ w₂ → f₂ ≤ exp
      → IsPushed 2 0 w₂.circuit c n (op (formula_at (formulas_in w₂) a) (formula_at (formulas_in w₂) b)) → after d₁ (λ x. after d₂ (λ y. Ok (op x y))) ≡ due → IsVisited v t exp 1 due n w (record w₂ { circuit = c })
  two_parts exp n a b f₁ f₂ w w₁ w₂ c d₁ d₂ due op await g l h m p e =
      let new = record w₂ { circuit = c } in
      let whole = op (formula_at (formulas_in w₂) a) (formula_at (formulas_in w₂) b) in
      let first : Ok (formula_at (formulas_in w₂) a) ≡ d₁ = ap Ok (h.grows.same a g.stands.within) ∙ g.stands.is in
      let is : Ok whole ≡ due = (λ i. after (first i) (λ x. after (h.stands.is i) (λ y. Ok (op x y)))) ∙ e in
      let await₁ = next_gate f₁ exp d₁ a w w₁ await g l in
      let await₂ = next_gate f₂ exp d₂ b w₁ w₂ await₁ h m in
      let put = pushed_visited exp w₂ c n whole due await₂ (pushed_more w₂.circuit c n whole 2 2 0 w₂.measures.variables (omega arith) (omega arith) p) is in
      then_visits exp f₁ 1 d₁ due due a (Ok n) w w₁ new g l (then_visits exp f₂ 1 d₂ due due b (Ok n) w₁ w₂ new h m put refl) refl

  -- .. and over three
  pub three_parts : (exp n a b d f₁ f₂ f₃ : ℕ) (w w₁ w₂ w₃ : Work) (c : Circuit) (d₁ d₂ d₃ due : FormulaAnswer) (op : Formula → Formula → Formula → Formula) → AwaitsGate v t exp w
      → IsVisited v t f₁ 0 d₁ a w w₁ → f₁ ≤ exp → IsVisited v t f₂ 0 d₂ b w₁ w₂ → f₂ ≤ exp → IsVisited v t f₃ 0 d₃ d w₂ w₃ → f₃ ≤ exp
      → IsPushed 1 0 w₃.circuit c n (op (formula_at (formulas_in w₃) a) (formula_at (formulas_in w₃) b) (formula_at (formulas_in w₃) d))
      → after d₁ (λ x. after d₂ (λ y. after d₃ (λ z. Ok (op x y z)))) ≡ due → IsVisited v t exp 1 due n w (record w₃ { circuit = c })
  three_parts exp n a b d f₁ f₂ f₃ w w₁ w₂ w₃ c d₁ d₂ d₃ due op await g l h m k o p e =
      let new = record w₃ { circuit = c } in
      let whole = op (formula_at (formulas_in w₃) a) (formula_at (formulas_in w₃) b) (formula_at (formulas_in w₃) d) in
      let more = grows_twice Formula no_formula (formulas_in w₁) (formulas_in w₂) (formulas_in w₃) h.grows k.grows in
      let first : Ok (formula_at (formulas_in w₃) a) ≡ d₁ = ap Ok (more.same a g.stands.within) ∙ g.stands.is in
      let second : Ok (formula_at (formulas_in w₃) b) ≡ d₂ = ap Ok (k.grows.same b h.stands.within) ∙ h.stands.is in
      let is : Ok whole ≡ due = (λ i. after (first i) (λ x. after (second i) (λ y. after (k.stands.is i) (λ z. Ok (op x y z))))) ∙ e in
      let await₁ = next_gate f₁ exp d₁ a w w₁ await g l in
      let await₂ = next_gate f₂ exp d₂ b w₁ w₂ await₁ h m in
      let await₃ = next_gate f₃ exp d₃ d w₂ w₃ await₂ k o in
      let put = one_visited exp w₃ c n whole due await₃ p is in
      then_visits exp f₁ 1 d₁ due due a (Ok n) w w₁ new g l (then_visits exp f₂ 1 d₂ due due b (Ok n) w₁ w₂ new h m (then_visits exp f₃ 1 d₃ due due d (Ok n) w₂ w₃ new k o put refl) refl) refl

  pub stop_third : (f₁ f₂ : ℕ) (d₁ d₂ d₃ : FormulaAnswer) (a b : ℕ) (fault : Arith) (w w₁ w₂ w₃ : Work) (op : Formula → Formula → Formula → FormulaAnswer) → IsVisited v t f₁ 0 d₁ a w w₁ → IsVisited v t f₂ 0 d₂ b w₁ w₂ → IsFailed d₃ fault w₂ w₃
      → IsFailed (after d₁ (λ x. after d₂ (λ y. after d₃ (op x y)))) fault w w₃
  stop_third f₁ f₂ d₁ d₂ d₃ a b fault w w₁ w₂ w₃ op g h k =
      record {
        is = λ i. after (g.stands.is i) (λ x. after (h.stands.is i) (λ y. after (k.is i) (op x y)));
        wide = wide_twice w w₁ w₃ g.wide (wide_twice w₁ w₂ w₃ h.wide k.wide);
      }

  -- a fault before anything is put
  pub stop_here : (due : FormulaAnswer) (fault : Arith) (w : Work) → Err fault ≡ due → IsFailed due fault w w
  stop_here due fault w is = record { is = is; wide = wide_same w }

  -- an answer that is a fault
  pub fault_visits : (f owed : ℕ) (due : FormulaAnswer) (answer : Result ℕ Arith) (fault : Arith) (a b : Work) → answer ≡ Err fault → IsFailed due fault a b → Visits v t f owed due answer a b
  fault_visits f owed due answer fault a b is h = subst (λ (r : Result ℕ Arith). Visits v t f owed due r a b) (sym is) h
