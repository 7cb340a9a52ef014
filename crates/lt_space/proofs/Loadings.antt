-- Steps by which constraints are loaded.
use Rattle.std.proofs.Common.{◌≡◌, ℕ, ◌+◌, ◌*◌, ◌<◌, ◌≤◌, true, IsTrue, List, [], ◌∷◌, length, map, nat_lt, Result, Ok, Err, refl, ap, sym, ◌∙◌, subst, arith}
use Rattle.std.specs.List.{list_all}
use Rattle.std.proofs.lemmas.Bool.{ltb-true}
use Rattle.lt_num.specs.declared.fault.Arith.{Arith}
use Rattle.lt_formula.specs.Kinds.{variables_of}
use Rattle.lt_formula.specs.Table.{spelled}
use Rattle.lt_formula.specs.Valuation.{Valuation}
use Rattle.lt_formula.specs.View.{table_expressions, table_kinds, table_len}
use Rattle.lt_formula.specs.declared.table.Table.{Table}
use Rattle.lt_linear.specs.Order.{is_form}
use Rattle.lt_linear.specs.declared.form.Form.{Form}
use Rattle.lt_space.specs.Circuit.{formula_at}
use Rattle.lt_space.specs.CircuitView.{circuit_formulas, circuit_len, circuit_room}
use Rattle.lt_space.specs.Formula.{Formula, conjunction, truth}
use Rattle.lt_space.specs.Meaning.{FormulaAnswer, after, formula_of_all, formulas_of, joined}
use Rattle.lt_space.specs.inner.Kept.{Grows, Stands, unkept}
use Rattle.lt_space.specs.inner.Measures.{AreForms, form_due, measured, numbers_in}
use Rattle.lt_space.specs.inner.Place.{form_at, no_form}
use Rattle.lt_space.specs.inner.Pushed.{IsPushed, no_formula}
use Rattle.lt_space.specs.inner.Work.{HasWorkRoom, IsCleared, IsFailed, IsReady, IsVisited, LoadTells, StayWide, formula_due, formulas_in, gates_in, joined_onto}
use Rattle.lt_space.specs.declared.circuit.Circuit.{Circuit}
use Rattle.lt_space.specs.declared.measures.Measures.{Measures}
use Rattle.lt_space.specs.declared.work.Work.{Work}
use Rattle.lt_space.proofs.Circuits.{left_of, right_of}
use Rattle.lt_space.proofs.Measurings.{large_same}
use Rattle.lt_space.proofs.Memos.{free_unkept, kept_none, kept_on, stands_on}
use Rattle.lt_space.proofs.Visitings.{wide_twice}

-- Room.

-- room for so many constraints is room for fewer
pub room_less : (most few : ℕ) (w : Work) → few ≤ most → HasWorkRoom most w → HasWorkRoom few w
room_less most few w l h = record { gates = omega (arith, l, h.gates); terms = h.terms; measures = h.measures }

-- it stays where none is lost
pub room_stays : (most : ℕ) (old new : Work) → StayWide old new → HasWorkRoom most old → HasWorkRoom most new
room_stays most old new wide h =
    let product : length (gates_in new) * new.measures.variables ≡ length (gates_in old) * old.measures.variables = λ i. wide.len i * wide.measures.variables i in
    record {
      gates = omega (arith, h.gates, wide.len, wide.gates);
      terms = omega (arith, h.terms, product, wide.terms);
      measures = record {
        len = wide.measures.len ∙ h.measures.len ∙ sym wide.len;
        variables = refl;
        forms = omega (arith, h.measures.forms, wide.len, wide.measures.forms);
        terms = omega (arith, h.measures.terms, product, wide.measures.terms);
        draft = omega (arith, h.measures.draft, wide.measures.variables, wide.measures.draft);
      };
    }

no_forms : (m : Measures) → measured m ≡ [] → AreForms m
no_forms m is = subst (λ (fs : List Form). (n : ℕ) → n < length fs → IsTrue (is_form m.variables (form_at fs n))) (sym is) (λ n l. absurd (omega arith))

-- where all was taken away, what is kept is right, ..
pub cleared_ready : (v : Valuation) (t : Table) (most : ℕ) (old new : Work) → length (gates_in old) ≡ table_len t → old.measures.variables ≡ variables_of (table_kinds t) → HasWorkRoom most old → IsCleared old new → IsReady v t new
cleared_ready v t most old new len variables room h =
    let r = room_stays most old new h.wide room in
    let gates : unkept (gates_in new) ≡ length (gates_in new) = free_unkept (gates_in new) h.gates in
    let numbers : unkept (numbers_in new.measures) ≡ length (gates_in new) = free_unkept (numbers_in new.measures) h.measures.free ∙ r.measures.len in
    let gate_terms : unkept (gates_in new) * new.measures.variables ≡ length (gates_in new) * new.measures.variables = ap (λ n. n * new.measures.variables) gates in
    let form_terms : unkept (numbers_in new.measures) * new.measures.variables ≡ length (gates_in new) * new.measures.variables = ap (λ n. n * new.measures.variables) numbers in
    record {
      right = record {
        len = h.wide.len ∙ len;
        kept = kept_none Formula no_formula (formulas_in new) (gates_in new) (formula_due v t) h.gates;
        measured = record {
          right = record {
            len = r.measures.len ∙ h.wide.len ∙ len;
            variables = h.wide.measures.variables ∙ variables;
            kept = kept_none Form no_form (measured new.measures) (numbers_in new.measures) (form_due v t) h.measures.free;
            forms = no_forms new.measures h.measures.forms;
          };
          room = record {
            forms = omega (arith, ap length h.measures.forms, numbers, r.measures.forms);
            terms = omega (arith, h.measures.terms, form_terms, r.measures.terms);
            draft = r.measures.draft;
          };
        };
      };
      room = record {
        gates = omega (arith, h.len, gates, r.gates);
        terms = omega (arith, h.terms, gate_terms, r.terms);
      };
    }

-- .. and there is room for all
pub cleared_room : (most : ℕ) (old new : Work) → HasWorkRoom most old → IsCleared old new → circuit_len new.circuit + unkept (gates_in new) * 2 + most + 1 ≤ circuit_room new.circuit
cleared_room most old new room h =
    let r = room_stays most old new h.wide room in
    omega (arith, h.len, free_unkept (gates_in new) h.gates, r.gates)

-- what is kept is right where a gate was put
pub pushed_ready : (v : Valuation) (t : Table) (w : Work) (c : Circuit) (n : ℕ) (formula : Formula) → IsReady v t w → IsPushed 1 0 w.circuit c n formula → circuit_len w.circuit + unkept (gates_in w) * 2 + 1 ≤ circuit_room w.circuit → IsReady v t (record w { circuit = c })
pushed_ready v t w c n formula ready p room =
    record {
      right = record {
        len = ready.right.len;
        kept = kept_on Formula no_formula (formulas_in w) (circuit_formulas c) (gates_in w) (formula_due v t) p.grows ready.right.kept;
        measured = ready.right.measured;
      };
      room = record { gates = omega (arith, room, p.len, p.room); terms = omega (arith, ready.room.terms, p.terms, p.terms_room) };
    }

-- What is told of a list.

-- a gate that was put is what is due
pub pushed_loads : (old : Work) (c : Circuit) (n g k : ℕ) (formula : Formula) (due : FormulaAnswer) → IsPushed g k old.circuit c n formula → Ok formula ≡ due → LoadTells due (Ok n) old (record old { circuit = c })
pushed_loads old c n g k formula due p told =
    (record { within = p.within; is = ap Ok p.is ∙ told }, record { len = refl; gates = p.room; terms = p.terms_room; measures = large_same old.measures })

-- what is told after a step that loses no room
pub loads_after : (d due : FormulaAnswer) (answer : Result ℕ Arith) (a b c : Work) → StayWide a b → LoadTells d answer b c → d ≡ due → LoadTells due answer a c
loads_after d due (Ok n) a b c wide h e = (subst (Stands Formula no_formula (formulas_in c) n) e h.0, wide_twice a b c wide h.1)
loads_after d due (Err fault) a b c wide h e = record { is = h.is ∙ e; wide = wide_twice a b c wide h.wide }

-- what is told after gates that were put behind the others
pub loads_noted : (due : FormulaAnswer) (root : ℕ) (a b c : Work) → LoadTells due (Ok root) a b → Grows Formula no_formula (formulas_in b) (formulas_in c) → StayWide b c → LoadTells due (Ok root) a c
loads_noted due root a b c h grows wide = (stands_on Formula no_formula (formulas_in b) (formulas_in c) root due grows h.0, wide_twice a b c h.1 wide)

-- an answer that is a fault
pub fault_loads : (due : FormulaAnswer) (answer : Result ℕ Arith) (fault : Arith) (a b : Work) → answer ≡ Err fault → IsFailed due fault a b → LoadTells due answer a b
fault_loads due answer fault a b is h = subst (λ (r : Result ℕ Arith). LoadTells due r a b) (sym is) h

-- none are true
pub none_due : (v : Valuation) (t : Table) (wanted : List ℕ) → length wanted ≡ 0 → Ok (truth true) ≡ formula_of_all v (table_kinds t) (map (spelled (table_expressions t)) wanted)
none_due v t [] none = refl
none_due v t (e ∷ es) none = absurd (omega arith)

-- the first of some
first_due : (f : Formula) (more : Result (List Formula) Arith) → joined_onto f more ≡ after (after more (λ fs. Ok (f ∷ fs))) (λ fs. Ok (joined fs))
first_due f (Ok fs) = refl
first_due f (Err fault) = refl

pub first_joined : (v : Valuation) (t : Table) (wanted more : List ℕ) (first : ℕ) (f : Formula) → wanted ≡ first ∷ more → Ok f ≡ formula_due v t first
    → joined_onto f (formulas_of v (table_kinds t) (map (spelled (table_expressions t)) more)) ≡ formula_of_all v (table_kinds t) (map (spelled (table_expressions t)) wanted)
first_joined v t wanted more first f is told =
    let rest = formulas_of v (table_kinds t) (map (spelled (table_expressions t)) more) in
    first_due f rest
    ∙ ap (λ (d : FormulaAnswer). after (after d (λ g. after rest (λ fs. Ok (g ∷ fs)))) (λ fs. Ok (joined fs))) told
    ∙ ap (λ (ks : List ℕ). formula_of_all v (table_kinds t) (map (spelled (table_expressions t)) ks)) (sym is)

-- a fault of the first
pub first_failed : (v : Valuation) (t : Table) (wanted more : List ℕ) (first : ℕ) (fault : Arith) (a b : Work) → wanted ≡ first ∷ more → IsFailed (formula_due v t first) fault a b
    → IsFailed (formula_of_all v (table_kinds t) (map (spelled (table_expressions t)) wanted)) fault a b
first_failed v t wanted more first fault a b is h =
    let rest = formulas_of v (table_kinds t) (map (spelled (table_expressions t)) more) in
    record {
      is = ap (λ (d : FormulaAnswer). after (after d (λ g. after rest (λ fs. Ok (g ∷ fs)))) (λ fs. Ok (joined fs))) h.is ∙ ap (λ (ks : List ℕ). formula_of_all v (table_kinds t) (map (spelled (table_expressions t)) ks)) (sym is);
      wide = h.wide;
    }

-- what is left of a list
pub list_first : (n : ℕ) (ks more : List ℕ) (k : ℕ) → ks ≡ k ∷ more → IsTrue (list_all (λ e. nat_lt e n) ks) → k < n
list_first n ks more k is h = ltb-true k n (left_of (nat_lt k n) _ (subst (λ (js : List ℕ). IsTrue (list_all (λ e. nat_lt e n) js)) is h))

pub list_rest : (n : ℕ) (ks more : List ℕ) (k : ℕ) → ks ≡ k ∷ more → IsTrue (list_all (λ e. nat_lt e n) ks) → IsTrue (list_all (λ e. nat_lt e n) more)
list_rest n ks more k is h = right_of (nat_lt k n) _ (subst (λ (js : List ℕ). IsTrue (list_all (λ e. nat_lt e n) js)) is h)

-- What is joined so far, with what is left, is what is due.
pub record IsJoined (v : Valuation) (t : Table) (answer : FormulaAnswer) (before : Work) (gate : ℕ) (left : List ℕ) (now : Work) : Type 0 where
  pub root : gate < length (formulas_in now)
  pub within : IsTrue (list_all (λ e. nat_lt e (table_len t)) left)
  pub ready : IsReady v t now
  pub room : circuit_len now.circuit + unkept (gates_in now) * 2 + length left ≤ circuit_room now.circuit
  pub due : answer ≡ joined_onto (formula_at (formulas_in now) gate) (formulas_of v (table_kinds t) (map (spelled (table_expressions t)) left))
  pub wide : StayWide before now

next_due : (f g : Formula) (more : Result (List Formula) Arith) → joined_onto f (after more (λ gs. Ok (g ∷ gs))) ≡ joined_onto (conjunction f g) more
next_due f g (Ok gs) = refl
next_due f g (Err fault) = refl

module _ (v : Valuation) (t : Table) (due : FormulaAnswer) (old : Work) where
  -- one more is joined
  pub next_joined : (root exp gate n : ℕ) (rest more : List ℕ) (w mid : Work) (c : Circuit) → rest ≡ exp ∷ more → IsJoined v t due old root rest w → IsVisited v t (exp + 1) 0 (formula_due v t exp) gate w mid
      → IsPushed 1 0 mid.circuit c n (conjunction (formula_at (formulas_in mid) root) (formula_at (formulas_in mid) gate)) → IsJoined v t due old n more (record mid { circuit = c })
  next_joined root exp gate n rest more w mid c is h g p =
      let f = formula_at (formulas_in w) root in
      let e = formula_at (formulas_in mid) gate in
      let left = formulas_of v (table_kinds t) (map (spelled (table_expressions t)) more) in
      let whole : formula_at (circuit_formulas c) n ≡ conjunction f e = p.is ∙ ap (λ (x : Formula). conjunction x e) (g.grows.same root h.root) in
      let longer : length rest ≡ length more + 1 = ap length is ∙ omega arith in
      record {
        root = p.within;
        within = list_rest (table_len t) rest more exp is h.within;
        ready = record {
          right = record {
            len = g.right.len;
            kept = kept_on Formula no_formula (formulas_in mid) (circuit_formulas c) (gates_in mid) (formula_due v t) p.grows g.right.kept;
            measured = g.right.measured;
          };
          room = record { gates = omega (arith, h.room, longer, g.spent, g.wide.gates, p.len, p.room); terms = omega (arith, g.room.terms, p.terms, p.terms_room) };
        };
        room = omega (arith, h.room, longer, g.spent, g.wide.gates, p.len, p.room);
        due =
            h.due
            ∙ ap (λ (ks : List ℕ). joined_onto f (formulas_of v (table_kinds t) (map (spelled (table_expressions t)) ks))) is
            ∙ ap (λ (d : FormulaAnswer). joined_onto f (after d (λ x. after left (λ gs. Ok (x ∷ gs))))) (sym g.stands.is)
            ∙ next_due f e left
            ∙ ap (λ (x : Formula). joined_onto x left) (sym whole);
        wide = wide_twice old w (record mid { circuit = c }) h.wide (wide_twice w mid (record mid { circuit = c }) g.wide (record { len = refl; gates = p.room; terms = p.terms_room; measures = large_same mid.measures }));
      }

  -- a fault of the next
  pub next_failed : (root exp : ℕ) (fault : Arith) (rest more : List ℕ) (w mid : Work) → rest ≡ exp ∷ more → IsJoined v t due old root rest w → IsFailed (formula_due v t exp) fault w mid → IsFailed due fault old mid
  next_failed root exp fault rest more w mid is h g =
      let f = formula_at (formulas_in w) root in
      let left = formulas_of v (table_kinds t) (map (spelled (table_expressions t)) more) in
      record {
        is =
            ap (λ (d : FormulaAnswer). joined_onto f (after d (λ x. after left (λ gs. Ok (x ∷ gs))))) g.is
            ∙ ap (λ (ks : List ℕ). joined_onto f (formulas_of v (table_kinds t) (map (spelled (table_expressions t)) ks))) (sym is)
            ∙ sym h.due;
        wide = wide_twice old w mid h.wide g.wide;
      }

  -- all are joined
  pub all_joined : (root : ℕ) (rest : List ℕ) (w : Work) → length rest ≡ 0 → IsJoined v t due old root rest w → LoadTells due (Ok root) old w
  all_joined root [] w none h = (record { within = h.root; is = sym h.due }, h.wide)
  all_joined root (e ∷ es) w none h = absurd (omega arith)
