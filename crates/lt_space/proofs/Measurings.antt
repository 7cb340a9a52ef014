-- Steps by which forms are worked out.
use Rattle.std.proofs.Common.{◌≡◌, ℕ, zero, suc, ◌+◌, ◌*◌, ◌<◌, ◌≤◌, Bool, true, false, IsTrue, List, [], ◌∷◌, ◌++◌, length, nat_le, nat_lt, Option, Some, Result, Ok, Err, ℤ, pos, refl, ap, sym, ◌∙◌, subst, arith, length-append, not, if◌then◌else◌}
use Rattle.std.specs.Prelude.{slice_set}
use Rattle.std.specs.Ordering.{int_eq}
use Rattle.std.proofs.lemmas.Bool.{ltb-true}
use Rattle.lt_num.specs.declared.fault.Arith.{Arith}
use Rattle.lt_formula.specs.Facts.{is_known_role}
use Rattle.lt_formula.specs.Kinds.{Kinds, kinds_of_role, number_of, variables_of}
use Rattle.lt_formula.specs.Valuation.{Valuation}
use Rattle.lt_formula.specs.declared.role.Role.{Role}
use Rattle.lt_formula.specs.declared.role.Role.TheVariants as role
use Rattle.lt_formula.specs.declared.table.Table.{Table}
use Rattle.lt_linear.specs.Draft.{draft_form, draft_room}
use Rattle.lt_linear.specs.Form.{Term, all_pass, constant_form, is_bounded, is_raw, one, variable_form}
use Rattle.lt_linear.proofs.Public.{few_terms}
use Rattle.lt_linear.specs.Order.{are_in_order, is_form}
use Rattle.lt_linear.specs.declared.draft.Draft.{Draft}
use Rattle.lt_linear.specs.declared.form.Form.{Form}
use Rattle.lt_space.specs.Meaning.{FormAnswer, after}
use Rattle.lt_space.specs.inner.Place.{form_at, no_form}
use Rattle.lt_space.specs.inner.Kept.{AreKept, Stands, number_at, unkept}
use Rattle.lt_space.specs.inner.Measures.{AreForms, AreReady, AwaitForm, Gives, HasPlace, IsGiven, IsPut, IsRefused, PutTells, StayLarge, form_due, measured, numbers_in}
use Rattle.lt_space.specs.inner.Memo.{memo_numbers}
use Rattle.lt_space.specs.declared.measures.Measures.{Measures}
use Rattle.lt_space.specs.declared.memo.Memo.{Memo}
use Rattle.lt_space.proofs.Circuits.{both, left_of, le_true, right_of}
use Rattle.lt_space.proofs.Memos.{grows_one, grows_same, grows_twice, kept_on, kept_set, one_unkept, other_at, set_length, stands_last, unkept_set}

at_least : (u v : ℕ) → 1 ≤ u → v ≤ u * v
at_least zero v h = absurd (omega arith)
at_least (suc u) v h = omega arith

-- Room.

pub large_same : (m : Measures) → StayLarge m m
large_same m = record { len = refl; variables = refl; forms = omega arith; terms = omega arith; draft = omega arith }

pub large_twice : (a b c : Measures) → StayLarge a b → StayLarge b c → StayLarge a c
large_twice a b c h k =
    record {
      len = k.len ∙ h.len;
      variables = k.variables ∙ h.variables;
      forms = omega (arith, h.forms, k.forms);
      terms = omega (arith, h.terms, k.terms);
      draft = omega (arith, h.draft, k.draft);
    }

-- an expression without a form leaves room for one
pub place_of : (v : Valuation) (t : Table) (exp : ℕ) (m : Measures) → AwaitForm v t exp m → HasPlace m
place_of v t exp m h =
    let u = unkept (numbers_in m) in
    let one : 1 ≤ u = one_unkept (numbers_in m) exp h.free (omega (arith, h.within, h.ready.right.len)) in
    let more = at_least u m.variables one in
    record {
      forms = omega (arith, h.ready.room.forms, one);
      terms = omega (arith, h.ready.room.terms, more);
      draft = h.ready.room.draft;
    }

-- Forms that are lent.

-- a form that is lent is over the variables, ..
pub lent_is : (m : Measures) (n : ℕ) (lent : Form) → AreForms m → n < length (measured m) → lent ≡ form_at (measured m) n → IsTrue (is_form m.variables lent)
lent_is m n lent forms l is = subst (λ (f : Form). IsTrue (is_form m.variables f)) (sym is) (forms n l)

-- .. has no more terms than there are, ..
pub form_few : (below : ℕ) (form : Form) → IsTrue (is_form below form) → length form.terms ≤ below
form_few below form h = let few = few_terms is_raw 0 below form.terms (left_of (are_in_order is_raw 0 below form.terms) _ h) in omega arith

pub lent_few : (m : Measures) (n : ℕ) (lent : Form) → AreForms m → n < length (measured m) → lent ≡ form_at (measured m) n → length lent.terms ≤ m.variables
lent_few m n lent forms l is = form_few m.variables lent (lent_is m n lent forms l is)

-- .. and is within the bound
raws_of : (n below : ℕ) (ts : List Term) → IsTrue (are_in_order is_raw n below ts) → IsTrue (all_pass is_raw ts)
raws_of n below [] h = refl
raws_of n below (t ∷ ts) h =
    let here = right_of (not (int_eq t.1 (pos 0))) _ (right_of (nat_le n t.0) _ h) in
    both (is_raw t.1) _ (left_of (is_raw t.1) _ here) (raws_of (t.0 + 1) below ts (right_of (is_raw t.1) _ here))

pub form_bounded : (below : ℕ) (form : Form) → IsTrue (is_form below form) → IsTrue (is_bounded form)
form_bounded below form h =
    both (is_raw form.constant) _ (right_of (are_in_order is_raw 0 below form.terms) _ h) (raws_of 0 below form.terms (left_of (are_in_order is_raw 0 below form.terms) _ h))

-- Forms that are put.

-- a draft that was written is put
pub put_again : (old new : Measures) (d : Draft) (n : ℕ) (form : Form) → draft_room old.draft ≤ draft_room d → IsPut (record old { draft = d }) new n form → IsPut old new n form
put_again old new d n form l h =
    record {
      number = h.number;
      forms = h.forms;
      is_form = h.is_form;
      terms = h.terms;
      numbers = h.numbers;
      large = record { len = h.large.len; variables = h.large.variables; forms = h.large.forms; terms = h.large.terms; draft = omega (arith, l, h.large.draft) };
    }

-- what was put is what is due
pub put_told : (old new : Measures) (d : Draft) (n : ℕ) (due : FormAnswer) → draft_room old.draft ≤ draft_room d → Ok (draft_form d) ≡ due → IsPut (record old { draft = d }) new n (draft_form d) → PutTells due (Ok n) old new
put_told old new d n due l told h = (draft_form d, told, put_again old new d n (draft_form d) l h)

-- a draft that was not written whole
pub put_refused : (old : Measures) (d : Draft) (fault : Arith) (due : FormAnswer) → draft_room old.draft ≤ draft_room d → Err fault ≡ due → PutTells due (Err fault) old (record old { draft = d })
put_refused old d fault due l told = record { is = told; large = record { len = refl; variables = refl; forms = omega arith; terms = omega arith; draft = l } }

each_one : (p : Form → Bool) (fs : List Form) (x : Form) → ((n : ℕ) → n < length fs → IsTrue (p (form_at fs n))) → IsTrue (p x) → (n : ℕ) → n < length (fs ++ x ∷ []) → IsTrue (p (form_at (fs ++ x ∷ []) n))
each_one p [] x h k zero l = k
each_one p [] x h k (suc n) l = absurd (omega arith)
each_one p (f ∷ fs) x h k zero l = h zero (omega arith)
each_one p (f ∷ fs) x h k (suc n) l = each_one p fs x (λ m j. h (suc m) (omega arith)) k n (omega arith)

forms_one : (old new : Measures) (n : ℕ) (form : Form) → AreForms old → IsPut old new n form → AreForms new
forms_one old new n form h put =
    subst (λ (fs : List Form). (k : ℕ) → k < length fs → IsTrue (is_form new.variables (form_at fs k))) (sym put.forms)
    (subst (λ (w : ℕ). (k : ℕ) → k < length (measured old ++ form ∷ []) → IsTrue (is_form w (form_at (measured old ++ form ∷ []) k))) (sym put.large.variables)
    (each_one (is_form old.variables) (measured old) form h put.is_form))

one_form : (fs gs : List Form) (x : Form) → gs ≡ fs ++ x ∷ [] → length gs ≡ length fs + 1
one_form fs gs x is = ap length is ∙ simp length-append (omega arith)

module _ (v : Valuation) (t : Table) where
  -- a form that was put is given
  pub put_given : (exp : ℕ) (old new : Measures) (n : ℕ) (form : Form) (due : FormAnswer) → AwaitForm v t exp old → Ok form ≡ due → IsPut old new n form → IsGiven v t exp 1 due n old new
  put_given exp old new n form due await told put =
      let grows = grows_one Form no_form (measured old) (measured new) form put.forms in
      let u : unkept (numbers_in new) ≡ unkept (numbers_in old) = ap unkept put.numbers in
      let w : unkept (numbers_in new) * new.variables ≡ unkept (numbers_in old) * old.variables = λ i. u i * put.large.variables i in
      let more = one_form (measured old) (measured new) form put.forms in
      let room = await.ready.room in
      record {
        stands = subst (λ k. Stands Form no_form (measured new) k due) (sym put.number) (stands_last Form no_form (measured old) (measured new) form due put.forms told);
        right = record {
          len = put.large.len ∙ await.ready.right.len;
          variables = put.large.variables ∙ await.ready.right.variables;
          kept = subst (λ (ns : List (Option ℕ)). AreKept Form no_form (measured new) ns (form_due v t)) (sym put.numbers) (kept_on Form no_form (measured old) (measured new) (numbers_in old) (form_due v t) grows await.ready.right.kept);
          forms = forms_one old new n form await.ready.right.forms put;
        };
        room = record {
          forms = omega (arith, room.forms, u, more, put.large.forms);
          terms = omega (arith, room.terms, w, put.terms, put.large.terms, put.large.variables);
          draft = omega (arith, room.draft, put.large.draft, put.large.variables);
        };
        grows = grows;
        same = λ k l. ap (λ ns. number_at ns k) put.numbers;
        large = put.large;
      }

  pub put_gives : (exp : ℕ) (old new : Measures) (due : FormAnswer) (answer : Result ℕ Arith) → AwaitForm v t exp old → PutTells due answer old new → Gives v t exp 1 due answer old new
  put_gives exp old new due (Ok n) await told = put_given exp old new n told.0 due await told.1 told.2
  put_gives exp old new due (Err fault) await told = told

  -- after a part was worked out, an expression has no form yet
  pub next_await : (from exp : ℕ) (due : FormAnswer) (n : ℕ) (a b : Measures) → AwaitForm v t exp a → IsGiven v t from 0 due n a b → from ≤ exp → AwaitForm v t exp b
  next_await from exp due n a b await given l =
      record { ready = record { right = given.right; room = given.room }; within = await.within; free = given.same exp l ∙ await.free }

  -- what is given after a part
  pub then_gives : (f f₁ owed : ℕ) (d₁ d due : FormAnswer) (n₁ : ℕ) (answer : Result ℕ Arith) (a b c : Measures) → IsGiven v t f₁ 0 d₁ n₁ a b → f₁ ≤ f → Gives v t f owed d answer b c → d ≡ due → Gives v t f owed due answer a c
  then_gives f f₁ owed d₁ d due n₁ (Ok n) a b c g l h e =
      record {
        stands = subst (Stands Form no_form (measured c) n) e h.stands;
        right = h.right;
        room = h.room;
        grows = grows_twice Form no_form (measured a) (measured b) (measured c) g.grows h.grows;
        same = λ k m. h.same k m ∙ g.same k (omega (arith, l, m));
        large = large_twice a b c g.large h.large;
      }
  then_gives f f₁ owed d₁ d due n₁ (Err fault) a b c g l h e = record { is = h.is ∙ e; large = large_twice a b c g.large h.large }

  -- what is given for a part may be what is due for the whole
  pub part_gives : (f f₁ : ℕ) (d due : FormAnswer) (answer : Result ℕ Arith) (a b : Measures) → Gives v t f₁ 0 d answer a b → f₁ ≤ f → d ≡ due → Gives v t f 1 due answer a b
  part_gives f f₁ d due (Ok n) a b g l e =
      record {
        stands = subst (Stands Form no_form (measured b) n) e g.stands;
        right = g.right;
        room = record { forms = omega (arith, g.room.forms); terms = omega (arith, g.room.terms); draft = g.room.draft };
        grows = g.grows;
        same = λ k m. g.same k (omega (arith, l, m));
        large = g.large;
      }
  part_gives f f₁ d due (Err fault) a b g l e = record { is = g.is ∙ e; large = g.large }

  -- a form that is given is kept
  pub keep_given : (exp n : ℕ) (old mid : Measures) (memo : Memo) → AwaitForm v t exp old → IsGiven v t exp 1 (form_due v t exp) n old mid → memo_numbers memo ≡ slice_set (numbers_in mid) exp (Some n)
      → IsGiven v t (exp + 1) 0 (form_due v t exp) n old (record mid { memo = memo })
  keep_given exp n old mid memo await g is =
      let free = g.same exp (omega arith) ∙ await.free in
      let within : exp < length (numbers_in mid) = omega (arith, await.within, g.right.len) in
      let less : unkept (memo_numbers memo) + 1 ≡ unkept (numbers_in mid) = ap (λ ns. unkept ns + 1) is ∙ unkept_set (numbers_in mid) exp n free within in
      let w : (unkept (memo_numbers memo) + 1) * mid.variables ≡ unkept (numbers_in mid) * mid.variables = ap (λ u. u * mid.variables) less in
      let len : length (memo_numbers memo) ≡ length (numbers_in mid) = ap length is ∙ set_length (numbers_in mid) exp (Some n) in
      record {
        stands = g.stands;
        right = record {
          len = len ∙ g.right.len;
          variables = g.right.variables;
          kept = subst (λ (ns : List (Option ℕ)). AreKept Form no_form (measured mid) ns (form_due v t)) (sym is) (kept_set Form no_form (measured mid) (numbers_in mid) (form_due v t) exp n g.right.kept g.stands);
          forms = g.right.forms;
        };
        room = record { forms = omega (arith, g.room.forms, less); terms = omega (arith, g.room.terms, w); draft = g.room.draft };
        grows = g.grows;
        same = λ k l. ap (λ ns. number_at ns k) is ∙ other_at (numbers_in mid) exp k (Some n) (omega arith) ∙ g.same k (omega arith);
        large = record { len = len ∙ g.large.len; variables = g.large.variables; forms = g.large.forms; terms = g.large.terms; draft = g.large.draft };
      }

  -- a form that is kept is given
  pub found_given : (exp n : ℕ) (m : Measures) → AreReady v t m → Some n ≡ number_at (numbers_in m) exp → IsGiven v t (exp + 1) 0 (form_due v t exp) n m m
  found_given exp n m ready is =
      record {
        stands = ready.right.kept exp n (sym is);
        right = ready.right;
        room = ready.room;
        grows = grows_same Form no_form (measured m);
        same = λ k l. refl;
        large = large_same m;
      }

  -- a fault of the first part, and of the second one
  pub fail_first : (dl : FormAnswer) (fault : Arith) (a b : Measures) (g : Form → FormAnswer) → IsRefused dl fault a b → IsRefused (after dl g) fault a b
  fail_first dl fault a b g h = record { is = ap (λ d. after d g) h.is; large = h.large }

  pub fail_then : (f₁ owed : ℕ) (dl dr : FormAnswer) (n : ℕ) (fault : Arith) (a b c : Measures) (op : Form → Form → FormAnswer) → IsGiven v t f₁ owed dl n a b → IsRefused dr fault b c → IsRefused (after dl (λ x. after dr (op x))) fault a c
  fail_then f₁ owed dl dr n fault a b c op g h = record { is = λ i. after (g.stands.is i) (λ x. after (h.is i) (op x)); large = large_twice a b c g.large h.large }

-- what comes of two forms
pub two_due : (a b : Form) (dl dr : FormAnswer) (op : Form → Form → FormAnswer) → Ok a ≡ dl → Ok b ≡ dr → op a b ≡ after dl (λ x. after dr (op x))
two_due a b dl dr op h k = λ i. after (h i) (λ x. after (k i) (op x))

-- Forms that need no other.

-- a constant is over no variable
pub constant_ordered : (below : ℕ) (c : ℤ) → IsTrue (is_raw c) → IsTrue (is_form below (constant_form c))
constant_ordered below c h = both (nat_le 0 below) (is_raw c) (le_true 0 below (omega arith)) h

-- a variable is one of those below
pub variable_ordered : (below i : ℕ) (c : ℤ) → i < below → IsTrue (is_raw c) → IsTrue (is_form below (variable_form i c))
variable_ordered below i c l h = both (are_in_order is_raw 0 below (one i c)) true (by (int_eq c (pos 0)) refl) refl
  where
    by : (zero : Bool) → int_eq c (pos 0) ≡ zero → IsTrue (are_in_order is_raw 0 below (if zero then [] else (i, c) ∷ []))
    by true is = le_true 0 below (omega arith)
    by false is = both (nat_le 0 i) _ (le_true 0 i (omega arith)) (both (not (int_eq c (pos 0))) _ (ap not is) (both (is_raw c) _ h (le_true (i + 1) below (omega arith))))

-- the number of an output or local is below their number
pub number_small : (kinds : Kinds) (r : Role) (i : ℕ) → IsTrue (nat_lt i (length (kinds_of_role kinds r))) → is_known_role r ≡ false → number_of kinds r i < variables_of kinds
number_small kinds role.Input i h k = absurd (cc)
number_small kinds role.Output i h k = let l = ltb-true i (length kinds.outputs) h in omega arith
number_small kinds role.Local i h k = let l = ltb-true i (length kinds.locals) h in omega arith
