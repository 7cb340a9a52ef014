-- Numbers that are collected and arranged.
use Rattle.std.proofs.Common.{◌≡◌, ℕ, ◌<◌, Bool, true, false, ◌&&◌, IsTrue, nat_lt, List, [], ◌∷◌, ◌++◌, length, map, if◌then◌else◌, Result, Ok, Err, ◌||◌, refl, ap, sym, ◌∙◌, subst, append_assoc, append-nil, arith}
use Rattle.std.specs.Result.{IfOk, OnOk}
use Rattle.lt_formula.specs.Expression.{Expression, constant, variable, previous, unary, binary, choice}
use Rattle.lt_formula.specs.Kinds.{Kinds}
use Rattle.lt_formula.specs.declared.operator.BinaryOperator.{BinaryOperator}
use Rattle.lt_formula.specs.declared.operator.UnaryOperator.{UnaryOperator}
use Rattle.lt_parts.specs.Outline.{atoms_in, is_comparison}
use Rattle.lt_space.specs.Meaning.{is_known}
use Rattle.lt_formula.specs.View.{table_len}
use Rattle.lt_formula.specs.declared.table.Table.{Table}
use Rattle.lt_parts.specs.Part.{AreParts, IsPart, Piece, at, with_number, with_numbers}
use Rattle.lt_parts.specs.PartView.{piece_of}
use Rattle.lt_parts.specs.declared.part.Part.{Part}
use Rattle.lt_parts.specs.inner.Collected.{Collects, are_within, is_of_class}
use Rattle.std.proofs.lemmas.Bool.{ltb-true}
use Rattle.std.proofs.lemmas.Bool.Decides.{nat_tests}

both : (a b : Bool) → IsTrue a → IsTrue b → IsTrue (a && b)
both true b h k = k
both false b h k = h

pub left_of : (a b : Bool) → IsTrue (a && b) → IsTrue a
left_of true b h = refl
left_of false b h = h

pub right_of : (a b : Bool) → IsTrue (a && b) → IsTrue b
right_of true b h = h
right_of false b h = absurd (cc)

pub within_one : (t : Table) (ns : List ℕ) (n : ℕ) → n < table_len t → IsTrue (are_within t ns) → IsTrue (are_within t (ns ++ n ∷ []))
within_one t [] n h k = both (nat_lt n (table_len t)) true (lt_true n (table_len t) h) refl
  where
    lt_true : (a b : ℕ) → a < b → IsTrue (nat_lt a b)
    lt_true a b h = grind (arith, nat_tests)
within_one t (m ∷ ns) n h k = both (nat_lt m (table_len t)) _ (left_of (nat_lt m (table_len t)) _ k) (within_one t ns n h (right_of (nat_lt m (table_len t)) _ k))

pub map_one : (t : Table) (ns : List ℕ) (n : ℕ) → map (at t) (ns ++ n ∷ []) ≡ map (at t) ns ++ at t n ∷ []
map_one t [] n = refl
map_one t (m ∷ ns) n = ap (λ es. at t m ∷ es) (map_one t ns n)

-- one number
pub collects_one : (t : Table) (n : ℕ) (old new : List ℕ) (these : List Expression) → n < table_len t → new ≡ old ++ n ∷ [] → these ≡ at t n ∷ [] → Collects t these old new
collects_one t n old new these h is one =
    record {
      within = λ k. subst (λ ns. IsTrue (are_within t ns)) (sym is) (within_one t old n h k);
      spell = ap (map (at t)) is ∙ map_one t old n ∙ ap (λ es. map (at t) old ++ es) (sym one);
    }

-- some, and then others
pub collects_then : (t : Table) (first second these : List Expression) (old mid new : List ℕ) → Collects t first old mid → Collects t second mid new → these ≡ first ++ second → Collects t these old new
collects_then t first second these old mid new h g is =
    record {
      within = λ k. g.within (h.within k);
      spell = g.spell ∙ ap (λ es. es ++ second) h.spell ∙ append_assoc (map (at t) old) first second ∙ ap (λ es. map (at t) old ++ es) (sym is);
    }

pub collects_as : (t : Table) (these those : List Expression) (old new : List ℕ) → those ≡ these → Collects t these old new → Collects t those old new
collects_as t these those old new is h = subst (λ es. Collects t es old new) (sym is) h

-- a number of a list that is within a table
pub list_first : (t : Table) (ks more : List ℕ) (k : ℕ) → ks ≡ k ∷ more → IsTrue (are_within t ks) → k < table_len t
list_first t ks more k is h = ltb-true k (table_len t) (left_of (nat_lt k (table_len t)) _ (subst (λ (js : List ℕ). IsTrue (are_within t js)) is h))

pub list_rest : (t : Table) (ks more : List ℕ) (k : ℕ) → ks ≡ k ∷ more → IsTrue (are_within t ks) → IsTrue (are_within t more)
list_rest t ks more k is h = right_of (nat_lt k (table_len t)) _ (subst (λ (js : List ℕ). IsTrue (are_within t js)) is h)

-- What was put so far of some numbers, where some are left.
pub record IsAddedSoFar (t : Table) (b : Bool) (old all new left : List ℕ) : Type 0 where
  pub within : IsTrue (are_within t left)
  pub due : with_numbers (is_of_class b t) new left ≡ with_numbers (is_of_class b t) old all

-- one more is put
pub next_added : (t : Table) (b : Bool) (old all mid new left more : List ℕ) (n : ℕ) → left ≡ n ∷ more → new ≡ (if is_of_class b t n then with_number mid n else mid) → IsAddedSoFar t b old all mid left → IsAddedSoFar t b old all new more
next_added t b old all mid new left more n is put h =
    record {
      within = list_rest t left more n is h.within;
      due = ap (λ ns. with_numbers (is_of_class b t) ns more) put ∙ ap (with_numbers (is_of_class b t) mid) (sym is) ∙ h.due;
    }

-- all are put
pub all_added : (t : Table) (b : Bool) (old all new left : List ℕ) → length left ≡ 0 → IsAddedSoFar t b old all new left → new ≡ with_numbers (is_of_class b t) old all
all_added t b old all new [] none h = h.due
all_added t b old all new (n ∷ ns) none h = absurd (omega arith)

-- The parts so far of some conjuncts, where some are left.
pub record ArePartsSoFar (t : Table) (all : List ℕ) (parts : List Part) (left : List ℕ) : Type 0 where
  pub within : IsTrue (are_within t left)
  pub are : (ps : List Piece) → AreParts t (map (at t) left) ps → AreParts t (map (at t) all) (map piece_of parts ++ ps)

pub no_parts : (t : Table) (all : List ℕ) → IsTrue (are_within t all) → ArePartsSoFar t all [] all
no_parts t all within = record { within = within; are = λ ps h. h }

piece_more : (parts : List Part) (p : Part) (ps : List Piece) → map piece_of (parts ++ p ∷ []) ++ ps ≡ map piece_of parts ++ piece_of p ∷ ps
piece_more [] p ps = refl
piece_more (q ∷ parts) p ps = ap (λ qs. piece_of q ∷ qs) (piece_more parts p ps)

-- one more part
pub next_part : (t : Table) (all : List ℕ) (old new : List Part) (left more : List ℕ) (n : ℕ) (p : Part) → left ≡ n ∷ more → new ≡ old ++ p ∷ [] → IsPart t (at t n) (piece_of p) → ArePartsSoFar t all old left → ArePartsSoFar t all new more
next_part t all old new left more n p is put part h =
    record {
      within = list_rest t left more n is h.within;
      are = λ ps g.
          subst (AreParts t (map (at t) all)) (sym (ap (λ qs. map piece_of qs ++ ps) put ∙ piece_more old p ps))
          (h.are (piece_of p ∷ ps) (subst (λ (ns : List ℕ). AreParts t (map (at t) ns) (piece_of p ∷ ps)) (sym is) (part, g)));
    }

-- all parts
pub all_parts : (t : Table) (all : List ℕ) (parts : List Part) (left : List ℕ) → length left ≡ 0 → ArePartsSoFar t all parts left → AreParts t (map (at t) all) (map piece_of parts)
all_parts t all parts [] none h = subst (AreParts t (map (at t) all)) (append-nil (map piece_of parts)) (h.are [] tt)
all_parts t all parts (n ∷ ns) none h = absurd (omega arith)

-- What is told where an answer is there.

pub on_ok : {A E : Type 0} (r : Result A E) (P Q : Type 0) → (P → Q) → OnOk r P → OnOk r Q
on_ok (Ok x) P Q f h = f h
on_ok (Err e) P Q f h = tt

pub if_ok : {A E : Type 0} (r : Result A E) (P Q : A → Type 0) → ((x : A) → P x → Q x) → IfOk r P → IfOk r Q
if_ok (Ok x) P Q f h = f x h
if_ok (Err e) P Q f h = tt

-- The atoms of a Boolean, by what it is.

module _ (kinds : Kinds) (x : Expression) where
  atoms_known_of : (y : Expression) → is_known kinds y ≡ true → atoms_in kinds y ≡ y ∷ []
  atoms_known_of (constant k c) h = refl
  atoms_known_of (variable r i) h = refl
  atoms_known_of (previous r i) h = refl
  atoms_known_of (unary op e) h = ap (λ b. if b then unary op e ∷ [] else atoms_in kinds e) h
  atoms_known_of (binary op d e) h = ap (λ b. if b || is_comparison kinds d then binary op d e ∷ [] else atoms_in kinds d ++ atoms_in kinds e) h
  atoms_known_of (choice c d e) h = ap (λ b. if b then choice c d e ∷ [] else atoms_in kinds c ++ (atoms_in kinds d ++ atoms_in kinds e)) h

  pub atoms_known : is_known kinds x ≡ true → atoms_in kinds x ≡ x ∷ []
  atoms_known h = atoms_known_of x h

  pub atoms_unary : (op : UnaryOperator) (e : Expression) → x ≡ unary op e → is_known kinds x ≡ false → atoms_in kinds x ≡ atoms_in kinds e
  atoms_unary op e s h = ap (atoms_in kinds) s ∙ ap (λ b. if b then unary op e ∷ [] else atoms_in kinds e) (sym (ap (is_known kinds) s) ∙ h)

  pub atoms_comparison : (op : BinaryOperator) (d e : Expression) → x ≡ binary op d e → is_known kinds x ≡ false → is_comparison kinds d ≡ true → atoms_in kinds x ≡ x ∷ []
  atoms_comparison op d e s h k =
      ap (atoms_in kinds) s
      ∙ (λ i. if (sym (ap (is_known kinds) s) ∙ h) i || k i then binary op d e ∷ [] else atoms_in kinds d ++ atoms_in kinds e)
      ∙ ap (λ y. y ∷ []) (sym s)

  pub atoms_binary : (op : BinaryOperator) (d e : Expression) → x ≡ binary op d e → is_known kinds x ≡ false → is_comparison kinds d ≡ false → atoms_in kinds x ≡ atoms_in kinds d ++ atoms_in kinds e
  atoms_binary op d e s h k =
      ap (atoms_in kinds) s ∙ (λ i. if (sym (ap (is_known kinds) s) ∙ h) i || k i then binary op d e ∷ [] else atoms_in kinds d ++ atoms_in kinds e)

  pub atoms_choice : (c d e : Expression) → x ≡ choice c d e → is_known kinds x ≡ false → atoms_in kinds x ≡ atoms_in kinds c ++ (atoms_in kinds d ++ atoms_in kinds e)
  atoms_choice c d e s h = ap (atoms_in kinds) s ∙ ap (λ b. if b then choice c d e ∷ [] else atoms_in kinds c ++ (atoms_in kinds d ++ atoms_in kinds e)) (sym (ap (is_known kinds) s) ∙ h)
