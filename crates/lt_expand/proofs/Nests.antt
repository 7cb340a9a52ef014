-- What a map of the code tells of the nodes of a text, of which each stands there once.
use Rattle.std.proofs.Common.{◌≡◌, ℕ, suc, ◌+◌, IsTrue, Bool, true, false, not, ◌||◌, min, List, [], ◌∷◌, ◌++◌, Option, None, Some, option_map, map, length, bytes_eq, if◌then◌else◌, refl, sym, ap, ◌∙◌, subst, arith}
use Rattle.std.specs.Cmp.Lexicographic.{nat_list_eq_equiv}
use Rattle.std.specs.Map.{update}
use Rattle.std.proofs.lemmas.Slice.Eq.{bytes_eq-Decides}
use Rattle.lt_ast.specs.Syntax as s
use Rattle.lt_ast.specs.Syntax.{Declaration}
use Rattle.lt_ast.specs.View.{declaration, run, word}
use Rattle.lt_ast.specs.declared.program.Decl.{Decl}
use Rattle.lt_ast.specs.declared.program.Decl.TheVariants as decl
use Rattle.lt_ast.specs.declared.program.NodeDecl.{NodeDecl}
use Rattle.lt_types.specs.Environment.{Environment, Node, is_among, node_names, with_declaration, with_exceptions, with_macro}
use Rattle.lt_types.specs.Typing.{AreDeclarations}
use Rattle.std.specs.declared.alloc.Global.{Global}
use Rattle.std.specs.declared.string.String.{String}
use Rattle.indexmap.specs.IndexMap.{IndexMap, get_by_text}
use Rattle.lt_expand.specs.declared.nested.Nested as code
use Rattle.lt_expand.specs.inner.Nesting.{Tells, runs_found}
use Rattle.lt_expand.specs.Nested.{Counted, count_of, counted_runs, runs_among, runs_in_nest}
use Rattle.lt_expand.specs.Nesting.{node_place}
use Rattle.lt_expand.proofs.Unrun.{macro_keeps}

-- the nodes that are counted after these declarations
abbrev pub counted_after : List Counted → List Declaration → List Counted
counted_after known [] = known
counted_after known (s.node w ins outs rs x ∷ ds) = counted_after (record { name = w.text; runs = counted_runs known rs } ∷ known) ds
counted_after known (s.macro_declaration m ∷ ds) = counted_after known ds
counted_after known (s.exception_declaration ws ∷ ds) = counted_after known ds

-- the place of the last node of a name
abbrev pub last_place : Option ℕ → List ℕ → ℕ → List Declaration → Option ℕ
last_place o q i [] = o
last_place o q i (s.node w ins outs rs x ∷ ds) = last_place (if bytes_eq q w.text then Some i else o) q (suc i) ds
last_place o q i (s.macro_declaration m ∷ ds) = last_place o q (suc i) ds
last_place o q i (s.exception_declaration ws ∷ ds) = last_place o q (suc i) ds

among_same : (q w : List ℕ) (names : List (List ℕ)) → bytes_eq q w ≡ true → is_among q names ≡ true → IsTrue (not (is_among w names)) → ⊥
among_same q w names e h n =
    let same : q ≡ w = (bytes_eq-Decides q w).0 e in
    let untrue : not (is_among w names) ≡ true = n in
    let there : is_among w names ≡ true = subst (λ v. is_among v names ≡ true) same h in
    let no : not true ≡ true = sym (ap not there) ∙ untrue in
    absurd (cc)

other : (q w : List ℕ) (b : Bool) (names : List (List ℕ)) → bytes_eq q w ≡ b → is_among q names ≡ true → IsTrue (not (is_among w names)) → bytes_eq q w ≡ false
other q w true names e h n = absurd (among_same q w names e h n)
other q w false names e h n = e

still_among : (b : Bool) (names : List (List ℕ)) (q : List ℕ) → is_among q names ≡ true → (b || is_among q names) ≡ true
still_among true names q h = refl
still_among false names q h = h

-- a node that is there already isn't declared again
place_kept : (env : Environment) (ds : List Declaration) (o : Option ℕ) (q : List ℕ) (i : ℕ) → is_among q (node_names env.nodes) ≡ true → AreDeclarations env ds → last_place o q i ds ≡ o
place_kept env [] o q i h d = refl
place_kept env (s.node w ins outs rs x ∷ ds) o q i h d =
    ap (λ b. last_place (if b then Some i else o) q (suc i) ds) (other q w.text (bytes_eq q w.text) (node_names env.nodes) refl h d.0.0.0)
    ∙ place_kept (with_declaration env (s.node w ins outs rs x)) ds o q (suc i) (still_among (bytes_eq q w.text) (node_names env.nodes) q h) d.1
place_kept env (s.macro_declaration m ∷ ds) o q i h d = place_kept (with_macro env m) ds o q (suc i) (subst (λ ns. is_among q (node_names ns) ≡ true) (sym (macro_keeps env m)) h) d.1
place_kept env (s.exception_declaration ws ∷ ds) o q i h d = place_kept (with_exceptions env ws) ds o q (suc i) h d.1

count_kept : (env : Environment) (ds : List Declaration) (known : List Counted) (q : List ℕ) → is_among q (node_names env.nodes) ≡ true → AreDeclarations env ds → count_of (counted_after known ds) q ≡ count_of known q
count_kept env [] known q h d = refl
count_kept env (s.node w ins outs rs x ∷ ds) known q h d =
    count_kept (with_declaration env (s.node w ins outs rs x)) ds (record { name = w.text; runs = counted_runs known rs } ∷ known) q (still_among (bytes_eq q w.text) (node_names env.nodes) q h) d.1
    ∙ ap (λ b. if b then counted_runs known rs else count_of known q) (other q w.text (bytes_eq q w.text) (node_names env.nodes) refl h d.0.0.0)
count_kept env (s.macro_declaration m ∷ ds) known q h d = count_kept (with_macro env m) ds known q (subst (λ ns. is_among q (node_names ns) ≡ true) (sym (macro_keeps env m)) h) d.1
count_kept env (s.exception_declaration ws ∷ ds) known q h d = count_kept (with_exceptions env ws) ds known q h d.1

here_among : (b : Bool) (names : List (List ℕ)) (q : List ℕ) → b ≡ true → (b || is_among q names) ≡ true
here_among true names q h = refl
here_among false names q h = absurd (cc)

-- so the last one of a name is the first
pub places_agree : (env : Environment) (ds : List Declaration) (q : List ℕ) (i : ℕ) → AreDeclarations env ds → last_place None q i ds ≡ node_place q i ds
places_agree env [] q i d = refl
places_agree env (s.node w ins outs rs x ∷ ds) q i d = by (bytes_eq q w.text) refl (places_agree after ds q (suc i) d.1)
  where
    after : Environment
    after = with_declaration env (s.node w ins outs rs x)

    by : (b : Bool) → bytes_eq q w.text ≡ b → last_place None q (suc i) ds ≡ node_place q (suc i) ds → last_place (if b then Some i else None) q (suc i) ds ≡ (if b then Some i else node_place q (suc i) ds)
    by true e h = place_kept after ds (Some i) q (suc i) (here_among (bytes_eq q w.text) (node_names env.nodes) q e) d.1
    by false e h = h
places_agree env (s.macro_declaration m ∷ ds) q i d = places_agree (with_macro env m) ds q (suc i) d.1
places_agree env (s.exception_declaration ws ∷ ds) q i d = places_agree (with_exceptions env ws) ds q (suc i) d.1

pub counts_agree : (env : Environment) (ds : List Declaration) (known : List Counted) (q : List ℕ) → count_of known q ≡ 0 → AreDeclarations env ds
    → count_of (counted_after known ds) q ≡ runs_among known (Some q) ds
counts_agree env [] known q z d = z
counts_agree env (s.node w ins outs rs x ∷ ds) known q z d = by (bytes_eq q w.text) refl (λ y. counts_agree after ds more q y d.1)
  where
    after : Environment
    after = with_declaration env (s.node w ins outs rs x)

    more : List Counted
    more = record { name = w.text; runs = counted_runs known rs } ∷ known

    by : (b : Bool) → bytes_eq q w.text ≡ b → (count_of more q ≡ 0 → count_of (counted_after more ds) q ≡ runs_among more (Some q) ds) → count_of (counted_after more ds) q ≡ (if b then counted_runs known rs else runs_among more (Some q) ds)
    by true e h =
        count_kept after ds more q (here_among (bytes_eq q w.text) (node_names env.nodes) q e) d.1
        ∙ ap (λ b. if b then counted_runs known rs else count_of known q) e
    by false e h = h (ap (λ b. if b then counted_runs known rs else count_of known q) e ∙ z)
counts_agree env (s.macro_declaration m ∷ ds) known q z d = counts_agree (with_macro env m) ds known q z d.1
counts_agree env (s.exception_declaration ws ∷ ds) known q z d = counts_agree (with_exceptions env ws) ds known q z d.1

-- DECLARATIONS ONE BY ONE

pub after_append : (known : List Counted) (xs ys : List Declaration) → counted_after known (xs ++ ys) ≡ counted_after (counted_after known xs) ys
after_append known [] ys = refl
after_append known (s.node w ins outs rs x ∷ xs) ys = after_append (record { name = w.text; runs = counted_runs known rs } ∷ known) xs ys
after_append known (s.macro_declaration m ∷ xs) ys = after_append known xs ys
after_append known (s.exception_declaration ws ∷ xs) ys = after_append known xs ys

pub place_append : (o : Option ℕ) (q : List ℕ) (i k : ℕ) (xs ys : List Declaration) → k ≡ i + length xs → last_place o q i (xs ++ ys) ≡ last_place (last_place o q i xs) q k ys
place_append o q i k [] ys e = let same : i ≡ k = omega (arith, e) in ap (λ j. last_place o q j ys) same
place_append o q i k (s.node w ins outs rs x ∷ xs) ys e = place_append (if bytes_eq q w.text then Some i else o) q (suc i) k xs ys (omega (arith, e))
place_append o q i k (s.macro_declaration m ∷ xs) ys e = place_append o q (suc i) k xs ys (omega (arith, e))
place_append o q i k (s.exception_declaration ws ∷ xs) ys e = place_append o q (suc i) k xs ys (omega (arith, e))

-- What a map tells after these declarations.
pub record IsRead {S : Type 0} (ds : List Declaration) (nodes : IndexMap (String Global) code.Nested S) : Type 0 where
  pub places : (q : List ℕ) → option_map (λ n. n.place) (get_by_text nodes q) ≡ last_place None q 0 ds
  pub told : Tells (counted_after [] ds) nodes

place_case : (b : Bool) (n : code.Nested) (o : Option code.Nested) (l : Option ℕ) → option_map (λ (n : code.Nested). n.place) o ≡ l → option_map (λ (n : code.Nested). n.place) (if b then Some n else o) ≡ (if b then Some n.place else l)
place_case true n o l h = refl
place_case false n o l h = h

runs_case : (b : Bool) (n : code.Nested) (o : Option code.Nested) (k m : ℕ) → n.runs ≡ min k 17 → runs_found o ≡ min m 17 → runs_found (if b then Some n else o) ≡ min (if b then k else m) 17
runs_case true n o k m e h = e
runs_case false n o k m e h = h

-- one node more
pub read_node : {S : Type 0} (ds : List Declaration) (d : NodeDecl) (n : code.Nested) (key : List ℕ) (old new : IndexMap (String Global) code.Nested S) → IsRead ds old → key ≡ (word d.name).text
    → ((q : List ℕ) → get_by_text new q ≡ update bytes_eq (get_by_text old) key (Some n) q) → n.place ≡ length ds
    → n.runs ≡ min (counted_runs (counted_after [] ds) (map run d.runs.items)) 17 → IsRead (ds ++ declaration (decl.Node d) ∷ []) new
read_node ds d n key old new h named made at more = record {
  places = λ q.
      ap (option_map (λ (n : code.Nested). n.place)) (found q)
      ∙ place_case (bytes_eq q name) n (get_by_text old q) (last_place None q 0 ds) (h.places q)
      ∙ ap (λ k. if bytes_eq q name then Some k else last_place None q 0 ds) at
      ∙ sym (place_append None q 0 (length ds) ds (declaration (decl.Node d) ∷ []) (omega arith));
  told = λ q.
      ap runs_found (found q)
      ∙ runs_case (bytes_eq q name) n (get_by_text old q) (counted_runs known (map run d.runs.items)) (count_of known q) more (h.told q)
      ∙ ap (λ ks. min (count_of ks q) 17) (sym (after_append [] ds (declaration (decl.Node d) ∷ [])));
}
  where
    name : List ℕ
    name = (word d.name).text

    known : List Counted
    known = counted_after [] ds

    found : (q : List ℕ) → get_by_text new q ≡ (if bytes_eq q name then Some n else get_by_text old q)
    found q = made q ∙ ap (λ b. if b then Some n else get_by_text old q) (ap (λ t. bytes_eq t q) named ∙ nat_list_eq_equiv.symm name q)

-- and one of another kind
pub read_other : {S : Type 0} (ds : List Declaration) (d : Decl) (nodes : IndexMap (String Global) code.Nested S) → ((n : NodeDecl) → d ≡ decl.Node n → ⊥) → IsRead ds nodes → IsRead (ds ++ declaration d ∷ []) nodes
read_other ds (decl.Node n) nodes apart h = absurd (apart n refl)
read_other ds (decl.Macro m) nodes apart h = record {
  places = λ q. h.places q ∙ sym (place_append None q 0 (length ds) ds (declaration (decl.Macro m) ∷ []) (omega arith));
  told = λ q. h.told q ∙ ap (λ ks. min (count_of ks q) 17) (sym (after_append [] ds (declaration (decl.Macro m) ∷ [])));
}
read_other ds (decl.Exceptions ns) nodes apart h = record {
  places = λ q. h.places q ∙ sym (place_append None q 0 (length ds) ds (declaration (decl.Exceptions ns) ∷ []) (omega arith));
  told = λ q. h.told q ∙ ap (λ ks. min (count_of ks q) 17) (sym (after_append [] ds (declaration (decl.Exceptions ns) ∷ [])));
}

-- so it is of a whole text
pub read_whole : {S : Type 0} (env : Environment) (ds : List Declaration) (nodes : IndexMap (String Global) code.Nested S) → AreDeclarations env ds → IsRead ds nodes
    → ((q : List ℕ) → option_map (λ n. n.place) (get_by_text nodes q) ≡ node_place q 0 ds) × ((q : List ℕ) → runs_found (get_by_text nodes q) ≡ min (runs_in_nest (Some q) ds) 17)
read_whole env ds nodes d h = (
  λ q. h.places q ∙ places_agree env ds q 0 d,
  λ q. h.told q ∙ ap (λ k. min k 17) (counts_agree env ds [] q refl d),
)
