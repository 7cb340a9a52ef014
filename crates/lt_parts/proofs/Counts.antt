-- The atoms of parts are those of the conjuncts.
use Rattle.std.proofs.Common.{◌≡◌, ℕ, suc, ◌+◌, ◌<◌, Bool, true, false, not, ◌||◌, IsTrue, nat_eq, nat_lt, List, [], ◌∷◌, ◌++◌, length, map, max, if◌then◌else◌, refl, ap, sym, ◌∙◌, eq-eqb, arith, length-append}
use Rattle.std.specs.Bool.{Decides}
use Rattle.std.specs.List.{list_any}
use Rattle.std.proofs.lemmas.Bool.{ltb-true}
use Rattle.std.proofs.lemmas.Bool.Decides.{same_from_decides}
use Rattle.std.proofs.lemmas.List.{length-map}
use borrow.Author.Tests.{eqb-true}
use Rattle.lt_formula.specs.Expression.{Expression}
use Rattle.lt_formula.specs.Table.{HasEachOnce, expression_at, extended, nodes_of}
use Rattle.lt_formula.specs.View.{table_expressions, table_kinds, table_len}
use Rattle.lt_formula.specs.declared.facts.Facts.{Facts}
use Rattle.lt_formula.specs.declared.node.ExpNode.{ExpNode}
use Rattle.lt_formula.specs.declared.table.Table.{Table}
use Rattle.lt_parts.specs.Atoms.{atoms_of, most_atoms_in, with_expression, with_expressions}
use Rattle.lt_parts.specs.Outline.{conjuncts_of}
use Rattle.lt_parts.specs.Part.{AreParts, IsPart, PartsHaveItsAtoms, Piece, arranged, at, known_numbers, most_atoms_of, with_number, with_numbers}
use Rattle.lt_parts.specs.Same.{is_same}
use Rattle.lt_parts.specs.inner.Collected.{are_within}
use Rattle.lt_parts.proofs.Numbers.{left_of, map_one, right_of, within_one}
use Rattle.lt_parts.proofs.Same.{same_is_one}
use Rattle.lt_space.specs.Meaning.{is_known}

-- A table has as many expressions as it has nodes.

length_extended : (es : List Expression) (ns : List ExpNode) → length (extended es ns) ≡ length es + length ns
length_extended es [] = omega arith
length_extended es (n ∷ ns) = length_extended (es ++ expression_at es n ∷ []) ns ∙ simp length-append (omega arith)

length_nodes : (entries : List (ExpNode × Facts)) → length (nodes_of entries) ≡ length entries
length_nodes [] = refl
length_nodes (e ∷ es) = ap suc (length_nodes es)

pub length_expressions : (t : Table) → length (table_expressions t) ≡ table_len t
length_expressions t = let all = length_extended [] (nodes_of t.nodes.entries) in let nodes = length_nodes t.nodes.entries in omega (arith, all, nodes)

module _ (t : Table) (once : HasEachOnce (table_expressions t)) where
  -- two expressions of a table are one where their numbers are
  same_at : (i j : ℕ) → i < table_len t → j < table_len t → is_same (at t i) (at t j) ≡ nat_eq i j
  same_at i j h k =
      let all = length_expressions t in
      let numbers : Decides (nat_eq i j) (at t i ≡ at t j) = (λ e. ap (at t) (eqb-true i j e), λ e. eq-eqb i j (once i j (omega (arith, h, all)) (omega (arith, k, all)) e)) in
      same_from_decides (is_same (at t i) (at t j)) (nat_eq i j) (same_is_one (at t i) (at t j)) numbers

  first_of : (n : ℕ) (ns : List ℕ) → IsTrue (are_within t (n ∷ ns)) → n < table_len t
  first_of n ns h = ltb-true n (table_len t) (left_of (nat_lt n (table_len t)) _ h)

  rest_of : (n : ℕ) (ns : List ℕ) → IsTrue (are_within t (n ∷ ns)) → IsTrue (are_within t ns)
  rest_of n ns h = right_of (nat_lt n (table_len t)) _ h

  -- one is among others where its number is
  among_at : (n : ℕ) (found : List ℕ) → n < table_len t → IsTrue (are_within t found) → list_any (is_same (at t n)) (map (at t) found) ≡ list_any (nat_eq n) found
  among_at n [] h within = refl
  among_at n (k ∷ found) h within = λ i. same_at n k h (first_of k found within) i || among_at n found h (rest_of k found within) i

  with_at : (found : List ℕ) (n : ℕ) → n < table_len t → IsTrue (are_within t found) → map (at t) (with_number found n) ≡ with_expression (map (at t) found) (at t n)
  with_at found n h within = by (list_any (nat_eq n) found) ∙ ap (λ b. if b then map (at t) found else map (at t) found ++ at t n ∷ []) (sym (among_at n found h within))
    where
      by : (b : Bool) → map (at t) (if b then found else found ++ n ∷ []) ≡ (if b then map (at t) found else map (at t) found ++ at t n ∷ [])
      by true = refl
      by false = map_one t found n

  within_with : (found : List ℕ) (n : ℕ) → n < table_len t → IsTrue (are_within t found) → IsTrue (are_within t (with_number found n))
  within_with found n h within = by (list_any (nat_eq n) found)
    where
      by : (b : Bool) → IsTrue (are_within t (if b then found else found ++ n ∷ []))
      by true = within
      by false = within_one t found n h within

  -- the same of those of a class
  module _ (test : Expression → Bool) where
    put : (b : Bool) (found : List ℕ) (n : ℕ) → n < table_len t → IsTrue (are_within t found) → map (at t) (if b then with_number found n else found) ≡ (if b then with_expression (map (at t) found) (at t n) else map (at t) found)
    put true found n h within = with_at found n h within
    put false found n h within = refl

    within_put : (b : Bool) (found : List ℕ) (n : ℕ) → n < table_len t → IsTrue (are_within t found) → IsTrue (are_within t (if b then with_number found n else found))
    within_put true found n h within = within_with found n h within
    within_put false found n h within = within

    all_at : (found ns : List ℕ) → IsTrue (are_within t found) → IsTrue (are_within t ns) → map (at t) (with_numbers (λ n. test (at t n)) found ns) ≡ with_expressions test (map (at t) found) (map (at t) ns)
    all_at found [] within all = refl
    all_at found (n ∷ ns) within all =
        let h = first_of n ns all in
        let b = test (at t n) in
        all_at (if b then with_number found n else found) ns (within_put b found n h within) (rest_of n ns all)
        ∙ ap (λ es. with_expressions test es (map (at t) ns)) (put b found n h within)

    all_within : (found ns : List ℕ) → IsTrue (are_within t found) → IsTrue (are_within t ns) → IsTrue (are_within t (with_numbers (λ n. test (at t n)) found ns))
    all_within found [] within all = within
    all_within found (n ∷ ns) within all =
        let b = test (at t n) in all_within (if b then with_number found n else found) ns (within_put b found n (first_of n ns all) within) (rest_of n ns all)

  pub arranged_within : (ns : List ℕ) → IsTrue (are_within t ns) → IsTrue (are_within t (arranged t ns))
  arranged_within ns within =
      let known = is_known (table_kinds t) in all_within (λ a. not (known a)) (known_numbers t ns) ns (all_within known [] ns refl within) within

  -- the numbers that are arranged are those of the atoms, each once
  arranged_at : (ns : List ℕ) → IsTrue (are_within t ns)
      → map (at t) (arranged t ns) ≡ with_expressions (λ a. not (is_known (table_kinds t) a)) (with_expressions (is_known (table_kinds t)) [] (map (at t) ns)) (map (at t) ns)
  arranged_at ns within =
      let known = is_known (table_kinds t) in
      all_at (λ a. not (known a)) (known_numbers t ns) ns (all_within known [] ns refl within) within
      ∙ ap (λ es. with_expressions (λ a. not (known a)) es (map (at t) ns)) (all_at known [] ns refl within)

  -- a part has the atoms of its conjunct
  part_atoms : (e : Expression) (p : Piece) → IsPart t e p → length p.atoms ≡ length (atoms_of (table_kinds t) e)
  part_atoms e p part =
      let kinds = table_kinds t in
      let spelled : map (at t) (arranged t part.numbers) ≡ atoms_of kinds e =
      arranged_at part.numbers part.occur.within
      ∙ ap (λ es. with_expressions (λ a. not (is_known kinds a)) (with_expressions (is_known kinds) [] es) es) part.occur.spell in
      ap length part.atoms ∙ sym (length-map (arranged t part.numbers) (at t)) ∙ ap length spelled

  parts_atoms : (es : List Expression) (ps : List Piece) → AreParts t es ps → most_atoms_of ps ≡ most_atoms_in (table_kinds t) es
  parts_atoms [] [] h = refl
  parts_atoms [] (p ∷ ps) h = absurd h
  parts_atoms (e ∷ es) [] h = absurd h
  parts_atoms (e ∷ es) (p ∷ ps) h = λ i. max (part_atoms e p h.0 i) (parts_atoms es ps h.1 i)

pub parts_have_its_atoms : PartsHaveItsAtoms
parts_have_its_atoms t e pieces once h = parts_atoms t once (conjuncts_of (table_kinds t) e) pieces h
