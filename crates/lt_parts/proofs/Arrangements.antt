-- The numbers that are arranged have a flag for each atom.
use Rattle.std.proofs.Common.{◌≡◌, ℕ, ◌<◌, ◌≤◌, ◌^◌, Bool, true, false, not, ◌||◌, IsTrue, nat_eq, List, [], ◌∷◌, ◌++◌, length, get_or, map, if◌then◌else◌, refl, ap, sym, ◌∙◌, subst, arith}
use Rattle.std.specs.List.{Contains, IsDistinct, list_any}
use Rattle.std.proofs.lemmas.Cmp.{nat_eq_equiv}
use Rattle.std.proofs.lemmas.List.{get_or-map, length-map}
use Rattle.std.proofs.lemmas.List.Elements.{Contains-append_left, Contains-get_or, Contains-push}
use Rattle.std.proofs.lemmas.Map.Keys.{IsDistinct-push}
use Rattle.std.proofs.lemmas.Map.Steps.{length-le_from_distinct_below}
use Rattle.std.proofs.lemmas.Map.Views.{Contains-from_any, list_any-from_Contains}
use borrow.Author.Tests.{eqb-true}
use Rattle.lt_formula.specs.Expression.{Expression}
use Rattle.lt_formula.specs.Table.{HasEachOnce}
use Rattle.lt_formula.specs.View.{table_expressions, table_len}
use Rattle.lt_formula.specs.declared.table.Table.{Table}
use Rattle.lt_parts.specs.Part.{arranged, at, is_known_at, known_numbers, with_number, with_numbers}
use Rattle.lt_parts.specs.inner.Collected.{are_within}
use Rattle.lt_parts.specs.inner.Flags.{HaveFlags}
use Rattle.lt_parts.proofs.Counts.{arranged_within, length_expressions}
use Rattle.lt_parts.proofs.Numbers.{list_first, list_rest}

-- Each number is arranged once.

distinct_with : (found : List ℕ) (n : ℕ) → IsDistinct nat_eq found → IsDistinct nat_eq (with_number found n)
distinct_with found n h = by (list_any (nat_eq n) found) refl
  where
    by : (b : Bool) → list_any (nat_eq n) found ≡ b → IsDistinct nat_eq (if b then found else found ++ n ∷ [])
    by true e = h
    by false e = IsDistinct-push nat_eq_equiv found n h e

distinct_put : (b : Bool) (found : List ℕ) (n : ℕ) → IsDistinct nat_eq found → IsDistinct nat_eq (if b then with_number found n else found)
distinct_put true found n h = distinct_with found n h
distinct_put false found n h = h

distinct_numbers : (test : ℕ → Bool) (found ns : List ℕ) → IsDistinct nat_eq found → IsDistinct nat_eq (with_numbers test found ns)
distinct_numbers test found [] h = h
distinct_numbers test found (n ∷ ns) h = distinct_numbers test (if test n then with_number found n else found) ns (distinct_put (test n) found n h)

nothing_twice : IsDistinct nat_eq []
unfolding IsDistinct
nothing_twice = tt

distinct_arranged : (t : Table) (ns : List ℕ) → IsDistinct nat_eq (arranged t ns)
distinct_arranged t ns = distinct_numbers (λ n. not (is_known_at t n)) (known_numbers t ns) ns (distinct_numbers (is_known_at t) [] ns nothing_twice)

-- Each number that occurs is arranged.

module _ (test : ℕ → Bool) (q : ℕ) where
  kept_with : (found : List ℕ) (n : ℕ) → Contains found q → Contains (with_number found n) q
  kept_with found n h = by (list_any (nat_eq n) found)
    where
      by : (b : Bool) → Contains (if b then found else found ++ n ∷ []) q
      by true = h
      by false = Contains-append_left found (n ∷ []) q h

  kept_put : (b : Bool) (found : List ℕ) (n : ℕ) → Contains found q → Contains (if b then with_number found n else found) q
  kept_put true found n h = kept_with found n h
  kept_put false found n h = h

  -- what was there stays
  kept : (found ns : List ℕ) → Contains found q → Contains (with_numbers test found ns) q
  kept found [] h = h
  kept found (n ∷ ns) h = kept (if test n then with_number found n else found) ns (kept_put (test n) found n h)

  itself : (found : List ℕ) → Contains (with_number found q) q
  itself found = by (list_any (nat_eq q) found) refl
    where
      by : (b : Bool) → list_any (nat_eq q) found ≡ b → Contains (if b then found else found ++ q ∷ []) q
      by true e = Contains-from_any eqb-true q found e
      by false e = Contains-push found q

  -- what passes the test is put
  put : test q ≡ true → (found ns : List ℕ) → list_any (nat_eq q) ns ≡ true → Contains (with_numbers test found ns) q
  put passes found [] h = absurd (cc)
  put passes found (n ∷ ns) h = by (nat_eq q n) refl (put passes (if test n then with_number found n else found) ns)
    where
      by : (b : Bool) → nat_eq q n ≡ b → (list_any (nat_eq q) ns ≡ true → Contains (with_numbers test (if test n then with_number found n else found) ns) q) → Contains (with_numbers test (if test n then with_number found n else found) ns) q
      by true e others =
          let here : Contains (if test q then with_number found q else found) q = subst (λ b. Contains (if b then with_number found q else found) q) (sym passes) (itself found) in
          kept (if test n then with_number found n else found) ns (subst (λ m. Contains (if test m then with_number found m else found) q) (eqb-true q n e) here)
      by false e others = others (sym (ap (λ b. b || list_any (nat_eq q) ns) e) ∙ h)

all_arranged : (t : Table) (ns : List ℕ) (q : ℕ) → list_any (nat_eq q) ns ≡ true → Contains (arranged t ns) q
all_arranged t ns q h = by (is_known_at t q) refl
  where
    by : (b : Bool) → is_known_at t q ≡ b → Contains (arranged t ns) q
    by true e = kept (λ n. not (is_known_at t n)) q (known_numbers t ns) ns (put (is_known_at t) q e [] ns h)
    by false e = put (λ n. not (is_known_at t n)) q (ap not e) (known_numbers t ns) ns h

-- numbers within a table are below its length
member_within : (t : Table) (ns : List ℕ) (q : ℕ) → IsTrue (are_within t ns) → list_any (nat_eq q) ns ≡ true → q < table_len t
member_within t [] q within h = absurd (cc)
member_within t (n ∷ ns) q within h = by (nat_eq q n) refl (member_within t ns q (list_rest t (n ∷ ns) ns n refl within))
  where
    by : (b : Bool) → nat_eq q n ≡ b → (list_any (nat_eq q) ns ≡ true → q < table_len t) → q < table_len t
    by true e others = subst (λ m. m < table_len t) (sym (eqb-true q n e)) (list_first t (n ∷ ns) ns n refl within)
    by false e others = others (sym (ap (λ b. b || list_any (nat_eq q) ns) e) ∙ h)

module _ (t : Table) (once : HasEachOnce (table_expressions t)) where
  -- there are no more of them than a table has numbers
  few_arranged : (ns : List ℕ) → IsTrue (are_within t ns) → length (arranged t ns) ≤ 2 ^ 32
  few_arranged ns within =
      let below = length-le_from_distinct_below (arranged t ns) (table_len t) (distinct_arranged t ns) (λ q h. member_within t (arranged t ns) q (arranged_within t once ns within) h) in
      let few = t.few in
      omega (arith, below, few)

  -- a number whose expression is that of one that occurs occurs itself
  occurs : (ns : List ℕ) (q : ℕ) → IsTrue (are_within t ns) → q < table_len t → Contains (map (at t) ns) (at t q) → list_any (nat_eq q) ns ≡ true
  occurs ns q within h among =
      let all = length_expressions t in
      let place : among.0 < length ns = subst (λ n. among.0 < n) (length-map ns (at t)) among.1 in
      let n = get_or ns among.0 q in
      let found : list_any (nat_eq n) ns ≡ true = list_any-from_Contains nat_eq_equiv n ns (Contains-get_or ns among.0 q place) in
      let low : n < table_len t = member_within t ns n within found in
      let same : n ≡ q = once n q (omega (arith, low, all)) (omega (arith, h, all)) (sym (get_or-map (at t) ns among.0 q (at t q) place) ∙ among.2) in
      subst (λ m. list_any (nat_eq m) ns ≡ true) same found

  -- the numbers of the atoms, arranged, have a flag for each
  pub arranged_have_flags : (these : List Expression) (ns keys : List ℕ) → IsTrue (are_within t ns) → map (at t) ns ≡ these → keys ≡ arranged t ns → HaveFlags t keys these
  arranged_have_flags these ns keys within spell is =
      subst (λ (ks : List ℕ). HaveFlags t ks these) (sym is)
      (subst (HaveFlags t (arranged t ns)) spell
      (record { few = few_arranged ns within; among = λ q h among. all_arranged t ns q (occurs ns q within h among) }))
