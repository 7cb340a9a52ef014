-- What the expressions that a term names pass, all their parts pass too, and so does each expression of a table that it fills.
use Rattle.std.proofs.Common.{◌≡◌, ℕ, suc, ◌≤◌, max, Bool, true, nat_le, List, [], ◌∷◌, ◌++◌, refl, sym, ◌∙◌, arith}
use Rattle.std.specs.List.{flat_map, list_all}
use Rattle.std.proofs.lemmas.Bool.Decides.{nat_tests}
use Rattle.std.proofs.lemmas.List.Elements.{All-contains}
use Rattle.std.proofs.lemmas.List.Folds.{list_all-append}
use Rattle.std.proofs.lemmas.List.Sums.{AllPass-from_list_all, list_all-from_AllPass}
use Rattle.lt_formula.specs.Expression.{Expression, constant, variable, previous, unary, binary, choice}
use Rattle.lt_term.proofs.Public.{both, left_of, right_of}
use Rattle.lt_term.specs.Depth.{expression_depth}
use Rattle.lt_term.specs.Named.{expressions_in, parts_in, with_parts}
use Rattle.lt_term.specs.Process.{Process}
use Rattle.lt_term.specs.Valid.{AreNamed}

-- A test that the parts of an expression pass where it does.
abbrev pub IsHandedDown : (Expression → Bool) → Type 0
IsHandedDown test = (e : Expression) → test e ≡ true → list_all test (with_parts e) ≡ true

all_both : (test : Expression → Bool) (xs ys : List Expression) → list_all test xs ≡ true → list_all test ys ≡ true → list_all test (xs ++ ys) ≡ true
all_both test xs ys g h = list_all-append test xs ys ∙ both (list_all test xs) (list_all test ys) g h

all_parts : (test : Expression → Bool) → IsHandedDown test → (es : List Expression) → list_all test es ≡ true → list_all test (flat_map with_parts es) ≡ true
all_parts test down [] h = refl
all_parts test down (e ∷ es) h =
    all_both test (with_parts e) (flat_map with_parts es) (down e (left_of (test e) (list_all test es) h)) (all_parts test down es (right_of (test e) (list_all test es) h))

-- each expression of a table whose expressions are named in a term passes what those of the term pass
pub named_pass : (test : Expression → Bool) → IsHandedDown test → (es : List Expression) (p : Process Expression) → list_all test (expressions_in p) ≡ true → AreNamed es p → list_all test es ≡ true
named_pass test down es p h named =
    let parts = AllPass-from_list_all test (parts_in p) (all_parts test down (expressions_in p) h) in
    list_all-from_AllPass test es (λ k d l. All-contains (λ e. test e ≡ true) (parts_in p) _ parts (named k d l))

-- TESTS OF ALL PARTS

-- whether all parts of an expression pass a test
abbrev pub throughout : (Expression → Bool) → Expression → Bool
throughout test e = list_all test (with_parts e)

first_of : (test : Expression → Bool) (xs ys : List Expression) → list_all test (xs ++ ys) ≡ true → list_all test xs ≡ true
first_of test xs ys h = left_of (list_all test xs) (list_all test ys) (sym (list_all-append test xs ys) ∙ h)

last_of : (test : Expression → Bool) (xs ys : List Expression) → list_all test (xs ++ ys) ≡ true → list_all test ys ≡ true
last_of test xs ys h = right_of (list_all test xs) (list_all test ys) (sym (list_all-append test xs ys) ∙ h)

-- the parts of a part are parts
pub throughout_down : (test : Expression → Bool) → IsHandedDown (throughout test)
throughout_down test (constant k v) h = both _ true h refl
throughout_down test (variable r i) h = both _ true h refl
throughout_down test (previous r i) h = both _ true h refl
throughout_down test (unary op d) h = both _ _ h (throughout_down test d (right_of (test (unary op d)) (throughout test d) h))
throughout_down test (binary op d e) h =
    let rest = right_of (test (binary op d e)) (list_all test (with_parts d ++ with_parts e)) h in
    both _ _ h
    (all_both (throughout test) (with_parts d) (with_parts e) (throughout_down test d (first_of test (with_parts d) (with_parts e) rest)) (throughout_down test e (last_of test (with_parts d) (with_parts e) rest)))
throughout_down test (choice c d e) h =
    let rest = right_of (test (choice c d e)) (list_all test (with_parts c ++ (with_parts d ++ with_parts e))) h in
    let last = last_of test (with_parts c) (with_parts d ++ with_parts e) rest in
    both _ _ h
    (all_both (throughout test) (with_parts c) (with_parts d ++ with_parts e) (throughout_down test c (first_of test (with_parts c) (with_parts d ++ with_parts e) rest))
    (all_both (throughout test) (with_parts d) (with_parts e) (throughout_down test d (first_of test (with_parts d) (with_parts e) last)) (throughout_down test e (last_of test (with_parts d) (with_parts e) last))))

-- DEPTH

-- whether an expression is no deeper than this
abbrev pub is_at_most : ℕ → Expression → Bool
is_at_most n e = nat_le (expression_depth e) n

under : (a b n : ℕ) → a ≤ b → nat_le b n ≡ true → nat_le a n ≡ true
under a b n l h = grind (arith, nat_tests)

-- parts are less deep than wholes
pub depth_down : (n : ℕ) → IsHandedDown (is_at_most n)
depth_down n (constant k v) h = both _ true h refl
depth_down n (variable r i) h = both _ true h refl
depth_down n (previous r i) h = both _ true h refl
depth_down n (unary op d) h = both _ _ h (depth_down n d (under (expression_depth d) (suc (expression_depth d)) n (omega arith) h))
depth_down n (binary op d e) h =
    let a = expression_depth d in
    let b = expression_depth e in
    both _ _ h (all_both (is_at_most n) (with_parts d) (with_parts e) (depth_down n d (under a (suc (max a b)) n (omega arith) h)) (depth_down n e (under b (suc (max a b)) n (omega arith) h)))
depth_down n (choice c d e) h =
    let a = expression_depth c in
    let b = expression_depth d in
    let m = expression_depth e in
    both _ _ h
    (all_both (is_at_most n) (with_parts c) (with_parts d ++ with_parts e) (depth_down n c (under a (suc (max a (max b m))) n (omega arith) h))
    (all_both (is_at_most n) (with_parts d) (with_parts e) (depth_down n d (under b (suc (max a (max b m))) n (omega arith) h)) (depth_down n e (under m (suc (max a (max b m))) n (omega arith) h))))
