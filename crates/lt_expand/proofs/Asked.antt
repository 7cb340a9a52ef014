-- How many runs the nest of the node has that is asked for, as declarations are read one by one.
use Rattle.std.proofs.Common.{◌≡◌, ℕ, ◌+◌, ◌<◌, true, false, List, [], ◌∷◌, Option, map, length, take, drop, get_or, nat_lt, not, ◌==◌, arith, if◌then◌else◌, refl, sym, ap, ◌∙◌, subst}
use Rattle.std.proofs.lemmas.Bool.Decides.{nat_tests}
use Rattle.std.proofs.lemmas.List.{drop_more}
use Rattle.lt_ast.specs.Syntax.{Declaration}
use Rattle.lt_ast.specs.View.{declaration, run, word}
use Rattle.lt_ast.specs.declared.program.Decl.{Decl}
use Rattle.lt_ast.specs.declared.program.Decl.TheVariants as decl
use Rattle.lt_ast.specs.declared.program.NodeDecl.{NodeDecl}
use Rattle.lt_ast.specs.declared.program.RunDecl.{RunDecl}
use Rattle.lt_macros.specs.Expansion.{is_wanted}
use Rattle.lt_expand.specs.Nested.{Counted, counted_runs, runs_among, runs_in_nest}
use Rattle.lt_expand.proofs.Nests.{after_append, counted_after}
use Rattle.lt_expand.proofs.Preorders.{taken}

-- the nodes that are counted before this declaration
abbrev before : List Decl → ℕ → List Counted
before xs i = counted_after [] (map declaration (take i xs))

-- the node is among the declarations from this one on
abbrev pub IsLeft : Option (List ℕ) → List Decl → ℕ → Type 0
IsLeft wanted xs i = runs_in_nest wanted (map declaration xs) ≡ runs_among (before xs i) wanted (map declaration (drop i xs))

-- it is not this declaration
abbrev pub IsPassed : Option (List ℕ) → Decl → Type 0
IsPassed wanted x = (known : List Counted) (ds : List Declaration) → runs_among known wanted (declaration x ∷ ds) ≡ runs_among (counted_after known (declaration x ∷ [])) wanted ds

left_now : (wanted : Option (List ℕ)) (xs : List Decl) (i : ℕ) (x : Decl) → i < length xs → x ≡ get_or xs i x → IsLeft wanted xs i
    → runs_in_nest wanted (map declaration xs) ≡ runs_among (before xs i) wanted (declaration x ∷ map declaration (drop (i + 1) xs))
left_now wanted xs i x l is h =
    h ∙ ap (λ ys. runs_among (before xs i) wanted (map declaration ys)) (drop_more xs i x l ∙ ap (λ y. y ∷ drop (i + 1) xs) (sym is))

-- one declaration more
pub left_more : (wanted : Option (List ℕ)) (xs : List Decl) (i : ℕ) (x : Decl) → i < length xs → x ≡ get_or xs i x → IsLeft wanted xs i → IsPassed wanted x → IsLeft wanted xs (i + 1)
left_more wanted xs i x l is h passed =
    let ds = map declaration (drop (i + 1) xs) in
    left_now wanted xs i x l is h
    ∙ passed (before xs i) ds
    ∙ ap (λ ks. runs_among ks wanted ds) (sym (ap (counted_after []) (taken declaration xs i x l is) ∙ after_append [] (map declaration (take i xs)) (declaration x ∷ [])))

-- a node of another name
pub passed_node : (wanted : Option (List ℕ)) (x : Decl) (n : NodeDecl) → x ≡ decl.Node n → is_wanted wanted (word n.name) ≡ false → IsPassed wanted x
passed_node wanted x n is unwanted = subst (IsPassed wanted) (sym is) (λ known ds. ap (λ b. if b then counted_runs known (map run n.runs.items) else runs_among (counted_after known (declaration (decl.Node n) ∷ [])) wanted ds) unwanted)

-- no node
pub passed_other : (wanted : Option (List ℕ)) (x : Decl) → ((n : NodeDecl) → x ≡ decl.Node n → ⊥) → IsPassed wanted x
passed_other wanted (decl.Node n) apart = absurd (apart n refl)
passed_other wanted (decl.Macro m) apart = λ known ds. refl
passed_other wanted (decl.Exceptions ns) apart = λ known ds. refl

both_some : (a b : ℕ) → 0 < a → 0 < b → nat_lt 0 a ≡ nat_lt 0 b
both_some a b p q = grind (arith, nat_tests)

some_run : (known : List Counted) (rs : List RunDecl) → nat_lt 0 (length rs) ≡ nat_lt 0 (counted_runs known (map run rs))
some_run known [] = refl
some_run known (r ∷ rs) = both_some (length (r ∷ rs)) (counted_runs known (map run (r ∷ rs))) (omega arith) (omega arith)

-- a list is empty or has some
pub not_empty : (k n : ℕ) → k ≡ n → not (k == 0) ≡ nat_lt 0 n
not_empty k n e = grind (arith, nat_tests)

-- the node that is asked for
pub left_found : (wanted : Option (List ℕ)) (xs : List Decl) (i : ℕ) (x : Decl) (n : NodeDecl) → i < length xs → x ≡ get_or xs i x → IsLeft wanted xs i → x ≡ decl.Node n → is_wanted wanted (word n.name) ≡ true
    → nat_lt 0 (length n.runs.items) ≡ nat_lt 0 (runs_in_nest wanted (map declaration xs))
left_found wanted xs i x n l is h node asked =
    let known = before xs i in
    let ds = map declaration (drop (i + 1) xs) in
    some_run known n.runs.items
    ∙ ap (nat_lt 0) (sym (left_now wanted xs i x l is h
    ∙ ap (λ y. runs_among known wanted (declaration y ∷ ds)) node
    ∙ ap (λ b. if b then counted_runs known (map run n.runs.items) else runs_among (counted_after known (declaration (decl.Node n) ∷ [])) wanted ds) asked))
