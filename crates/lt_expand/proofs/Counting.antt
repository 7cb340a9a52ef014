-- How many runs nests have, as they are counted.
use Rattle.std.proofs.Common.{◌≡◌, ℕ, suc, ◌+◌, ◌<◌, ◌≤◌, min, List, [], ◌∷◌, ◌++◌, Option, Some, None, map, length, take, get_or, refl, sym, ap, ◌∙◌, arith}
use Rattle.lt_ast.specs.Syntax.{Run}
use Rattle.lt_ast.specs.View.{run}
use Rattle.lt_ast.specs.declared.program.RunDecl.{RunDecl}
use Rattle.lt_expand.specs.Nested.{Counted, count_of, counted_runs}
use Rattle.lt_expand.specs.declared.nested.Nested as code
use Rattle.lt_expand.specs.inner.Nesting.{runs_found}
use Rattle.lt_expand.proofs.Preorders.{taken}

counted_append : (known : List Counted) (rs ss : List Run) → counted_runs known (rs ++ ss) ≡ counted_runs known rs + counted_runs known ss
counted_append known [] ss = omega arith
counted_append known (r ∷ rs) ss = let e = counted_append known rs ss in omega (arith, e)

capped_more : (a b sum more next : ℕ) → sum ≡ min a 17 → more ≡ min b 17 → next ≡ min (sum + 1 + more) 17 → next ≡ min (a + (suc b + 0)) 17
capped_more a b sum more next h k e = omega (arith, h, k, e)

-- one run more
pub counted_taken : (known : List Counted) (rs : List RunDecl) (i : ℕ) (r : RunDecl) (sum more next : ℕ) → i < length rs → r ≡ get_or rs i r
    → sum ≡ min (counted_runs known (map run (take i rs))) 17 → more ≡ min (count_of known (run r).node.text) 17 → next ≡ min (sum + 1 + more) 17
    → next ≡ min (counted_runs known (map run (take (i + 1) rs))) 17
counted_taken known rs i r sum more next l is h k e =
    capped_more (counted_runs known (map run (take i rs))) (count_of known (run r).node.text) sum more next h k e
    ∙ ap (λ n. min n 17) (sym (ap (counted_runs known) (taken run rs i r l is) ∙ counted_append known (map run (take i rs)) (run r ∷ [])))

twice : (k : ℕ) → min (min k 17) 17 ≡ min k 17
twice k = omega arith

-- how many a node has that is found
pub found_some : (o : Option code.Nested) (n : code.Nested) (k more : ℕ) → o ≡ Some n → runs_found o ≡ min k 17 → more ≡ min n.runs 17 → more ≡ min k 17
found_some o n k more e h is = is ∙ ap (λ m. min m 17) (sym (ap runs_found e) ∙ h) ∙ twice k

-- and where none is
pub found_none : (o : Option code.Nested) (k more : ℕ) → o ≡ None → runs_found o ≡ min k 17 → more ≡ 0 → more ≡ min k 17
found_none o k more e h is = is ∙ ap runs_found (sym e) ∙ h
