-- Runs of nodes, and the trace in them.
use Rattle.std.proofs.Common.{◌≡◌, ℕ, suc, List, [], ◌∷◌, ◌++◌, map, refl, sym, ◌∙◌, ap, subst, true, nat_le}
use Rattle.lt_ast.specs.declared.sign.Sign.TheVariants as t
use Rattle.lt_ast.specs.declared.span.Span.{Span}
use Rattle.lt_ast.specs.declared.program.RunDecl.{RunDecl}
use Rattle.lt_ast.specs.Syntax.{Run, Trace}
use Rattle.lt_ast.specs.View.{run}
use Rattle.lt_grammar.specs.Lexemes.{Lexemes, lexeme, IsNotFirst}
use Rattle.lt_grammar.specs.Nesting.{most_levels}
use Rattle.lt_parser.specs.inner.Onto.{runs_after, runs_onto}
use Rattle.lt_parser.specs.inner.Reading.{Goal, a_trace, outcome, run_goal, some_runs}
use Rattle.lt_parser.specs.inner.Tokens.{Begins}
use Rattle.lt_parser.proofs.Steps.{entered, onto-push}

-- Where no run comes, the trace does.
pub a_body_first : (d : ℕ) (k : List Run → Trace → Goal) (ts : Lexemes) → IsNotFirst t.Run ts → outcome most_levels (some_runs d k) ts ≡ outcome most_levels (a_trace d (k [])) ts
a_body_first d k [] h = refl
a_body_first d k (lexeme t.Run w at ∷ us) h = absurd (h w at us refl)
a_body_first d k (lexeme sign w at ∷ us) h = refl

-- A run opens a level, and its parentheses another one.
pub run_taken : (d e n : ℕ) (k : List Run → Trace → Goal) (at : Span) (ts us : Lexemes) → Begins t.Run at ts us → e ≡ suc d → n ≡ suc e → nat_le (suc e) most_levels ≡ true
    → outcome most_levels (some_runs d k) ts ≡ outcome most_levels (run_goal n at (λ r. some_runs e (λ rs x. k (r ∷ rs) x))) us
run_taken d e n k at ts us b p q h =
    ap (outcome most_levels (some_runs d k)) b.1
    ∙ entered (λ m. run_goal m at (λ r. some_runs (suc d) (λ rs x. k (r ∷ rs) x))) (suc d) n us (q ∙ ap suc p) (subst (λ i. nat_le (suc i) most_levels ≡ true) p h)
    ∙ sym (ap (λ i. outcome most_levels (run_goal n at (λ r. some_runs i (λ rs x. k (r ∷ rs) x))) us) p)

-- one run more
pub run_pushed : (e : ℕ) (xs ys : List RunDecl) (x : RunDecl) → ys ≡ xs ++ x ∷ [] → (k : List Run → Trace → Goal) (ts : Lexemes)
    → outcome most_levels (some_runs e (λ rs y. k (runs_onto xs (run x ∷ rs)) y)) ts ≡ outcome most_levels (runs_after e ys k) ts
run_pushed e xs ys x q k ts =
    sym (λ i. outcome most_levels (some_runs e (λ rs y. k (onto-push (λ z zs. run z ∷ zs) xs x rs i) y)) ts)
    ∙ sym (ap (λ zs. outcome most_levels (some_runs e (λ rs y. k (runs_onto zs rs) y)) ts) q)

-- runs, as the code has them
pub runs_onto-none : (xs : List RunDecl) → runs_onto xs [] ≡ map run xs
runs_onto-none [] = refl
runs_onto-none (x ∷ xs) = ap (λ rs. run x ∷ rs) (runs_onto-none xs)
