-- Declarations up to the end of the tokens.
use Rattle.std.proofs.Common.{◌≡◌, ◌++◌, List, [], ◌∷◌, length, map, refl, sym, ◌∙◌, ap, subst, Result, Ok, Err}
use Rattle.std.specs.Result.{IsErrAnd}
use Rattle.lt_ast.specs.declared.program.Decl.{Decl}
use Rattle.lt_ast.specs.declared.program.Program.{Program}
use Rattle.lt_ast.specs.View.{declaration}
use Rattle.lt_parser.specs.declared.refusal.Refusal.{Refusal}
use Rattle.lt_parser.specs.declared.refusal.Refusal.TheVariants as r
use Rattle.lt_lexer.specs.declared.lexeme.Lexeme.{Lexeme as Token}
use Rattle.lt_parser.specs.inner.Parsing.{ProgramReadsAs, Refused}
use Rattle.lt_grammar.specs.Lexemes.{Lexemes}
use Rattle.lt_parser.specs.inner.Tokens.{lexemes}
use Rattle.lt_parser.specs.inner.Onto.{declarations_after, declarations_more, declarations_onto}
use Rattle.lt_parser.specs.inner.Reading.{declarations, done, outcome, program_tree}
use Rattle.lt_parser.proofs.Steps.{pushed}
use Rattle.lt_grammar.specs.Nesting.{most_levels}

-- declarations in turn
declarations_onto-none : (xs : List Decl) → declarations_onto xs [] ≡ map declaration xs
declarations_onto-none [] = refl
declarations_onto-none (x ∷ xs) = ap (λ ds. declaration x ∷ ds) (declarations_onto-none xs)

-- one declaration more
pub one_more : (ts before rest : Lexemes) (xs ys : List Decl) (x : Decl) → ys ≡ xs ++ x ∷ [] → outcome most_levels (declarations done) ts ≡ outcome most_levels (declarations_after xs) before
    → outcome most_levels (declarations_after xs) before ≡ outcome most_levels (declarations_more xs (declaration x)) rest → outcome most_levels (declarations done) ts ≡ outcome most_levels (declarations_after ys) rest
one_more ts before rest xs ys x e h g = h ∙ g ∙ pushed declarations (λ y ds. declaration y ∷ ds) xs ys x e done rest

-- What is refused after some declarations is refused.
pub refused_after : (ts rest : Lexemes) (xs : List Decl) (e : Refusal) (result : Result Program Refusal) → outcome most_levels (declarations done) ts ≡ outcome most_levels (declarations_after xs) rest → Refused declarations_after rest e
    → IsErrAnd result (λ e'. e' ≡ e) → ProgramReadsAs ts result
refused_after ts rest xs e (Ok p) h g a = absurd a
refused_after ts rest xs e (Err e') h g a = subst (λ f. ProgramReadsAs ts (Err f)) (sym a) (refused_so e g)
  where
    refused_so : (f : Refusal) → Refused declarations_after rest f → ProgramReadsAs ts (Err f)
    refused_so (r.Unexpected left) q = h ∙ q xs
    refused_so (r.TooDeep left) q = h ∙ q xs
    refused_so r.Memory q = tt

-- At the end the declarations so far are the program.
pub at_end : (ts : Lexemes) (rest : List Token) (xs : List Decl) → length rest ≡ 0 → outcome most_levels (declarations done) ts ≡ outcome most_levels (declarations_after xs) (lexemes rest) → outcome most_levels (declarations done) ts ≡ Ok (program_tree (map declaration xs))
at_end ts [] xs e h = h ∙ ap (λ ds. Ok (program_tree ds)) (declarations_onto-none xs)
at_end ts (t ∷ rest) xs e h = cc
