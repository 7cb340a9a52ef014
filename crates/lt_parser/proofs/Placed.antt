-- The parser's tokens and refusals are those of the text.
use Rattle.std.proofs.Common.{◌≡◌, ◌⊎◌, inl, inr, ℕ, zero, suc, ◌<◌, List, [], ◌∷◌, length, drop, get_or, refl, sym, ap, subst, Result, Ok, Err, IfOk, IfErr, arith}
use Rattle.lt_ast.specs.Syntax.{Exp, Declaration}
use Rattle.lt_ast.specs.View.{exp, program}
use Rattle.lt_ast.specs.declared.expr.Expr.{Expr}
use Rattle.lt_ast.specs.declared.program.Program.{Program}
use Rattle.lt_lexer.specs.declared.lexeme.Lexeme as read
use Rattle.lt_lexer.specs.declared.token.Token.{Token}
use Rattle.lt_lexer.specs.Source.{AreReadAs, TextIsReadAs}
use Rattle.lt_parser.specs.inner.Parsing.{ExpressionReadsAs, ProgramReadsAs, WholeReadsAs}
use Rattle.lt_grammar.specs.Grammar.{SpellsWithin, SpellsExpressionWithin}
use Rattle.lt_grammar.specs.Lexemes.{Lexemes}
use Rattle.lt_parser.specs.inner.Reading.{Goal, Tree, program_tree, expression_tree, done, declarations, whole_exp, expression_done}
use Rattle.lt_parser.specs.inner.Tokens.{lexemes}
use Rattle.lt_parser.specs.inner.Placing.{IsPlaced, IsWithin}
use Rattle.lt_grammar.specs.Text.{AreLexemesOf, HasLexemes, IsExpressionOf, IsProgramOf, start_of}
use Rattle.lt_parser.specs.Text.{AnswersExpression, AnswersProgram, AnswersRefusal, IsExpressionRefusal, IsRefusal, IsRefusalOf}
use Rattle.lt_parser.specs.declared.refusal.ParseRefusal.{ParseRefusal}
use Rattle.lt_parser.specs.declared.refusal.ParseRefusal.TheVariants.{Memory}
use Rattle.lt_parser.specs.declared.refusal.Refusal.{Refusal}
use Rattle.lt_parser.specs.declared.refusal.Refusal.TheVariants as r
use Rattle.lt_parser.proofs.Texts.{IsTreeOf, one_expression, one_program, one_refusal_of, read_is_tree, too_deep_fits, too_deep_is_refusal, tree_or_refusal, unexpected_fits, unexpected_is_refusal}
use Rattle.lt_parser.proofs.Wholes.{IsWhole, whole_expression, whole_program}

-- TOKENS

-- what tokens of a text are read as are their lexemes
lexemes_of_read : (text : List ℕ) (ts : List Token) (ls : List read.Lexeme) → AreReadAs text ts ls → AreLexemesOf text ts (lexemes ls)
lexemes_of_read text [] [] h = tt
lexemes_of_read text (t ∷ ts) (l ∷ ls) h = ((h.0.sign, h.0.letters, h.0.place), lexemes_of_read text ts ls h.1)
lexemes_of_read text [] (l ∷ ls) h = absurd h
lexemes_of_read text (t ∷ ts) [] h = absurd h

-- What a text is read as are its lexemes.
pub has_lexemes : (text : List ℕ) (ls : List read.Lexeme) → TextIsReadAs text ls → HasLexemes text (lexemes ls)
has_lexemes text ls h = (h.0, h.1, lexemes_of_read text h.0 ls h.2)

-- there are as many
pub length-lexemes : (ts : List read.Lexeme) → length (lexemes ts) ≡ length ts
length-lexemes [] = refl
length-lexemes (t ∷ ts) = ap suc (length-lexemes ts)

-- PLACES

-- the rest from a token on begins where that token stands
pub place_at : (text : List ℕ) (ts : List read.Lexeme) (i : ℕ) (t : read.Lexeme) → i < length ts → t ≡ get_or ts i t → t.start ≡ start_of text (drop i (lexemes ts))
place_at text [] i t le e = absurd (omega (arith, le))
place_at text (u ∷ us) zero t le e = ap (λ v. v.start) e
place_at text (u ∷ us) (suc i) t le e = place_at text us i t (omega (arith, le)) e

-- No more tokens are left than there are.
within : {X Y : Type 0} (spells : ℕ → Lexemes → X → Type 0) (tree : X → Tree) (wanted : Goal) → IsWhole spells tree wanted → (tree_of : Y → Tree) (ls : Lexemes) (refusal : Refusal) → WholeReadsAs wanted tree_of ls (Err refusal) → IsWithin ls refusal
within spells tree wanted whole tree_of ls (r.Unexpected left) h = unexpected_fits spells tree wanted whole ls left h
within spells tree wanted whole tree_of ls (r.TooDeep left) h = too_deep_fits spells tree wanted whole ls left h
within spells tree wanted whole tree_of ls r.Memory h = tt

-- So it is where a program is read ..
pub refused_within : (ls : Lexemes) (refusal : Refusal) → ProgramReadsAs ls (Err refusal) → IsWithin ls refusal
refused_within ls refusal h = within SpellsWithin program_tree (declarations done) whole_program (λ p. program_tree (program p)) ls refusal h

-- .. or an expression.
pub expression_within : (ls : Lexemes) (refusal : Refusal) → ExpressionReadsAs ls (Err refusal) → IsWithin ls refusal
expression_within ls refusal h = within SpellsExpressionWithin expression_tree (whole_exp expression_done) whole_expression (λ e. expression_tree (exp e)) ls refusal h

-- ANSWERS

-- What is read is the text's program.
pub read_program : (text : List ℕ) (ls : Lexemes) (p : Program) → HasLexemes text ls → ProgramReadsAs ls (Ok p) → IsProgramOf text (program p)
read_program text ls p h g = read_is_tree SpellsWithin program_tree (declarations done) whole_program text ls (program p) h g

-- What is read is the text's expression.
pub read_expression : (text : List ℕ) (ls : Lexemes) (e : Expr) → HasLexemes text ls → ExpressionReadsAs ls (Ok e) → IsExpressionOf text (exp e)
read_expression text ls e h g = read_is_tree SpellsExpressionWithin expression_tree (whole_exp expression_done) whole_expression text ls (exp e) h g

-- What is refused is refused of the text.
placed : {X Y : Type 0} (spells : ℕ → Lexemes → X → Type 0) (tree : X → Tree) (wanted : Goal) → IsWhole spells tree wanted → (tree_of : Y → Tree) (text : List ℕ) (ls : Lexemes) (refusal : Refusal) (answer : ParseRefusal)
    → HasLexemes text ls → WholeReadsAs wanted tree_of ls (Err refusal) → IsPlaced text ls refusal answer → (answer ≡ Memory) ⊎ IsRefusalOf spells text answer
placed spells tree wanted whole tree_of text ls (r.Unexpected left) answer h g e =
    inr (subst (λ answer'. IsRefusalOf spells text answer') (sym e) (unexpected_is_refusal spells tree wanted whole text ls left h g))
placed spells tree wanted whole tree_of text ls (r.TooDeep left) answer h g e =
    inr (subst (λ answer'. IsRefusalOf spells text answer') (sym e) (too_deep_is_refusal spells tree wanted whole text ls left h g))
placed spells tree wanted whole tree_of text ls r.Memory answer h g e = inl e

-- So it is where a program is read ..
pub placed_refusal : (text : List ℕ) (ls : Lexemes) (refusal : Refusal) (answer : ParseRefusal) → HasLexemes text ls → ProgramReadsAs ls (Err refusal) → IsPlaced text ls refusal answer
    → (answer ≡ Memory) ⊎ IsRefusal text answer
placed_refusal text ls refusal answer h g e = placed SpellsWithin program_tree (declarations done) whole_program (λ p. program_tree (program p)) text ls refusal answer h g e

-- .. or an expression.
pub placed_expression_refusal : (text : List ℕ) (ls : Lexemes) (refusal : Refusal) (answer : ParseRefusal) → HasLexemes text ls → ExpressionReadsAs ls (Err refusal) → IsPlaced text ls refusal answer
    → (answer ≡ Memory) ⊎ IsExpressionRefusal text answer
placed_expression_refusal text ls refusal answer h g e =
    placed SpellsExpressionWithin expression_tree (whole_exp expression_done) whole_expression (λ y. expression_tree (exp y)) text ls refusal answer h g e

-- A text that spells a program is answered with it.
pub answers_program : (text : List ℕ) (result : Result Program ParseRefusal) → IfOk result (λ p. IsProgramOf text (program p)) → IfErr result (λ refusal. (refusal ≡ Memory) ⊎ IsRefusal text refusal)
    → (x : List Declaration) → IsProgramOf text x → AnswersProgram x result
answers_program text (Ok p) f g x h = one_program text (program p) x f h
answers_program text (Err answer) f (inl e) x h = e
answers_program text (Err answer) f (inr q) x h = absurd (tree_or_refusal SpellsWithin text x answer h q)

-- A text that is an expression is answered with it.
pub answers_expression : (text : List ℕ) (result : Result Expr ParseRefusal) → IfOk result (λ e. IsExpressionOf text (exp e)) → IfErr result (λ refusal. (refusal ≡ Memory) ⊎ IsExpressionRefusal text refusal)
    → (x : Exp) → IsExpressionOf text x → AnswersExpression x result
answers_expression text (Ok y) f g x h = one_expression text (exp y) x f h
answers_expression text (Err answer) f (inl e) x h = e
answers_expression text (Err answer) f (inr q) x h = absurd (tree_or_refusal SpellsExpressionWithin text x answer h q)

-- A text that is to be refused is refused so.
refuses : {X Y : Type 0} (spells : ℕ → Lexemes → X → Type 0) (view : Y → X) (text : List ℕ) (result : Result Y ParseRefusal)
    → IfOk result (λ y. IsTreeOf spells text (view y)) → IfErr result (λ refusal. (refusal ≡ Memory) ⊎ IsRefusalOf spells text refusal)
    → (refusal : ParseRefusal) → IsRefusalOf spells text refusal → AnswersRefusal refusal result
refuses spells view text (Ok y) f g refusal h = absurd (tree_or_refusal spells text (view y) refusal f h)
refuses spells view text (Err answer) f (inl e) refusal h = inr e
refuses spells view text (Err answer) f (inr q) refusal h = inl (one_refusal_of spells text answer refusal q h)

-- So it is where a program is wanted ..
pub answers_refusal : (text : List ℕ) (result : Result Program ParseRefusal) → IfOk result (λ p. IsProgramOf text (program p)) → IfErr result (λ refusal. (refusal ≡ Memory) ⊎ IsRefusal text refusal)
    → (refusal : ParseRefusal) → IsRefusal text refusal → AnswersRefusal refusal result
answers_refusal text result f g refusal h = refuses SpellsWithin program text result f g refusal h

-- .. or an expression.
pub answers_expression_refusal : (text : List ℕ) (result : Result Expr ParseRefusal) → IfOk result (λ e. IsExpressionOf text (exp e)) → IfErr result (λ refusal. (refusal ≡ Memory) ⊎ IsExpressionRefusal text refusal)
    → (refusal : ParseRefusal) → IsExpressionRefusal text refusal → AnswersRefusal refusal result
answers_expression_refusal text result f g refusal h = refuses SpellsExpressionWithin exp text result f g refusal h
