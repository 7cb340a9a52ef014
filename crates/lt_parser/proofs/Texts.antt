-- A text spells one tree of some kind, a program or an expression, or has one refusal as such.
use Rattle.std.proofs.Common.{◌≡◌, ℕ, ◌-◌, ◌≤◌, List, ◌∷◌, ◌++◌, length, drop, refl, sym, ◌∙◌, ap, subst, Result, Ok, Err, ◌⊎◌, inl, inr, arith, length-append}
use Rattle.std.proofs.lemmas.List.{drop_at}
use Rattle.lt_ast.specs.Syntax.{Exp, Declaration}
use Rattle.lt_lexer.specs.Tokenization.{IsTokenization}
use Rattle.lt_lexer.specs.Tokenization as lexer
use Rattle.lt_lexer.specs.declared.token.Token.{Token}
use Rattle.lt_lexer.specs.declared.refusal.LexRefusal.{LexRefusal}
use Rattle.lt_lexer.proofs.Public.{some_answer, one_refusal as one_lexer_refusal, tokens_or_refusal}
use Rattle.lt_parser.specs.declared.refusal.ParseRefusal.{ParseRefusal}
use Rattle.lt_parser.specs.declared.refusal.ParseRefusal.TheVariants.{Lex, Unexpected, TooDeep, Memory}
use Rattle.lt_grammar.specs.Grammar.{SpellsWithin, SpellsExpressionWithin}
use Rattle.lt_grammar.specs.Lexemes.{Lexeme, Lexemes}
use Rattle.lt_grammar.specs.Program.{IsUnexpected, IsTooDeep}
use Rattle.lt_parser.specs.inner.Reading.{Goal, Stop, Tree, program_tree, expression_tree, unexpected, too_deep, outcome, done, declarations, whole_exp, expression_done}
use Rattle.lt_grammar.specs.Text.{HasLexemes, IsExpressionOf, IsProgramOf, start_of}
use Rattle.lt_parser.specs.Text.{IsExpressionRefusal, IsRefusal, IsRefusalOf}
use Rattle.lt_grammar.proofs.Lexing.{one_list, some_list}
use Rattle.lt_parser.proofs.Places.{unexpected_is_exact, too_deep_is_exact}
use Rattle.lt_parser.proofs.Wholes.{IsWhole, some_spelled, whole_expression, whole_program}
use Rattle.lt_grammar.proofs.Stops.{unexpected_stops, deep_stops, one_stop, tree_has_none, one_unexpected, not_both}
use Rattle.lt_grammar.specs.Nesting.{most_levels}

-- The text spells this tree.
abbrev pub IsTreeOf : {X : Type 0} → (ℕ → Lexemes → X → Type 0) → List ℕ → X → Type 0
IsTreeOf spells text x = (ls : Lexemes) × HasLexemes text ls × spells most_levels ls x

-- WHAT READING ANSWERS

-- What reading gives is the text's tree.
pub read_is_tree : {X : Type 0} (spells : ℕ → Lexemes → X → Type 0) (tree : X → Tree) (wanted : Goal) → IsWhole spells tree wanted → (text : List ℕ) (ls : Lexemes) (x : X) → HasLexemes text ls → outcome most_levels wanted ls ≡ Ok (tree x) → IsTreeOf spells text x
read_is_tree spells tree wanted whole text ls x h e = (ls, h, whole.spelled most_levels ls x e)

-- the last so many tokens
rest_is : (ls before rest : Lexemes) (left : ℕ) → ls ≡ before ++ rest → length rest ≡ left → rest ≡ drop (length ls - left) ls
rest_is ls before rest left e n =
    let place : length before ≡ length ls - left = omega (arith, ap length e, length-append before rest) in
    sym (ap (drop (length ls - left)) e ∙ drop_at before rest (length ls - left) place)

-- no more tokens are left than there are
rest_fits : (ls before rest : Lexemes) (left : ℕ) → ls ≡ before ++ rest → length rest ≡ left → left ≤ length ls
rest_fits ls before rest left e n = omega (arith, ap length e, length-append before rest)

-- Where reading stops for an unexpected token, that is the text's refusal.
pub unexpected_is_refusal : {X : Type 0} (spells : ℕ → Lexemes → X → Type 0) (tree : X → Tree) (wanted : Goal) → IsWhole spells tree wanted
    → (text : List ℕ) (ls : Lexemes) (left : ℕ) → HasLexemes text ls → outcome most_levels wanted ls ≡ Err (unexpected left) → IsRefusalOf spells text (Unexpected (start_of text (drop (length ls - left) ls)))
unexpected_is_refusal spells tree wanted whole text ls left h e =
    let q = (unexpected_is_exact spells tree wanted whole ls left).0 e in
    (ls, h, q.0, q.2, ap (start_of text) (sym (rest_is ls q.2.before q.0 left q.2.parts q.1)))

-- It leaves no more tokens than there are.
pub unexpected_fits : {X : Type 0} (spells : ℕ → Lexemes → X → Type 0) (tree : X → Tree) (wanted : Goal) → IsWhole spells tree wanted → (ls : Lexemes) (left : ℕ) → outcome most_levels wanted ls ≡ Err (unexpected left) → left ≤ length ls
unexpected_fits spells tree wanted whole ls left e =
    let q = (unexpected_is_exact spells tree wanted whole ls left).0 e in
    rest_fits ls q.2.before q.0 left q.2.parts q.1

-- Where reading stops for a level too many, that is the text's refusal.
pub too_deep_is_refusal : {X : Type 0} (spells : ℕ → Lexemes → X → Type 0) (tree : X → Tree) (wanted : Goal) → IsWhole spells tree wanted
    → (text : List ℕ) (ls : Lexemes) (left : ℕ) → HasLexemes text ls → outcome most_levels wanted ls ≡ Err (too_deep left) → IsRefusalOf spells text (TooDeep (start_of text (drop (length ls - left) ls)))
too_deep_is_refusal spells tree wanted whole text ls left h e =
    let q = (too_deep_is_exact spells tree wanted whole ls left).0 e in
    (ls, h, q.0, q.1, q.3, ap (start_of text) (sym (rest_is ls q.3.before (q.0 ∷ q.1) left q.3.parts q.2)))

-- It leaves no more tokens than there are.
pub too_deep_fits : {X : Type 0} (spells : ℕ → Lexemes → X → Type 0) (tree : X → Tree) (wanted : Goal) → IsWhole spells tree wanted → (ls : Lexemes) (left : ℕ) → outcome most_levels wanted ls ≡ Err (too_deep left) → left ≤ length ls
too_deep_fits spells tree wanted whole ls left e =
    let q = (too_deep_is_exact spells tree wanted whole ls left).0 e in
    rest_fits ls q.3.before (q.0 ∷ q.1) left q.3.parts q.2

-- SOME ANSWER

-- a tree or a refusal
abbrev HasAnswer : {X : Type 0} → (ℕ → Lexemes → X → Type 0) → List ℕ → Type 0
HasAnswer {X} spells text = ((x : X) × IsTreeOf spells text x) ⊎ ((refusal : ParseRefusal) × IsRefusalOf spells text refusal)

-- a text with lexemes has an answer, by what reading them gives
answer_by : {X : Type 0} (spells : ℕ → Lexemes → X → Type 0) (tree : X → Tree) (wanted : Goal) → IsWhole spells tree wanted
    → (text : List ℕ) (ls : Lexemes) → HasLexemes text ls → (r : Result Tree Stop) → outcome most_levels wanted ls ≡ r → HasAnswer spells text
answer_by spells tree wanted whole text ls h (Ok y) e = let p = some_spelled spells tree wanted whole most_levels ls y e in inl (p.0, (ls, h, p.1))
answer_by spells tree wanted whole text ls h (Err (unexpected left)) e =
    inr (Unexpected (start_of text (drop (length ls - left) ls)), unexpected_is_refusal spells tree wanted whole text ls left h e)
answer_by spells tree wanted whole text ls h (Err (too_deep left)) e =
    inr (TooDeep (start_of text (drop (length ls - left) ls)), too_deep_is_refusal spells tree wanted whole text ls left h e)

-- so has a text with tokens or a refusal of the lexer
answer_of : {X : Type 0} (spells : ℕ → Lexemes → X → Type 0) (tree : X → Tree) (wanted : Goal) → IsWhole spells tree wanted
    → (text : List ℕ) → ((tokens : List Token) × IsTokenization text tokens) ⊎ ((refusal : LexRefusal) × lexer.IsRefusal text refusal) → HasAnswer spells text
answer_of spells tree wanted whole text (inl p) =
    let l = some_list text p.0 p.1 in
    answer_by spells tree wanted whole text l.0 l.1 (outcome most_levels wanted l.0) refl
answer_of spells tree wanted whole text (inr p) = inr (Lex p.0, p.1)

-- A text spells a program or has a refusal.
pub some : (text : List ℕ) → ((x : List Declaration) × IsProgramOf text x) ⊎ ((refusal : ParseRefusal) × IsRefusal text refusal)
some text = answer_of SpellsWithin program_tree (declarations done) whole_program text (some_answer text)

-- A text is an expression or has a refusal as one.
pub some_of_expression : (text : List ℕ) → ((x : Exp) × IsExpressionOf text x) ⊎ ((refusal : ParseRefusal) × IsExpressionRefusal text refusal)
some_of_expression text = answer_of SpellsExpressionWithin expression_tree (whole_exp expression_done) whole_expression text (some_answer text)

-- ONE ANSWER

-- A text spells one tree.
pub one_tree : {X : Type 0} (spells : ℕ → Lexemes → X → Type 0) (tree : X → Tree) (wanted : Goal) → IsWhole spells tree wanted → (text : List ℕ) (x y : X) → IsTreeOf spells text x → IsTreeOf spells text y → x ≡ y
one_tree spells tree wanted whole text x y p q =
    whole.one most_levels p.0 x y p.2 (subst (λ ls. spells most_levels ls y) (one_list text q.0 p.0 q.1 p.1) q.2)

-- A text spells one program.
pub one_program : (text : List ℕ) (x y : List Declaration) → IsProgramOf text x → IsProgramOf text y → x ≡ y
one_program text x y p q = one_tree SpellsWithin program_tree (declarations done) whole_program text x y p q

-- A text is one expression.
pub one_expression : (text : List ℕ) (x y : Exp) → IsExpressionOf text x → IsExpressionOf text y → x ≡ y
one_expression text x y p q = one_tree SpellsExpressionWithin expression_tree (whole_exp expression_done) whole_expression text x y p q

-- a text with lexemes has no refusal of the lexer
lexemes_or_refusal : (text : List ℕ) (ls : Lexemes) (refusal : LexRefusal) → HasLexemes text ls → lexer.IsRefusal text refusal → ⊥
lexemes_or_refusal text ls refusal h r = tokens_or_refusal text h.0 refusal h.1 r

-- two unexpected tokens of a text leave the same tokens
same_unexpected : {X : Type 0} (spells : ℕ → Lexemes → X → Type 0) (text : List ℕ) (ls us rest rest' : Lexemes)
    → HasLexemes text ls → HasLexemes text us → IsUnexpected spells ls rest → IsUnexpected spells us rest' → rest ≡ rest'
same_unexpected spells text ls us rest rest' h k p q = one_unexpected spells ls rest rest' p (subst (λ ts. IsUnexpected spells ts rest') (one_list text us ls k h) q)

-- two tokens of a text that open a level too many are one
same_deep : {X : Type 0} (spells : ℕ → Lexemes → X → Type 0) (text : List ℕ) (ls us : Lexemes) (token token' : Lexeme) (rest rest' : Lexemes)
    → HasLexemes text ls → HasLexemes text us → IsTooDeep spells ls token rest → IsTooDeep spells us token' rest' → token ∷ rest ≡ token' ∷ rest'
same_deep spells text ls us token token' rest rest' h k p q =
    let r : IsTooDeep spells ls token' rest' = subst (λ ts. IsTooDeep spells ts token' rest') (one_list text us ls k h) q in
    (one_stop spells ls p.before (token ∷ rest) r.before (token' ∷ rest') (deep_stops spells ls token rest p) (deep_stops spells ls token' rest' r)).1

-- no text has an unexpected token and one that opens a level too many
no_both : {X : Type 0} (spells : ℕ → Lexemes → X → Type 0) (text : List ℕ) (ls us rest : Lexemes) (token : Lexeme) (rest' : Lexemes)
    → HasLexemes text ls → HasLexemes text us → IsUnexpected spells ls rest → IsTooDeep spells us token rest' → ⊥
no_both spells text ls us rest token rest' h k p q = not_both spells ls rest token rest' p (subst (λ ts. IsTooDeep spells ts token rest') (one_list text us ls k h) q)

-- A text has one refusal of a kind.
pub one_refusal_of : {X : Type 0} (spells : ℕ → Lexemes → X → Type 0) (text : List ℕ) (refusal other : ParseRefusal) → IsRefusalOf spells text refusal → IsRefusalOf spells text other → refusal ≡ other
one_refusal_of spells text (Lex r) (Lex r') p q = ap Lex (one_lexer_refusal text r r' p q)
one_refusal_of spells text (Lex r) (Unexpected n) p q = absurd (lexemes_or_refusal text q.0 r q.1 p)
one_refusal_of spells text (Lex r) (TooDeep n) p q = absurd (lexemes_or_refusal text q.0 r q.1 p)
one_refusal_of spells text (Lex r) Memory p q = absurd q
one_refusal_of spells text (Unexpected n) (Lex r) p q = absurd (lexemes_or_refusal text p.0 r p.1 q)
one_refusal_of spells text (Unexpected n) (Unexpected m) p q =
    ap Unexpected (p.4 ∙ ap (start_of text) (same_unexpected spells text p.0 q.0 p.2 q.2 p.1 q.1 p.3 q.3) ∙ sym q.4)
one_refusal_of spells text (Unexpected n) (TooDeep m) p q = absurd (no_both spells text p.0 q.0 p.2 q.2 q.3 p.1 q.1 p.3 q.4)
one_refusal_of spells text (Unexpected n) Memory p q = absurd q
one_refusal_of spells text (TooDeep n) (Lex r) p q = absurd (lexemes_or_refusal text p.0 r p.1 q)
one_refusal_of spells text (TooDeep n) (Unexpected m) p q = absurd (no_both spells text q.0 p.0 q.2 p.2 p.3 q.1 p.1 q.3 p.4)
one_refusal_of spells text (TooDeep n) (TooDeep m) p q =
    ap TooDeep (p.5 ∙ ap (start_of text) (same_deep spells text p.0 q.0 p.2 q.2 p.3 q.3 p.1 q.1 p.4 q.4) ∙ sym q.5)
one_refusal_of spells text (TooDeep n) Memory p q = absurd q
one_refusal_of spells text Memory other p q = absurd p

-- A text has one refusal as a program.
pub one_refusal : (text : List ℕ) (refusal other : ParseRefusal) → IsRefusal text refusal → IsRefusal text other → refusal ≡ other
one_refusal text refusal other p q = one_refusal_of SpellsWithin text refusal other p q

-- A text has one refusal as an expression.
pub one_expression_refusal : (text : List ℕ) (refusal other : ParseRefusal) → IsExpressionRefusal text refusal → IsExpressionRefusal text other → refusal ≡ other
one_expression_refusal text refusal other p q = one_refusal_of SpellsExpressionWithin text refusal other p q

-- NOT BOTH

-- A text that spells a tree has no refusal.
pub tree_or_refusal : {X : Type 0} (spells : ℕ → Lexemes → X → Type 0) (text : List ℕ) (x : X) (refusal : ParseRefusal) → IsTreeOf spells text x → IsRefusalOf spells text refusal → ⊥
tree_or_refusal spells text x (Lex r) p q = lexemes_or_refusal text p.0 r p.1 q
tree_or_refusal spells text x (Unexpected n) p q =
    tree_has_none spells q.0 q.3.before q.2 x (unexpected_stops spells q.0 q.2 q.3) (subst (λ ls. spells most_levels ls x) (one_list text p.0 q.0 p.1 q.1) p.2)
tree_or_refusal spells text x (TooDeep n) p q =
    tree_has_none spells q.0 q.4.before (q.2 ∷ q.3) x (deep_stops spells q.0 q.2 q.3 q.4) (subst (λ ls. spells most_levels ls x) (one_list text p.0 q.0 p.1 q.1) p.2)
tree_or_refusal spells text x Memory p q = q

-- A text that spells a program has no refusal as one.
pub program_or_refusal : (text : List ℕ) (x : List Declaration) (refusal : ParseRefusal) → IsProgramOf text x → IsRefusal text refusal → ⊥
program_or_refusal text x refusal p q = tree_or_refusal SpellsWithin text x refusal p q

-- A text that is an expression has no refusal as one.
pub expression_or_refusal : (text : List ℕ) (x : Exp) (refusal : ParseRefusal) → IsExpressionOf text x → IsExpressionRefusal text refusal → ⊥
expression_or_refusal text x refusal p q = tree_or_refusal SpellsExpressionWithin text x refusal p q
