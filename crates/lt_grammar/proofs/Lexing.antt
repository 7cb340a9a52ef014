-- The tokens of a text as the grammar sees them.
use Rattle.std.proofs.Common.{◌≡◌, ℕ, List, [], ◌∷◌, refl, sym, ◌∙◌, subst}
use Rattle.lt_lexer.specs.Source.{token_bytes, IsTokenOf, StandInTurn}
use Rattle.lt_lexer.specs.Tokenization.{IsTokenization}
use Rattle.lt_lexer.specs.declared.token.Token.{Token}
use Rattle.lt_lexer.proofs.Public.{one_sign, one_tokenization, some_sign, stand_in_turn}
use Rattle.lt_grammar.specs.Lexemes.{Lexeme, Lexemes, lexeme}
use Rattle.lt_grammar.specs.Text.{IsLexemeOf, AreLexemesOf, HasLexemes}

-- a token is one lexeme
one_lexeme : (text : List ℕ) (token : Token) (l l' : Lexeme) → IsTokenOf text token → IsLexemeOf text token l → IsLexemeOf text token l' → l ≡ l'
one_lexeme text token (lexeme sign w at) (lexeme sign' w' at') h p q =
    let same = one_sign text token sign sign' h p.0 q.0 in
    let letters : w ≡ w' = p.1 ∙ sym q.1 in
    let place : at ≡ at' = p.2 ∙ sym q.2 in
    λ i. lexeme (same i) (letters i) (place i)

-- tokens that stand in turn have one list of lexemes
one_row : (text : List ℕ) (from : ℕ) (tokens : List Token) (ls us : Lexemes) → StandInTurn text from tokens → AreLexemesOf text tokens ls → AreLexemesOf text tokens us → ls ≡ us
one_row text from [] [] [] h p q = refl
one_row text from [] [] (u ∷ us) h p q = absurd q
one_row text from [] (l ∷ ls) us h p q = absurd p
one_row text from (token ∷ tokens) [] us h p q = absurd p
one_row text from (token ∷ tokens) (l ∷ ls) [] h p q = absurd q
one_row text from (token ∷ tokens) (l ∷ ls) (u ∷ us) h p q =
    let first = one_lexeme text token l u h.2 p.0 q.0 in
    let rest = one_row text token.span.end tokens ls us h.4 p.1 q.1 in
    λ i. first i ∷ rest i

-- A text has one list of lexemes.
pub one_list : (text : List ℕ) (ls us : Lexemes) → HasLexemes text ls → HasLexemes text us → ls ≡ us
one_list text ls us h k =
    let same = one_tokenization text k.0 h.0 k.1 h.1 in
    one_row text 0 h.0 ls us (stand_in_turn text h.0 h.1) h.2 (subst (λ tokens. AreLexemesOf text tokens us) same k.2)

-- tokens that stand in turn have some list of lexemes
some_row : (text : List ℕ) (from : ℕ) (tokens : List Token) → StandInTurn text from tokens → (ls : Lexemes) × AreLexemesOf text tokens ls
some_row text from [] h = ([], tt)
some_row text from (token ∷ tokens) h =
    let s = some_sign text token h.2 in
    let rest = some_row text token.span.end tokens h.4 in
    (lexeme s.0 (token_bytes text token) token.span ∷ rest.0, ((s.1, refl, refl), rest.1))

-- A text with tokens has lexemes.
pub some_list : (text : List ℕ) (tokens : List Token) → IsTokenization text tokens → (ls : Lexemes) × HasLexemes text ls
some_list text tokens h = let r = some_row text 0 tokens (stand_in_turn text tokens h) in (r.0, (tokens, h, r.1))
