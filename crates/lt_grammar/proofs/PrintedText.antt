-- What a program that a text spells is printed as spells the same program.
use Rattle.std.proofs.Common.{◌≡◌, ℕ, List, [], ◌∷◌, ◌++◌, map, append_assoc, append-nil, refl, sym, ◌∙◌, ap, subst, IsTrue}
use Rattle.std.specs.List.{AllByRecursion}
use Rattle.std.proofs.lemmas.List.{map-append}
use Rattle.std.proofs.lemmas.Grind.{flat_map-append}
use Rattle.lt_ast.specs.declared.sign.Sign.{Sign}
use Rattle.lt_ast.specs.declared.sign.Sign.TheVariants as t
use Rattle.lt_ast.specs.declared.span.Span.{Span}
use Rattle.lt_ast.specs.Printed.{spaced, line, printed}
use Rattle.lt_ast.specs.Signs.{spelled}
use Rattle.lt_ast.specs.Syntax as s
use Rattle.lt_ast.specs.Syntax.{Declaration}
use Rattle.lt_ast.specs.Tokens.{Written, declaration_tokens, tokens_of}
use Rattle.lt_lexer.specs.Apart.{Spaced, apart, unplaced_token}
use Rattle.lt_lexer.specs.Byte.{is_blank}
use Rattle.lt_lexer.specs.Source.{token_bytes, IsSign}
use Rattle.lt_lexer.specs.declared.token.Token.{Token}
use Rattle.lt_lexer.specs.declared.token.TokenKind.{TokenKind}
use Rattle.lt_lexer.specs.declared.token.TokenKind.TheVariants as kind
use Rattle.lt_lexer.proofs.Public.{reads_apart}
use Rattle.lt_grammar.specs.Lexemes.{Lexemes, lexeme}
use Rattle.lt_grammar.specs.PrintedText.{PrintedReadsBack, PrintsItsTokens}
use Rattle.lt_grammar.specs.Text.{AreLexemesOf, IsProgramOf}
use Rattle.lt_grammar.specs.Unplaced.{AreAlike, unplaced}
use Rattle.lt_grammar.specs.Written.{written_of, IsSpelled, AreSpelled}
use Rattle.lt_grammar.proofs.Unplaced.{spelled_elsewhere}
use Rattle.lt_grammar.proofs.Written.{written_as_spelled}
use Rattle.lt_grammar.specs.Nesting.{most_levels}

-- THE PRINTED TEXT AS TOKENS SET APART

-- a token's bytes with a blank after them, and such rows for the tokens after it; after the last one stands a line feed
abbrev rows_from : List ℕ → List Written → List Spaced
rows_from w [] = record { bytes = w; blank = 10 } ∷ []
rows_from w (u ∷ us) = record { bytes = w; blank = 32 } ∷ rows_from u.text us

-- rows for the tokens of a line
abbrev rows_of_line : List Written → List Spaced
rows_of_line [] = []
rows_of_line (t ∷ ts) = rows_from t.text ts

-- rows for the tokens of a program
abbrev rows_of : List Declaration → List Spaced
rows_of [] = []
rows_of (d ∷ ds) = rows_of_line (declaration_tokens d) ++ rows_of ds

-- the bytes of each row
abbrev row_bytes : List Spaced → List (List ℕ)
row_bytes rows = map (λ row. row.bytes) rows

-- the bytes of each token
abbrev token_texts : List Written → List (List ℕ)
token_texts ts = map (λ t. t.text) ts

-- what is to be a blank is one, in each row
abbrev AreBlank : List Spaced → Type 0
AreBlank rows = AllByRecursion (λ row. IsTrue (is_blank row.blank)) rows

-- the text of rows is their line
apart_from : (w : List ℕ) (us : List Written) → apart (rows_from w us) ≡ (w ++ spaced us) ++ (10 ∷ [])
apart_from w [] = append-nil (w ++ (10 ∷ [])) ∙ ap (λ l. l ++ (10 ∷ [])) (sym (append-nil w))
apart_from w (u ∷ us) =
    append_assoc w (32 ∷ []) (apart (rows_from u.text us))
    ∙ ap (λ l. w ++ (32 ∷ l)) (apart_from u.text us)
    ∙ sym (append_assoc w (32 ∷ (u.text ++ spaced us)) (10 ∷ []))

-- rows have the bytes of the tokens
bytes_from : (w : List ℕ) (us : List Written) → row_bytes (rows_from w us) ≡ w ∷ token_texts us
bytes_from w [] = refl
bytes_from w (u ∷ us) = ap (λ l. w ∷ l) (bytes_from u.text us)

-- and each has a blank after its token
blanks_from : (w : List ℕ) (us : List Written) → AreBlank (rows_from w us)
blanks_from w [] = (refl, tt)
blanks_from w (u ∷ us) = (refl, blanks_from u.text us)

-- A declaration has a first token.
record HasFirst (ts : List Written) : Type 0 where
  first : Written
  more : List Written
  parts : ts ≡ first ∷ more

-- it has one, by its kind
has_first : (d : Declaration) → HasFirst (declaration_tokens d)
has_first (s.node w ins outs rs x) = record { first = _; more = _; parts = refl }
has_first (s.macro_declaration m) = record { first = _; more = _; parts = refl }
has_first (s.exception_declaration ws) = record { first = _; more = _; parts = refl }

-- the text of a line's rows is the line, where there is a first token
apart_line : (ts : List Written) → HasFirst ts → apart (rows_of_line ts) ≡ line ts
apart_line [] h = let untrue : [] ≡ h.first ∷ h.more = h.parts in absurd (cc untrue)
apart_line (t ∷ ts) h = apart_from t.text ts

-- a line's rows have the bytes of its tokens
bytes_line : (ts : List Written) → row_bytes (rows_of_line ts) ≡ token_texts ts
bytes_line [] = refl
bytes_line (t ∷ ts) = bytes_from t.text ts

-- and each has a blank after its token
blanks_line : (ts : List Written) → AreBlank (rows_of_line ts)
blanks_line [] = tt
blanks_line (t ∷ ts) = blanks_from t.text ts

-- the text of a program's rows is what it is printed as
apart_printed : (ds : List Declaration) → apart (rows_of ds) ≡ printed ds
apart_printed [] = refl
apart_printed (d ∷ ds) =
    flat_map-append (λ row. row.bytes ++ (row.blank ∷ [])) (rows_of_line (declaration_tokens d)) (rows_of ds)
    ∙ (λ i. apart_line (declaration_tokens d) (has_first d) i ++ apart_printed ds i)

-- a program's rows have the bytes of its tokens
bytes_printed : (ds : List Declaration) → row_bytes (rows_of ds) ≡ token_texts (tokens_of ds)
bytes_printed [] = refl
bytes_printed (d ∷ ds) =
    map-append (λ (row : Spaced). row.bytes) (rows_of_line (declaration_tokens d)) (rows_of ds)
    ∙ (λ i. bytes_line (declaration_tokens d) i ++ bytes_printed ds i)
    ∙ sym (map-append (λ (t : Written). t.text) (declaration_tokens d) (tokens_of ds))

-- what holds of the blanks of two lists of rows holds of both together
blanks_append : (rows more : List Spaced) → AreBlank rows → AreBlank more → AreBlank (rows ++ more)
blanks_append [] more h k = k
blanks_append (row ∷ rows) more h k = (h.0, blanks_append rows more h.1 k)

-- and each has a blank after its token
blanks_printed : (ds : List Declaration) → AreBlank (rows_of ds)
blanks_printed [] = tt
blanks_printed (d ∷ ds) = blanks_append (rows_of_line (declaration_tokens d)) (rows_of ds) (blanks_line (declaration_tokens d)) (blanks_printed ds)

-- THE LEXEMES OF A TEXT, WRITTEN

-- a lexeme of a text has the letters of its sign, by its sign
is_spelled : (text : List ℕ) (token : Token) (sign : Sign) (w : List ℕ) (at : Span) → IsSign text token sign → w ≡ token_bytes text token → IsSpelled (lexeme sign w at)
is_spelled text token t.Name w at h e = tt
is_spelled text token t.Number w at h e = tt
is_spelled text token sign w at h e = e ∙ h

-- Each lexeme of a text has the letters of its sign.
pub are_spelled : (text : List ℕ) (tokens : List Token) (ls : Lexemes) → AreLexemesOf text tokens ls → AreSpelled ls
are_spelled text [] [] h = tt
are_spelled text [] (l ∷ ls) h = absurd h
are_spelled text (token ∷ tokens) [] h = absurd h
are_spelled text (token ∷ tokens) (lexeme sign w at ∷ ls) h = (is_spelled text token sign w at h.0.0 h.0.1, are_spelled text tokens ls h.1)

-- A text's program is printed with the text's own tokens.
pub prints_its_tokens : PrintsItsTokens
prints_its_tokens = λ text ls x has spells. written_as_spelled most_levels ls x (are_spelled text has.0 ls has.2) spells

-- the bytes of tokens are the letters of their lexemes
bytes_of_lexemes : (text : List ℕ) (tokens : List Token) (ls : Lexemes) → AreLexemesOf text tokens ls → token_texts (map written_of ls) ≡ map (token_bytes text) tokens
bytes_of_lexemes text [] [] h = refl
bytes_of_lexemes text [] (l ∷ ls) h = absurd h
bytes_of_lexemes text (token ∷ tokens) [] h = absurd h
bytes_of_lexemes text (token ∷ tokens) (lexeme sign w at ∷ ls) h = λ i. h.0.1 i ∷ bytes_of_lexemes text tokens ls h.1 i

-- THE SAME TOKENS IN ANOTHER TEXT

-- which sign a token of this kind with these bytes is
abbrev IsSignBy : TokenKind → List ℕ → Sign → Type 0
IsSignBy k w t.Name = (k ≡ kind.Word) × ((sign : Sign) → w ≡ spelled sign → ⊥)
IsSignBy k w t.Number = k ≡ kind.Number
IsSignBy k w sign = w ≡ spelled sign

-- a token's sign is told by its kind and its bytes
sign_by : (text : List ℕ) (token : Token) (sign : Sign) → IsSign text token sign → IsSignBy token.kind (token_bytes text token) sign
sign_by text token t.Name h = h
sign_by text token t.Number h = h
sign_by text token sign h = h

-- so a sign of its kind and its bytes is its sign
by_sign : (text : List ℕ) (token : Token) (sign : Sign) → IsSignBy token.kind (token_bytes text token) sign → IsSign text token sign
by_sign text token t.Name h = h
by_sign text token t.Number h = h
by_sign text token sign h = h

-- a token with the same kind and bytes in another text is the same sign
same_sign : (text other : List ℕ) (token token' : Token) (sign : Sign) → token'.kind ≡ token.kind → token_bytes other token' ≡ token_bytes text token → IsSign text token sign → IsSign other token' sign
same_sign text other token token' sign k w h =
    by_sign other token' sign (subst (λ j. IsSignBy j (token_bytes other token') sign) (sym k) (subst (λ l. IsSignBy token.kind l sign) (sym w) (sign_by text token sign h)))

-- Tokens of another text have lexemes like these.
abbrev HasAlike : List ℕ → List Token → Lexemes → Type 0
HasAlike other others ls = (us : Lexemes) × AreLexemesOf other others us × AreAlike ls us

-- they have, where they are the same tokens but for their places
has_alike : (text other : List ℕ) (tokens others : List Token) (ls : Lexemes) → map (unplaced_token other) others ≡ map (unplaced_token text) tokens → AreLexemesOf text tokens ls → HasAlike other others ls
has_alike text other [] [] [] e h = ([], tt, tt)
has_alike text other [] (o ∷ os) [] e h = absurd (cc e)
has_alike text other [] others (l ∷ ls) e h = absurd h
has_alike text other (token ∷ tokens) others [] e h = absurd h
has_alike text other (token ∷ tokens) [] (l ∷ ls) e h = absurd (cc e)
has_alike text other (token ∷ tokens) (o ∷ os) (lexeme sign w at ∷ ls) e h =
    let first : unplaced_token other o ≡ unplaced_token text token = cc e in
    let k : o.kind ≡ token.kind = ap (λ u. u.kind) first in
    let bytes : token_bytes other o ≡ token_bytes text token = ap (λ u. u.bytes) first in
    let rest = has_alike text other tokens os ls (cc e) h.1 in
    (lexeme sign w o.span ∷ rest.0, ((same_sign text other token o sign k bytes h.0.0, h.0.1 ∙ sym bytes, refl), rest.1), ((refl, refl), rest.2))

-- THE PRINTED PROGRAM

-- the text of a program's rows spells the same program, but for the places
reads_rows : (text : List ℕ) (x : List Declaration) → IsProgramOf text x → (y : List Declaration) × IsProgramOf (apart (rows_of x)) y × (unplaced y ≡ unplaced x)
reads_rows text x p =
    let ls = p.0 in
    let tokens = p.1.0 in
    let written : map written_of ls ≡ tokens_of x = written_as_spelled most_levels ls x (are_spelled text tokens ls p.1.2) p.2 in
    let bytes : row_bytes (rows_of x) ≡ map (token_bytes text) tokens = bytes_printed x ∙ ap token_texts (sym written) ∙ bytes_of_lexemes text tokens ls p.1.2 in
    let r = reads_apart text tokens (rows_of x) p.1.1 bytes (blanks_printed x) in
    let a = has_alike text (apart (rows_of x)) tokens r.0 ls r.2 p.1.2 in
    let z = spelled_elsewhere most_levels ls a.0 x a.2 p.2 in
    (z.0, (a.0, (r.0, r.1, a.1), z.1), z.2)

-- What a program that a text spells is printed as spells the same program, but for the places.
pub printed_reads_back : PrintedReadsBack
printed_reads_back = λ text x p.
    let r = reads_rows text x p in
    (r.0, subst (λ l. IsProgramOf l r.0) (apart_printed x) r.1, r.2)
