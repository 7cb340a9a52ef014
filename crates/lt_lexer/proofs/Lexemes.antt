-- What tokens are read as.
use Rattle.std.proofs.Common.{◌≡◌, true, ℕ, ◌+◌, ◌-◌, ◌<◌, ◌≤◌, List, [], ◌∷◌, ◌++◌, length, drop, take, refl, ap, sym, ◌∙◌, arith, subst, Some, None, Ok, length-append, length-drop}
use Rattle.std.specs.Option.{unwrap_or}
use Rattle.std.proofs.lemmas.List.{drop_at, take_at, length-take}
use Rattle.lt_num.specs.Literal.{IsNumber}
use Rattle.lt_ast.specs.declared.sign.Sign.{Sign}
use Rattle.lt_ast.specs.declared.sign.Sign.TheVariants as s
use Rattle.lt_ast.specs.Signs.{spelled}
use Rattle.lt_lexer.specs.Piece.{Piece, token, bytes_of, IsPiece, kind_of, IsToken, IsShort}
use Rattle.lt_lexer.specs.Spelled.{has_own_letters}
use Rattle.lt_lexer.specs.Source.{token_bytes, IsTokenOf, IsSign, IsReadAs, AreReadAs, TextIsReadAs}
use Rattle.lt_lexer.specs.inner.Reading.{next_of, Gives}
use Rattle.lt_lexer.specs.inner.Spelling.{sign_spelled}
use Rattle.lt_lexer.specs.declared.piece.Piece as code
use Rattle.lt_lexer.specs.declared.lexeme.Lexeme.{Lexeme}
use Rattle.lt_lexer.specs.declared.token.Token.{Token}
use Rattle.lt_lexer.specs.declared.token.TokenKind.{TokenKind}
use Rattle.lt_lexer.specs.declared.token.TokenKind.TheVariants as kind
use Rattle.lt_lexer.proofs.Divisions.{bytes_some}
use Rattle.lt_lexer.proofs.Places.{all_bytes, divides-all_bytes}
use Rattle.lt_lexer.proofs.Progress.{ReadSoFar, first_of, token_read, none_read, all_read}
use Rattle.lt_lexer.proofs.Signs.{found_sign, symbol_found, word_sign}

-- ONE TOKEN

-- a token's sign is the one that is found, or else a name, by its kind, where it is no number
found_by : (text : List ℕ) (t : Token) (k : TokenKind) (sign : Sign) → t.kind ≡ k → (k ≡ kind.Number → ⊥) → IsTokenOf text t → sign ≡ unwrap_or (sign_spelled (token_bytes text t)) s.Name → IsSign text t sign
found_by text t kind.Word sign e n h is = word_sign text t (sign_spelled (token_bytes text t)) sign h e refl is
found_by text t kind.Number sign e n h is = absurd (n refl)
found_by text t kind.Symbol sign e n h is =
    let it = symbol_found text t h e in
    let P : Sign → Type 0 = IsSign text t in
    subst P (sym (is ∙ ap (λ o. unwrap_or o s.Name) it.1)) (found_sign text t it.0 it.1)

-- The sign of a word or a symbol is the one that is found, or else a name.
pub found_or_name : (text : List ℕ) (t : Token) (sign : Sign) → (t.kind ≡ kind.Number → ⊥) → IsTokenOf text t → sign ≡ unwrap_or (sign_spelled (token_bytes text t)) s.Name → IsSign text t sign
found_or_name text t sign n h is = found_by text t t.kind sign refl n h is

-- A sign other than a name and a number has the letters of its token.
pub own_letters : (text : List ℕ) (t : Token) (sign : Sign) → IsSign text t sign → (sign ≡ s.Name → ⊥) → (sign ≡ s.Number → ⊥) → spelled sign ≡ token_bytes text t
own_letters text t s.Name h n m = absurd (n refl)
own_letters text t s.Number h n m = absurd (m refl)
own_letters text t sign h n m = sym h

-- The letters of a token are those of its sign, where that has some of its own.
pub sign_letters : (text : List ℕ) (t : Token) (sign : Sign) → IsSign text t sign → has_own_letters sign ≡ true → token_bytes text t ≡ spelled sign
sign_letters text t s.Name g own = cc
sign_letters text t s.Number g own = cc
sign_letters text t sign g own = g

-- The letters of a number are one.
pub number_letters : (text : List ℕ) (t : Token) (sign : Sign) → IsTokenOf text t → IsSign text t sign → sign ≡ s.Number → IsNumber (token_bytes text t)
number_letters text t sign h g e =
    let P : Sign → Type 0 = IsSign text t in
    let is : t.kind ≡ kind.Number = subst P e g in
    record {
      form = subst (λ k. IsToken k (token_bytes text t)) is h.is_token;
      short = subst (λ k. IsShort k (token_bytes text t)) is h.short;
    }

-- A token ends as many bytes after its start as it has.
pub token_end : (text : List ℕ) (t : Token) → IsTokenOf text t → t.span.start + length (token_bytes text t) ≡ t.span.end
token_end text t h =
    let within : t.span.end ≤ length text = h.within in
    let ordered : t.span.start < t.span.end = h.ordered in
    omega (arith, length-take (t.span.end - t.span.start) (drop t.span.start text), length-drop t.span.start text)

-- WHERE A TOKEN STANDS

-- the token that the first piece of the rest is stands in the text, by what piece it is
stands_by : (text rest : List ℕ) (place : ℕ) (kind : TokenKind) (len : ℕ) (q : Piece) (after : List ℕ) → kind_of q ≡ Some kind → len ≡ length (bytes_of q) → IsPiece q after → rest ≡ bytes_of q ++ after → drop place text ≡ rest → place + length rest ≡ length text
    → IsTokenOf text (record { kind = kind; span = record { start = place; end = place + len } })
stands_by text rest place kind len (token k bytes) after e l taken parts here whole =
    let same : k ≡ kind = cc e in
    let some : 0 < length bytes = bytes_some (token k bytes) after taken in
    let lengths : length rest ≡ length bytes + length after = ap length parts ∙ length-append bytes after in
    let own : bytes ≡ take (place + len - place) (drop place text) = sym (ap (take (place + len - place)) (here ∙ parts) ∙ take_at bytes after (place + len - place) (omega arith)) in
    record {
      ordered = omega arith;
      within = omega arith;
      is_token = subst (IsToken kind) own (subst (λ j. IsToken j bytes) same taken.is_token);
      short = subst (IsShort kind) own (subst (λ j. IsShort j bytes) same taken.short);
    }
stands_by text rest place kind len q after e l taken parts here whole = absurd (cc e)

-- The token that the first piece of the rest is stands in the text.
pub stands : (text : List ℕ) (tokens : List Token) (rest : List ℕ) (p : code.Piece) (kind : TokenKind) (place : ℕ) → ReadSoFar text tokens rest → place ≡ length text - length rest → Gives place (Ok p) (next_of rest) → p.kind ≡ Some kind
    → IsTokenOf text (record { kind = kind; span = record { start = place; end = place + p.len } })
stands text tokens rest p kind place r e g k =
    let it = first_of place rest p g in
    let parts : text ≡ all_bytes r.pieces ++ rest = divides-all_bytes text r.pieces rest r.divides in
    let lengths : length text ≡ length (all_bytes r.pieces) + length rest = ap length parts ∙ length-append (all_bytes r.pieces) rest in
    let here : drop place text ≡ rest = ap (drop place) parts ∙ drop_at (all_bytes r.pieces) rest place (omega arith) in
    stands_by text rest place kind p.len it.piece it.after (sym it.kind ∙ k) it.len it.is_piece it.parts here (omega arith)

-- TOKENS IN TURN

-- what is read so far
pub record LexemesSoFar (text : List ℕ) (ls : List Lexeme) (rest : List ℕ) : Type 0 where
  pub tokens : List Token
  pub read : ReadSoFar text tokens rest
  pub are : AreReadAs text tokens ls

-- one more token, and what it is read as
more_lexemes : (text : List ℕ) (ts : List Token) (ls : List Lexeme) (t : Token) (l : Lexeme) → AreReadAs text ts ls → IsReadAs text t l → AreReadAs text (ts ++ t ∷ []) (ls ++ l ∷ [])
more_lexemes text [] [] t l h g = (g, tt)
more_lexemes text (u ∷ us) (v ∷ vs) t l h g = (h.0, more_lexemes text us vs t l h.1 g)
more_lexemes text [] (v ∷ vs) t l h g = absurd h
more_lexemes text (u ∷ us) [] t l h g = absurd h

-- A token is read.
pub lexeme_read : (text : List ℕ) (ls : List Lexeme) (rest : List ℕ) (p : code.Piece) (kind : TokenKind) (place : ℕ) (l : Lexeme) → LexemesSoFar text ls rest → place ≡ length text - length rest → Gives place (Ok p) (next_of rest) → p.kind ≡ Some kind
    → IsReadAs text (record { kind = kind; span = record { start = place; end = place + p.len } }) l → LexemesSoFar text (ls ++ l ∷ []) (drop p.len rest)
lexeme_read text ls rest p kind place l r e g k is = record {
  tokens = r.tokens ++ record { kind = kind; span = record { start = place; end = place + p.len } } ∷ [];
  read = token_read text r.tokens rest p kind place r.read e g k;
  are = more_lexemes text r.tokens ls _ l r.are is;
}

-- A blank or a comment is.
pub blank_read : (text : List ℕ) (ls : List Lexeme) (rest : List ℕ) (p : code.Piece) (place : ℕ) → LexemesSoFar text ls rest → place ≡ length text - length rest → Gives place (Ok p) (next_of rest) → p.kind ≡ None → LexemesSoFar text ls (drop p.len rest)
blank_read text ls rest p place r e g k = record { tokens = r.tokens; read = none_read text r.tokens rest p place r.read e g k; are = r.are }

-- At the end all are read.
pub all_lexemes : (text : List ℕ) (ls : List Lexeme) (rest : List ℕ) → LexemesSoFar text ls rest → length rest ≡ 0 → TextIsReadAs text ls
all_lexemes text ls rest r e = (r.tokens, all_read text r.tokens rest r.read e, r.are)
