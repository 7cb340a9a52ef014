-- What tokens a text has, and why a text has none.
use Rattle.std.specs.Prelude.{◌≡◌, ℕ, ◌+◌, ◌-◌, ◌<◌, false, IsTrue, List, [], ◌∷◌, ◌++◌, length, count_by, codes}
use Rattle.std.specs.Char.{is_ascii_digit}
use Rattle.lt_num.specs.Bounds.{most_digits}
use Rattle.lt_num.specs.Literal.{is_number}
use Rattle.lt_lexer.specs.Byte.{is_blank}
use Rattle.lt_lexer.specs.Piece.{Piece, blank, line_comment, block_comment, token, bytes_of, IsPiece, IsToken, IsLongest, begins_comment, HasClose}
use Rattle.lt_lexer.specs.declared.token.Token.{Token}
use Rattle.lt_lexer.specs.declared.token.TokenKind.{TokenKind}
use Rattle.lt_lexer.specs.declared.refusal.LexRefusal.{LexRefusal}
use Rattle.lt_lexer.specs.declared.refusal.LexRefusal.TheVariants.{BadByte, OpenComment, NumberTooLong}

-- the text is these pieces one after another, and then the rest
abbrev pub Divides : List ℕ → List Piece → List ℕ → Type 0
Divides text [] rest = text ≡ rest
Divides text (p ∷ ps) rest =
    (after : List ℕ) × (text ≡ bytes_of p ++ after) × IsPiece p after × Divides after ps rest

-- the token that a piece at a place is, if it is one
abbrev pub token_at : ℕ → Piece → List Token
token_at place (blank b) = []
token_at place (line_comment bytes) = []
token_at place (block_comment bytes) = []
token_at place (token kind bytes) =
    record { kind = kind; span = record { start = place; end = place + length bytes } } ∷ []

-- the tokens among pieces of which the first one stands at a place
abbrev pub tokens_from : ℕ → List Piece → List Token
tokens_from place [] = []
tokens_from place (p ∷ ps) = token_at place p ++ tokens_from (place + length (bytes_of p)) ps

-- the text divides into pieces from end to end, and these are its tokens
pub record IsTokenization (text : List ℕ) (tokens : List Token) : Type 0 where
  pub pieces : List Piece
  pub divides : Divides text pieces []
  pub are : tokens ≡ tokens_from 0 pieces

-- no piece begins here: no blank, no comment and no token
pub record IsBad (text : List ℕ) : Type 0 where
  pub byte : ℕ
  pub after : List ℕ
  pub parts : text ≡ byte ∷ after
  pub no_blank : is_blank byte ≡ false
  pub no_comment : begins_comment text ≡ false
  pub no_token : (kind : TokenKind) (front rest : List ℕ) → text ≡ front ++ rest → IsToken kind front → ⊥

-- a block comment begins here, and is never closed
pub record IsOpen (text : List ℕ) : Type 0 where
  pub inside : List ℕ
  pub parts : text ≡ codes "(*" ++ inside
  pub no_close : HasClose inside → ⊥

-- a number begins here that has more digits than it may have
pub record IsTooLong (text : List ℕ) : Type 0 where
  pub bytes : List ℕ
  pub after : List ℕ
  pub parts : text ≡ bytes ++ after
  pub number : IsTrue (is_number bytes)
  pub longest : IsLongest bytes after
  pub digits : most_digits < count_by is_ascii_digit bytes

-- what can be wrong at a place
pub data Flaw : Type 0 where
  bad_byte : Flaw
  open_comment : Flaw
  number_too_long : Flaw

-- what is wrong with a text at its front
abbrev pub Fails : Flaw → List ℕ → Type 0
Fails bad_byte text = IsBad text
Fails open_comment text = IsOpen text
Fails number_too_long text = IsTooLong text

-- the refusal that tells it, with its place
abbrev pub refusal_at : Flaw → ℕ → LexRefusal
refusal_at bad_byte place = BadByte place
refusal_at open_comment place = OpenComment place
refusal_at number_too_long place = NumberTooLong place

-- the text divides into pieces up to a place at which this is wrong; no text divides in two ways, so it is the first such
-- place from the left
pub record IsRefusal (text : List ℕ) (refusal : LexRefusal) : Type 0 where
  pub pieces : List Piece
  pub rest : List ℕ
  pub divides : Divides text pieces rest
  pub flaw : Flaw
  pub fails : Fails flaw rest
  pub is : refusal ≡ refusal_at flaw (length text - length rest)
