-- The pieces of a text: blanks, comments and tokens.
use Rattle.std.specs.Prelude.{◌≡◌, ℕ, ◌≤◌, Bool, false, ◌&&◌, ◌||◌, IsTrue, List, [], ◌∷◌, ◌++◌, length, count_by, codes, Some, None}
use Rattle.std.specs.declared.option.Option.{Option}
use Rattle.std.specs.List.{list_all}
use Rattle.std.specs.Char.{is_ascii_digit, is_ascii_alphabetic}
use Rattle.lt_num.specs.Bounds.{most_digits}
use Rattle.lt_num.specs.Literal.{is_number}
use Rattle.lt_lexer.specs.Byte.{is_blank, is_word_byte, is_in_line, line_feed, begins_with}
use Rattle.lt_lexer.specs.Symbol.{IsSymbol}
use Rattle.lt_lexer.specs.declared.token.TokenKind.{TokenKind}
use Rattle.lt_lexer.specs.declared.token.TokenKind.TheVariants.{Word, Number, Symbol}

-- a letter, and letters, digits and _ after it
abbrev pub is_word : List ℕ → Bool
is_word [] = false
is_word (b ∷ bs) = is_ascii_alphabetic b && list_all is_word_byte bs

-- the bytes are a token of a kind, however many digits a number has
abbrev pub IsToken : TokenKind → List ℕ → Type 0
IsToken Word bytes = IsTrue (is_word bytes)
IsToken Number bytes = IsTrue (is_number bytes)
IsToken Symbol bytes = IsSymbol bytes

-- where this follows, no longer front of the text is a token
abbrev pub IsLongest : List ℕ → List ℕ → Type 0
IsLongest bytes after =
    (kind : TokenKind) (front rest : List ℕ) → bytes ++ after ≡ front ++ rest → IsToken kind front → length front ≤ length bytes

-- if it is a number, it has no more digits than it may have
abbrev pub IsShort : TokenKind → List ℕ → Type 0
IsShort Word bytes = Unit {0}
IsShort Number bytes = count_by is_ascii_digit bytes ≤ most_digits
IsShort Symbol bytes = Unit {0}

-- a comment up to the end of the line begins with --
abbrev pub begins_line_comment : List ℕ → Bool
begins_line_comment text = begins_with (codes "--") text

-- one up to its close begins with (*
abbrev pub begins_block_comment : List ℕ → Bool
begins_block_comment text = begins_with (codes "(*") text

-- either of them begins here
abbrev pub begins_comment : List ℕ → Bool
begins_comment text = begins_line_comment text || begins_block_comment text

-- somewhere in the bytes stands *), the close of a comment
abbrev pub HasClose : List ℕ → Type 0
HasClose bytes = (before after : List ℕ) × (bytes ≡ before ++ (codes "*)" ++ after))

-- the text is over, or goes on with a line feed
abbrev pub IsLineEnd : List ℕ → Type 0
IsLineEnd [] = Unit {0}
IsLineEnd (b ∷ bs) = b ≡ line_feed

-- what a text divides into
pub data Piece : Type 0 where
  -- one blank byte
  blank : ℕ → Piece
  -- what stands after `--`
  line_comment : List ℕ → Piece
  -- what stands between (* and *)
  block_comment : List ℕ → Piece
  -- the bytes of a token
  token : TokenKind → List ℕ → Piece

-- the bytes of a piece, one after another as they stand in the text
abbrev pub bytes_of : Piece → List ℕ
bytes_of (blank b) = b ∷ []
bytes_of (line_comment bytes) = codes "--" ++ bytes
bytes_of (block_comment bytes) = codes "(*" ++ (bytes ++ codes "*)")
bytes_of (token kind bytes) = bytes

-- which kind of token a piece is, if it is one
abbrev pub kind_of : Piece → Option TokenKind
kind_of (blank b) = None
kind_of (line_comment bytes) = None
kind_of (block_comment bytes) = None
kind_of (token kind bytes) = Some kind

-- the bytes are the token that the rules take where this follows
pub record IsTaken (kind : TokenKind) (bytes after : List ℕ) : Type 0 where
  pub is_token : IsToken kind bytes
  pub longest : IsLongest bytes after
  pub no_comment : begins_comment (bytes ++ after) ≡ false
  pub short : IsShort kind bytes

-- a piece is one that the rules take where this follows
abbrev pub IsPiece : Piece → List ℕ → Type 0
IsPiece (blank b) after = IsTrue (is_blank b)
-- up to the end of the line
IsPiece (line_comment bytes) after = IsTrue (list_all is_in_line bytes) × IsLineEnd after
-- up to the next *)
IsPiece (block_comment bytes) after = HasClose bytes → ⊥
IsPiece (token kind bytes) after = IsTaken kind bytes after
