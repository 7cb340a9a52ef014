-- How the first piece of a text is found: the middle between the rules and the code.
use Rattle.std.specs.Prelude.{◌≡◌, ℕ, Bool, nat_le, List, [], ◌∷◌, ◌++◌, drop, length, count_by, Some, None, Ok, Err, if◌then◌else◌, codes}
use Rattle.std.specs.declared.option.Option.{Option}
use Rattle.std.specs.declared.result.Result.{Result}
use Rattle.std.specs.Char.{is_ascii_digit, is_ascii_alphabetic}
use Rattle.lt_num.specs.Bounds.{most_digits}
use Rattle.lt_num.specs.Literal.{is_point}
use Rattle.lt_ast.specs.Signs.{spelled}
use Rattle.lt_ast.specs.declared.sign.Sign.{Sign}
use Rattle.lt_lexer.specs.Byte.{is_blank, is_word_byte, is_in_line, begins_with}
use Rattle.lt_lexer.specs.Piece.{Piece, blank, line_comment, block_comment, token, bytes_of, begins_line_comment, begins_block_comment, kind_of}
use Rattle.lt_lexer.specs.Tokenization.{Flaw, bad_byte, open_comment, number_too_long, refusal_at}
use Rattle.lt_lexer.specs.inner.Spelling.{first_symbol}
use Rattle.lt_lexer.specs.declared.token.TokenKind.TheVariants.{Word, Number, Symbol}
use Rattle.lt_lexer.specs.declared.refusal.LexRefusal.{LexRefusal}
use Rattle.lt_lexer.specs.declared.piece.Piece as code

-- the bytes at the front that pass a test
abbrev pub leading : (ℕ → Bool) → List ℕ → List ℕ
leading p [] = []
leading p (b ∷ bs) = if p b then b ∷ leading p bs else []

-- and those after them
abbrev pub after_leading : (ℕ → Bool) → List ℕ → List ℕ
after_leading p [] = []
after_leading p (b ∷ bs) = if p b then after_leading p bs else b ∷ bs

-- what is first in a text: nothing, where it is over, a piece and what follows it, or a flaw
pub data Next : Type 0 where
  done : Next
  next : Piece → List ℕ → Next
  fails : Flaw → Next

-- the bytes up to the next *), and those after it
pub record Comment : Type 0 where
  pub inside : List ℕ
  pub after : List ℕ

-- a comment cut so, with one byte more before it
abbrev pub comment_more : ℕ → Option Comment → Option Comment
comment_more b None = None
comment_more b (Some parts) = Some (record { inside = b ∷ parts.inside; after = parts.after })

-- the text after a (*, cut at the first *)
abbrev pub closed : List ℕ → Option Comment
closed [] = None
closed (b ∷ bs) =
    if begins_with (codes "*)") (b ∷ bs) then Some (record { inside = []; after = drop 1 bs })
    else comment_more b (closed bs)

-- a comment by where it is closed
abbrev pub next_comment : Option Comment → Next
next_comment None = fails open_comment
next_comment (Some parts) = next (block_comment parts.inside) parts.after

-- the bytes of a number after its first digits: a point, and digits
abbrev pub fraction : List ℕ → List ℕ
fraction [] = []
fraction (b ∷ bs) = if is_point b then b ∷ leading is_ascii_digit bs else []

-- and what follows them
abbrev pub after_fraction : List ℕ → List ℕ
after_fraction [] = []
after_fraction (b ∷ bs) = if is_point b then after_leading is_ascii_digit bs else b ∷ bs

-- the number at the front, where the text begins with a digit
abbrev pub number_bytes : List ℕ → List ℕ
number_bytes text = leading is_ascii_digit text ++ fraction (after_leading is_ascii_digit text)

-- that number as a piece, where it isn't too long
abbrev pub next_number : List ℕ → Next
next_number text =
    if nat_le (count_by is_ascii_digit (number_bytes text)) most_digits
    then next (token Number (number_bytes text)) (after_fraction (after_leading is_ascii_digit text))
    else fails number_too_long

-- the symbol at the front as a piece, where there is one
abbrev pub next_symbol : List ℕ → Option Sign → Next
next_symbol text None = fails bad_byte
next_symbol text (Some sign) = next (token Symbol (spelled sign)) (drop (length (spelled sign)) text)

-- what is first in a text, by its first bytes
abbrev pub next_of : List ℕ → Next
next_of [] = done
next_of (b ∷ bs) =
    if begins_line_comment (b ∷ bs) then next (line_comment (leading is_in_line (drop 1 bs))) (after_leading is_in_line (drop 1 bs))
    else (if begins_block_comment (b ∷ bs) then next_comment (closed (drop 1 bs))
    else (if is_blank b then next (blank b) bs
    else (if is_ascii_alphabetic b then next (token Word (b ∷ leading is_word_byte bs)) (after_leading is_word_byte bs)
    else (if is_ascii_digit b then next_number (b ∷ bs)
    else next_symbol (b ∷ bs) (first_symbol (b ∷ bs))))))

-- what the code answers at a place is the first piece of the text from there on
abbrev pub Gives : ℕ → Result code.Piece LexRefusal → Next → Type 0
Gives place (Ok p) (next q after) = (p.kind ≡ kind_of q) × (p.len ≡ length (bytes_of q))
Gives place (Err refusal) (fails flaw) = refusal ≡ refusal_at flaw place
Gives place (Ok p) done = ⊥
Gives place (Ok p) (fails flaw) = ⊥
Gives place (Err refusal) done = ⊥
Gives place (Err refusal) (next q after) = ⊥
