-- The bytes of a token are letters.
use Rattle.std.proofs.Common.{◌≡◌, ℕ, ◌<◌, Bool, true, false, IsTrue, ◌&&◌, nat_lt, List, [], ◌∷◌, refl, sym, arith, subst}
use Rattle.std.specs.List.{list_all}
use Rattle.std.specs.Char.{is_ascii_digit, is_ascii_alphabetic}
use Rattle.std.specs.Str.{IsAscii, IsUtf8}
use Rattle.std.proofs.lemmas.Bool.Decides.{nat_tests}
use Rattle.std.proofs.lemmas.Str.{IsUtf8-from_ascii}
use Rattle.std.proofs.lemmas.Str.Ascii.{IsAscii-nil, IsAscii-cons}
use Rattle.lt_num.specs.Literal.{is_point, continues_number}
use Rattle.lt_ast.specs.Signs.{spelled}
use Rattle.lt_ast.specs.declared.sign.Sign.{Sign}
use Rattle.lt_ast.specs.declared.sign.Sign.TheVariants as s
use Rattle.lt_lexer.specs.Byte.{is_word_byte}
use Rattle.lt_lexer.specs.Symbol.{is_symbol}
use Rattle.lt_lexer.specs.Piece.{IsToken}
use Rattle.lt_lexer.specs.declared.token.TokenKind.{TokenKind}
use Rattle.lt_lexer.specs.declared.token.TokenKind.TheVariants.{Word, Number, Symbol}
use Rattle.lt_lexer.proofs.Bools.{left_of, right_of, other_or}
use Rattle.lt_lexer.proofs.Symbols.{or_open, each_that}

-- bytes are ASCII, where each passes a test that only bytes below 128 pass
ascii_by : (p : ℕ → Bool) → ((b : ℕ) → p b ≡ true → b < 128) → (bytes : List ℕ) → list_all p bytes ≡ true → IsAscii bytes
ascii_by p below [] h = IsAscii-nil
ascii_by p below (b ∷ bs) h = IsAscii-cons b bs (below b (left_of (p b) (list_all p bs) h)) (ascii_by p below bs (right_of (p b) (list_all p bs) h))

-- the tests that bytes of tokens pass, one by one

ascii-below : (b : ℕ) → nat_lt b 128 ≡ true → b < 128
ascii-below b h = grind (arith, nat_tests)

letter-below : (b : ℕ) → is_ascii_alphabetic b ≡ true → b < 128
letter-below b h = grind (arith, nat_tests)

word_byte-below : (b : ℕ) → is_word_byte b ≡ true → b < 128
word_byte-below b h = grind (arith, nat_tests)

digit-below : (b : ℕ) → is_ascii_digit b ≡ true → b < 128
digit-below b h = grind (arith, nat_tests)

point-below : (b : ℕ) → is_point b ≡ true → b < 128
point-below b h = grind (arith, nat_tests)

-- by its first byte: a digit, and more of the number after it, or the point, and digits after that
continues_step : (v : Bool) (b : ℕ) (bs : List ℕ) → (is_ascii_digit b && continues_number bs) ≡ v → (continues_number bs ≡ true → IsAscii bs) → continues_number (b ∷ bs) ≡ true → IsAscii (b ∷ bs)
continues_step true b bs e more h = IsAscii-cons b bs (digit-below b (left_of (is_ascii_digit b) (continues_number bs) e)) (more (right_of (is_ascii_digit b) (continues_number bs) e))
continues_step false b bs e more h =
    let pointed = other_or (is_ascii_digit b && continues_number bs) (is_point b && list_all is_ascii_digit bs) h e in
    IsAscii-cons b bs (point-below b (left_of (is_point b) (list_all is_ascii_digit bs) pointed)) (ascii_by is_ascii_digit digit-below bs (right_of (is_point b) (list_all is_ascii_digit bs) pointed))

-- what continues a number is ASCII
continues_ascii : (bytes : List ℕ) → continues_number bytes ≡ true → IsAscii bytes
continues_ascii [] h = IsAscii-nil
continues_ascii (b ∷ bs) h = continues_step (is_ascii_digit b && continues_number bs) b bs refl (continues_ascii bs) h

-- so are the letters of a symbol, by cases
symbol_ascii-each : (sign : Sign) → IsTrue (list_all (λ b. nat_lt b 128) (spelled (or_open is_symbol sign)))
symbol_ascii-each s.Open = refl
symbol_ascii-each sign = refl

-- the bytes of a token are ASCII
token_ascii : (kind : TokenKind) (bytes : List ℕ) → IsToken kind bytes → IsAscii bytes
token_ascii Word [] h = IsAscii-nil
token_ascii Word (b ∷ bs) h = IsAscii-cons b bs (letter-below b (left_of (is_ascii_alphabetic b) (list_all is_word_byte bs) h)) (ascii_by is_word_byte word_byte-below bs (right_of (is_ascii_alphabetic b) (list_all is_word_byte bs) h))
token_ascii Number [] h = IsAscii-nil
token_ascii Number (b ∷ bs) h = IsAscii-cons b bs (digit-below b (left_of (is_ascii_digit b) (continues_number bs) h)) (continues_ascii bs (right_of (is_ascii_digit b) (continues_number bs) h))
token_ascii Symbol bytes h = subst IsAscii (sym h.2) (ascii_by (λ b. nat_lt b 128) ascii-below (spelled h.0) (each_that is_symbol (λ sign. IsTrue (list_all (λ b. nat_lt b 128) (spelled sign))) symbol_ascii-each h.0 h.1))

-- so they are the UTF-8 of letters
pub token_utf8 : (kind : TokenKind) (bytes : List ℕ) → IsToken kind bytes → IsUtf8 bytes
token_utf8 kind bytes h = IsUtf8-from_ascii bytes (token_ascii kind bytes h)
