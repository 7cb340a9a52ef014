-- The tokens of a text, each with a blank byte after it, are read as the same tokens.
use Rattle.std.proofs.Common.{◌≡◌, ◌⊎◌, inl, inr, ℕ, ◌+◌, ◌-◌, ◌<◌, ◌≤◌, Bool, true, false, not, ◌&&◌, ◌||◌, IsTrue, List, [], ◌∷◌, ◌++◌, map, length, drop, take, refl, ap, sym, ◌∙◌, arith, subst, append_assoc, length-append}
use Rattle.std.specs.List.{list_all, AllByRecursion}
use Rattle.std.specs.Char.{is_ascii_digit, is_ascii_alphabetic}
use Rattle.std.proofs.lemmas.Bool.Decides.{nat_tests}
use Rattle.std.proofs.lemmas.List.{drop_at, take_at, drop-drop}
use Rattle.lt_lexer.specs.Byte.{is_blank, is_word_byte, begins_with}
use Rattle.lt_num.specs.Literal.{is_point, continues_number}
use Rattle.lt_ast.specs.Signs.{spelled}
use Rattle.lt_lexer.specs.Symbol.{IsSymbol}
use Rattle.lt_lexer.specs.Piece.{Piece, blank, token, IsToken, IsTaken, begins_comment, begins_line_comment, begins_block_comment}
use Rattle.lt_lexer.specs.Tokenization.{Divides, tokens_from}
use Rattle.lt_lexer.specs.Source.{token_bytes, StandInTurn}
use Rattle.lt_lexer.specs.Apart.{Spaced, apart, unplaced_token, ReadsApart}
use Rattle.lt_lexer.specs.declared.token.Token.{Token}
use Rattle.lt_lexer.specs.declared.token.TokenKind.{TokenKind}
use Rattle.lt_lexer.specs.declared.token.TokenKind.TheVariants.{Word, Number, Symbol}
use Rattle.lt_ast.specs.declared.sign.Sign.{Sign}
use Rattle.lt_ast.specs.declared.sign.Sign.TheVariants.{Open}
use Rattle.lt_lexer.proofs.Bools.{both, left_of, right_of, neither, is_false}
use Rattle.lt_lexer.proofs.Starts.{begins_two, letter-blank, digit-blank}
use Rattle.lt_lexer.proofs.Divisions.{bytes_some}
use Rattle.lt_lexer.proofs.Places.{stand_in_turn}

-- No byte of a token is a blank.

-- whether no byte is a blank
abbrev has_no_blank : List ℕ → Bool
has_no_blank bytes = list_all (λ b. not (is_blank b)) bytes

-- a symbol's bytes have none
symbol-no_blank : (bytes : List ℕ) → IsSymbol bytes → has_no_blank bytes ≡ true
symbol-no_blank bytes h = ap has_no_blank h.2 ∙ each h.0
  where
    each : (s : Sign) → has_no_blank (spelled s) ≡ true
    each Open = refl
    each s = refl

-- a byte that is no blank, and bytes that have none after it
no_blank-cons : (b : ℕ) (bs : List ℕ) → is_blank b ≡ false → has_no_blank bs ≡ true → has_no_blank (b ∷ bs) ≡ true
no_blank-cons b bs h k = both (not (is_blank b)) (has_no_blank bs) (ap not h) k

-- bytes have none if each passes a test that no blank passes
no_blank-all : (p : ℕ → Bool) (bs : List ℕ) → ((b : ℕ) → p b ≡ true → is_blank b ≡ false) → list_all p bs ≡ true → has_no_blank bs ≡ true
no_blank-all p [] other h = refl
no_blank-all p (b ∷ bs) other h =
    no_blank-cons b bs (other b (left_of (p b) (list_all p bs) h)) (no_blank-all p bs other (right_of (p b) (list_all p bs) h))

-- no byte of a word is a blank
word_byte-blank : (b : ℕ) → is_word_byte b ≡ true → is_blank b ≡ false
word_byte-blank b h = grind (arith, nat_tests)

-- nor is a point
point-blank : (b : ℕ) → is_point b ≡ true → is_blank b ≡ false
point-blank b h = grind (arith, nat_tests)

-- one of two tests passes
one_passes : (a b : Bool) → (a || b) ≡ true → (a ≡ true) ⊎ (b ≡ true)
one_passes true b h = inl refl
one_passes false b h = inr h

-- by what a number goes on with: a digit or a point
continues-step : (b : ℕ) (bs : List ℕ) → (continues_number bs ≡ true → has_no_blank bs ≡ true) → ((is_ascii_digit b && continues_number bs) ≡ true) ⊎ ((is_point b && list_all is_ascii_digit bs) ≡ true) → has_no_blank (b ∷ bs) ≡ true
continues-step b bs more (inl t) =
    no_blank-cons b bs (digit-blank b (left_of (is_ascii_digit b) (continues_number bs) t)) (more (right_of (is_ascii_digit b) (continues_number bs) t))
continues-step b bs more (inr t) =
    no_blank-cons b bs (point-blank b (left_of (is_point b) (list_all is_ascii_digit bs) t)) (no_blank-all is_ascii_digit bs digit-blank (right_of (is_point b) (list_all is_ascii_digit bs) t))

-- what may follow a number's first digit has none
continues-no_blank : (bs : List ℕ) → continues_number bs ≡ true → has_no_blank bs ≡ true
continues-no_blank [] h = refl
continues-no_blank (b ∷ bs) h =
    continues-step b bs (continues-no_blank bs) (one_passes (is_ascii_digit b && continues_number bs) (is_point b && list_all is_ascii_digit bs) h)

-- a token of any kind has none
token-no_blank : (kind : TokenKind) (bytes : List ℕ) → IsToken kind bytes → has_no_blank bytes ≡ true
token-no_blank Word [] h = refl
token-no_blank Word (b ∷ bs) h =
    no_blank-cons b bs (letter-blank b (left_of (is_ascii_alphabetic b) (list_all is_word_byte bs) h)) (no_blank-all is_word_byte bs word_byte-blank (right_of (is_ascii_alphabetic b) (list_all is_word_byte bs) h))
token-no_blank Number [] h = refl
token-no_blank Number (b ∷ bs) h =
    no_blank-cons b bs (digit-blank b (left_of (is_ascii_digit b) (continues_number bs) h)) (continues-no_blank bs (right_of (is_ascii_digit b) (continues_number bs) h))
token-no_blank Symbol bytes h = symbol-no_blank bytes h

-- What is taken as a token is taken where a blank follows.

-- a front that has no blank ends before the blank
ends_before : (bytes more front rest : List ℕ) (b : ℕ) → is_blank b ≡ true → bytes ++ (b ∷ more) ≡ front ++ rest → has_no_blank front ≡ true → length front ≤ length bytes
ends_before bytes more [] rest b t e h = omega arith
ends_before [] more (f ∷ fs) rest b t e h =
    let same : b ≡ f = cc e in
    let no : not (is_blank f) ≡ true = left_of (not (is_blank f)) (has_no_blank fs) h in
    let untrue : false ≡ true = sym (ap not t) ∙ ap (λ n. not (is_blank n)) same ∙ no in
    absurd (cc untrue)
ends_before (x ∷ xs) more (f ∷ fs) rest b t e h =
    let tail : xs ++ (b ∷ more) ≡ fs ++ rest = cc e in
    omega (arith, ends_before xs more fs rest b t tail (right_of (not (is_blank f)) (has_no_blank fs) h))

-- two bytes of which the second is no blank don't begin a text whose second byte is one
second_differs : (x y first b : ℕ) (more : List ℕ) → is_blank y ≡ false → is_blank b ≡ true → begins_with (x ∷ y ∷ []) (first ∷ b ∷ more) ≡ false
second_differs x y first b more plain t =
    is_false _ (λ begins.
    let second : b ≡ y = cc (begins_two x y first (b ∷ more) begins).1 in
    let untrue : true ≡ false = sym t ∙ ap is_blank second ∙ plain in
    cc untrue)

-- no comment begins there
no_comment-blank : (bytes after more : List ℕ) (b : ℕ) → 0 < length bytes → is_blank b ≡ true → begins_comment (bytes ++ after) ≡ false → begins_comment (bytes ++ (b ∷ more)) ≡ false
no_comment-blank [] after more b some t h = absurd (omega arith)
no_comment-blank (x ∷ []) after more b some t h =
    neither (begins_line_comment (x ∷ b ∷ more)) (begins_block_comment (x ∷ b ∷ more)) (second_differs 45 45 x b more refl t) (second_differs 40 42 x b more refl t)
no_comment-blank (x ∷ y ∷ bytes) after more b some t h = h

-- a token that is taken somewhere is taken before a blank
taken-blank : (kind : TokenKind) (bytes after more : List ℕ) (b : ℕ) → IsTaken kind bytes after → is_blank b ≡ true → IsTaken kind bytes (b ∷ more)
taken-blank kind bytes after more b it t = record {
  is_token = it.is_token;
  longest = λ j front rest e f. ends_before bytes more front rest b t e (token-no_blank j front f);
  no_comment = no_comment-blank bytes after more b (bytes_some (token kind bytes) after it) t it.no_comment;
  short = it.short;
}

-- The text of the tokens set apart.

-- the bytes of each row
abbrev row_bytes : List Spaced → List (List ℕ)
row_bytes rows = map (λ row. row.bytes) rows

-- what is to be a blank is one, in each row
abbrev AreBlank : List Spaced → Type 0
AreBlank rows = AllByRecursion (λ row. IsTrue (is_blank row.blank)) rows

-- its pieces: each token, and a blank after it
abbrev laid : List Token → List Spaced → List Piece
laid [] rows = []
laid (t ∷ ts) [] = []
laid (t ∷ ts) (row ∷ rows) = token t.kind row.bytes ∷ blank row.blank ∷ laid ts rows

-- it divides into them
divides-laid : (text : List ℕ) (from : ℕ) (ts : List Token) (rows : List Spaced) → StandInTurn text from ts → row_bytes rows ≡ map (token_bytes text) ts → AreBlank rows → Divides (apart rows) (laid ts rows) []
divides-laid text from [] [] h e k = refl
divides-laid text from [] (row ∷ rows) h e k = absurd (cc e)
divides-laid text from (t ∷ ts) [] h e k = absurd (cc e)
divides-laid text from (t ∷ ts) (row ∷ rows) h e k =
    let own : token_bytes text t ≡ row.bytes = cc e in
    let others : row_bytes rows ≡ map (token_bytes text) ts = cc e in
    let P : List ℕ → Type 0 = λ l. IsTaken t.kind l (drop t.span.end text) in (
      row.blank ∷ apart rows,
      append_assoc row.bytes (row.blank ∷ []) (apart rows),
      taken-blank t.kind row.bytes (drop t.span.end text) (apart rows) row.blank (subst P own h.3) k.0,
      (apart rows, refl, k.0, divides-laid text t.span.end ts rows h.4 others k.1),
    )

-- from a place of a text on, the tokens of these pieces are the tokens that were set apart
unplaced-laid : (text whole : List ℕ) (place : ℕ) (ts : List Token) (rows : List Spaced) → row_bytes rows ≡ map (token_bytes text) ts → drop place whole ≡ apart rows → map (unplaced_token whole) (tokens_from place (laid ts rows)) ≡ map (unplaced_token text) ts
unplaced-laid text whole place [] rows e here = refl
unplaced-laid text whole place (t ∷ ts) [] e here = absurd (cc e)
unplaced-laid text whole place (t ∷ ts) (row ∷ rows) e here =
    let size = length row.bytes in
    let own : row.bytes ≡ token_bytes text t = cc e in
    let others : row_bytes rows ≡ map (token_bytes text) ts = cc e in
    let bytes : take (place + size - place) (drop place whole) ≡ token_bytes text t = ap (take (place + size - place)) (here ∙ append_assoc row.bytes (row.blank ∷ []) (apart rows)) ∙ take_at row.bytes (row.blank ∷ apart rows) (place + size - place) (omega arith) ∙ own in
    let next : drop (place + size + 1) whole ≡ apart rows = ap (λ n. drop n whole) (omega arith) ∙ sym (drop-drop (size + 1) place whole) ∙ ap (drop (size + 1)) here ∙ drop_at (row.bytes ++ (row.blank ∷ [])) (apart rows) (size + 1) (omega (arith, length-append row.bytes (row.blank ∷ []))) in
    let rest = unplaced-laid text whole (place + size + 1) ts rows others next in
    λ i. record { kind = t.kind; bytes = bytes i } ∷ rest i

-- they are read as the same tokens
pub reads_apart : ReadsApart
reads_apart text tokens rows h e k = (
  tokens_from 0 (laid tokens rows),
  record { pieces = laid tokens rows; divides = divides-laid text 0 tokens rows (stand_in_turn text tokens h) e k; are = refl },
  unplaced-laid text (apart rows) 0 tokens rows e refl,
)
