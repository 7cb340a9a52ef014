-- The first bytes of texts and of tokens.
use Rattle.std.proofs.Common.{◌≡◌, ℕ, ◌≤◌, true, false, List, [], ◌∷◌, ◌++◌, length, drop, get_or, refl, ap, sym, ◌∙◌, arith, subst, nat_eq, ◌&&◌}
use Rattle.std.specs.List.{list_all}
use Rattle.std.specs.Char.{is_ascii_digit, is_ascii_alphabetic}
use Rattle.std.proofs.lemmas.Bool.{eqb-true}
use Rattle.std.proofs.lemmas.Bool.Decides.{nat_tests}
use Rattle.lt_num.specs.Literal.{continues_number}
use Rattle.lt_ast.specs.Signs.{spelled}
use Rattle.lt_ast.specs.declared.sign.Sign.{Sign}
use Rattle.lt_ast.specs.declared.sign.Sign.TheVariants as s
use Rattle.lt_lexer.specs.Byte.{is_blank, is_word_byte, begins_with}
use Rattle.lt_lexer.specs.Symbol.{is_symbol}
use Rattle.lt_lexer.specs.Piece.{IsToken, IsLongest}
use Rattle.lt_lexer.specs.declared.token.TokenKind.{TokenKind}
use Rattle.lt_lexer.specs.declared.token.TokenKind.TheVariants.{Word, Number, Symbol}
use Rattle.lt_lexer.specs.inner.Reading.{leading, after_leading}
use Rattle.lt_lexer.proofs.Bools.{left_of, right_of}
use Rattle.lt_lexer.proofs.Runs.{leading-longest, leading-after}
use Rattle.lt_lexer.proofs.Symbols.{or_open, each_that}

-- the two bytes that a text begins with
pub begins_two : (x y b : ℕ) (bs : List ℕ) → begins_with (x ∷ y ∷ []) (b ∷ bs) ≡ true → (b ≡ x) × (bs ≡ y ∷ drop 1 bs)
begins_two x y b [] h = let no : false ≡ true = right_of (nat_eq x b) false h in absurd (cc no)
begins_two x y b (c ∷ cs) h =
    let second : (nat_eq y c && true) ≡ true = right_of (nat_eq x b) (nat_eq y c && true) h in
    (sym (eqb-true x b (left_of (nat_eq x b) (nat_eq y c && true) h)), ap (λ v. v ∷ cs) (sym (eqb-true y c (left_of (nat_eq y c) true second))))

pub letter-blank : (b : ℕ) → is_ascii_alphabetic b ≡ true → is_blank b ≡ false
letter-blank b h = grind (arith, nat_tests)

pub digit-blank : (b : ℕ) → is_ascii_digit b ≡ true → is_blank b ≡ false
digit-blank b h = grind (arith, nat_tests)

pub digit-letter : (b : ℕ) → is_ascii_digit b ≡ true → is_ascii_alphabetic b ≡ false
digit-letter b h = grind (arith, nat_tests)

-- the first byte of a token of a kind
abbrev pub Starts : TokenKind → ℕ → Type 0
Starts Word b = is_ascii_alphabetic b ≡ true
Starts Number b = (is_ascii_alphabetic b ≡ false) × (is_ascii_digit b ≡ true)
Starts Symbol b = (is_ascii_alphabetic b ≡ false) × (is_ascii_digit b ≡ false)

pub record Start (kind : TokenKind) (bytes : List ℕ) : Type 0 where
  pub byte : ℕ
  pub after : List ℕ
  pub parts : bytes ≡ byte ∷ after
  pub starts : Starts kind byte
  pub no_blank : is_blank byte ≡ false

-- a symbol begins with a byte that no word and no number begins with, by cases
symbol_start-each : (sign : Sign) → Start Symbol (spelled (or_open is_symbol sign))
symbol_start-each s.Open = record { byte = 40; after = []; parts = refl; starts = (refl, refl); no_blank = refl }
symbol_start-each sign = record { byte = get_or (spelled (or_open is_symbol sign)) 0 0; after = drop 1 (spelled (or_open is_symbol sign)); parts = refl; starts = (refl, refl); no_blank = refl }

-- a token begins with a byte of its kind, and not with a blank
pub token_start : (kind : TokenKind) (bytes : List ℕ) → IsToken kind bytes → Start kind bytes
token_start Word [] h = absurd (cc)
token_start Word (b ∷ bs) h = let letter = left_of (is_ascii_alphabetic b) (list_all is_word_byte bs) h in record { byte = b; after = bs; parts = refl; starts = letter; no_blank = letter-blank b letter }
token_start Number [] h = absurd (cc)
token_start Number (b ∷ bs) h = let digit = left_of (is_ascii_digit b) (continues_number bs) h in record { byte = b; after = bs; parts = refl; starts = (digit-letter b digit, digit); no_blank = digit-blank b digit }
token_start Symbol bytes h = subst (Start Symbol) (sym h.2) (each_that is_symbol (λ sign. Start Symbol (spelled sign)) symbol_start-each h.0 h.1)

-- which kind the first byte tells
pub same_kind : (k j : TokenKind) (b : ℕ) → Starts k b → Starts j b → k ≡ j
same_kind Word Word b h g = refl
same_kind Number Number b h g = refl
same_kind Symbol Symbol b h g = refl
same_kind Word Number b h g = absurd (cc (h, g.0))
same_kind Word Symbol b h g = absurd (cc (h, g.0))
same_kind Number Word b h g = absurd (cc (h.0, g))
same_kind Symbol Word b h g = absurd (cc (h.0, g))
same_kind Number Symbol b h g = absurd (cc (h.1, g.1))
same_kind Symbol Number b h g = absurd (cc (h.1, g.1))

-- no longer front is a token where none of its kind is
pub longest_of : (kind : TokenKind) (bytes after : List ℕ) (b : ℕ) (bs : List ℕ) → bytes ++ after ≡ b ∷ bs → Starts kind b → ((front rest : List ℕ) → b ∷ bs ≡ front ++ rest → IsToken kind front → length front ≤ length bytes) → IsLongest bytes after
longest_of kind bytes after b bs e starts bound = λ j front rest f t.
    let s = token_start j front t in
    let whole : b ∷ bs ≡ front ++ rest = sym e ∙ f in
    let same : s.byte ∷ (s.after ++ rest) ≡ b ∷ bs = sym (whole ∙ ap (λ l. l ++ rest) s.parts) in
    let byte : s.byte ≡ b = cc same in
    let P : ℕ → Type 0 = Starts j in
    let Q : TokenKind → Type 0 = λ k. IsToken k front in
    bound front rest whole (subst Q (sym (same_kind kind j b starts (subst P byte s.starts))) t)

-- words

word_bound : (b : ℕ) (bs front rest : List ℕ) → b ∷ bs ≡ front ++ rest → IsToken Word front → length front ≤ length (b ∷ leading is_word_byte bs)
word_bound b bs [] rest e h = omega arith
word_bound b bs (f ∷ fs) rest e h =
    let tail : fs ++ rest ≡ bs = cc e in
    omega (arith, leading-longest is_word_byte fs rest (right_of (is_ascii_alphabetic f) _ h), ap (λ l. length (leading is_word_byte l)) tail)

pub word_longest : (b : ℕ) (bs : List ℕ) → is_ascii_alphabetic b ≡ true → IsLongest (b ∷ leading is_word_byte bs) (after_leading is_word_byte bs)
word_longest b bs h = longest_of Word (b ∷ leading is_word_byte bs) (after_leading is_word_byte bs) b bs (ap (λ l. b ∷ l) (leading-after is_word_byte bs)) h (word_bound b bs)
