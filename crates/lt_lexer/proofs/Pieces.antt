-- The first piece of a text is one that the rules take, and they take no other.
use Rattle.std.proofs.Common.{◌≡◌, ℕ, ◌≤◌, true, false, cond, List, [], ◌∷◌, ◌++◌, length, drop, take, refl, ap, sym, ◌∙◌, arith, subst, Some, None, codes, append_assoc, count_by}
use Rattle.std.specs.declared.option.Option.{Option}
use Rattle.std.specs.Char.{is_ascii_digit, is_ascii_alphabetic}
use Rattle.std.proofs.lemmas.Bool.{cond_both, cond-true, cond-false, leb-true, leb-false}
use Rattle.std.proofs.lemmas.List.{take_at, drop_at, append_cancel_left}
use Rattle.lt_num.specs.Bounds.{most_digits}
use Rattle.lt_ast.specs.Signs.{spelled}
use Rattle.lt_ast.specs.declared.sign.Sign.{Sign}
use Rattle.lt_lexer.specs.Byte.{is_blank, is_word_byte, is_in_line, begins_with}
use Rattle.lt_lexer.specs.Piece.{Piece, blank, line_comment, block_comment, token, bytes_of, IsPiece, IsTaken, IsToken, IsLongest, IsShort, HasClose, begins_line_comment, begins_block_comment, begins_comment}
use Rattle.lt_lexer.specs.Tokenization.{Flaw, bad_byte, open_comment, number_too_long, Fails, IsOpen, IsTooLong}
use Rattle.lt_lexer.specs.inner.Reading.{leading, after_leading, Comment, closed, after_fraction, number_bytes, Next, done, next, fails, next_comment, next_number, next_symbol, next_of}
use Rattle.lt_lexer.specs.inner.Spelling.{first_symbol}
use Rattle.lt_lexer.specs.declared.token.TokenKind.{TokenKind}
use Rattle.lt_lexer.specs.declared.token.TokenKind.TheVariants.{Word, Number, Symbol}
use Rattle.lt_lexer.proofs.Bools.{both, neither, left_neither, right_neither, is_false}
use Rattle.lt_lexer.proofs.Runs.{leading-after, leading-passes}
use Rattle.lt_lexer.proofs.Starts.{begins_two, Starts, token_start, same_kind, longest_of, word_longest, digit-blank}
use Rattle.lt_lexer.proofs.Numbers.{number_bytes-after, is_number-number_bytes, number_longest}
use Rattle.lt_lexer.proofs.Symbols.{first_symbol-spelled, found}
use Rattle.lt_lexer.proofs.Comments.{line_end, leading-line, ClosedIs, closed-is, closed-at}

-- what the rules say of a first piece
abbrev pub Holds : List ℕ → Next → Type 0
Holds text done = text ≡ []
Holds text (next p after) = (text ≡ bytes_of p ++ after) × IsPiece p after
Holds text (fails flaw) = Fails flaw text

-- The first piece that is found is one.

-- a comment is its bytes and what follows it
comment_parts : (inside after : List ℕ) → codes "(*" ++ (inside ++ (codes "*)" ++ after)) ≡ (codes "(*" ++ (inside ++ codes "*)")) ++ after
comment_parts inside after = ap (λ l. codes "(*" ++ l) (sym (append_assoc inside (codes "*)") after))

comment_holds : (text inside : List ℕ) (o : Option Comment) → text ≡ codes "(*" ++ inside → ClosedIs inside o → Holds text (next_comment o)
comment_holds text inside None e h = record { inside = inside; parts = e; no_close = h }
comment_holds text inside (Some parts) e h = (e ∙ ap (λ l. codes "(*" ++ l) h.0 ∙ comment_parts parts.inside parts.after, h.1)

number_holds : (b : ℕ) (bs : List ℕ) → begins_comment (b ∷ bs) ≡ false → is_ascii_alphabetic b ≡ false → is_ascii_digit b ≡ true → Holds (b ∷ bs) (next_number (b ∷ bs))
number_holds b bs plain letter digit =
    let parts = number_bytes-after (b ∷ bs) in
    cond_both _ (next (token Number (number_bytes (b ∷ bs))) (after_fraction (after_leading is_ascii_digit (b ∷ bs)))) (fails number_too_long) (Holds (b ∷ bs))
    (λ t. (
      sym parts,
      record {
        is_token = is_number-number_bytes b bs digit;
        longest = number_longest b bs digit letter;
        no_comment = ap begins_comment parts ∙ plain;
        short = leb-true _ _ t;
      },
    ))
    (λ f. record {
      bytes = number_bytes (b ∷ bs);
      after = after_fraction (after_leading is_ascii_digit (b ∷ bs));
      parts = sym parts;
      number = is_number-number_bytes b bs digit;
      longest = number_longest b bs digit letter;
      digits = leb-false _ _ f;
    })

-- no longer front is a symbol
symbol_bound : (text front rest : List ℕ) (sign : Sign) → first_symbol text ≡ Some sign → text ≡ front ++ rest → IsToken Symbol front → length front ≤ length (spelled sign)
symbol_bound text front rest sign e f t =
    let it = found text rest t.0 t.1 (f ∙ ap (λ l. l ++ rest) t.2) in
    let same : it.symbol ≡ sign = cc (it.is, e) in
    omega (arith, it.longer, ap length t.2, ap (λ x. length (spelled x)) same)

no_symbol : (text front rest : List ℕ) → first_symbol text ≡ None → text ≡ front ++ rest → IsToken Symbol front → ⊥
no_symbol text front rest e f t = let it = found text rest t.0 t.1 (f ∙ ap (λ l. l ++ rest) t.2) in cc (it.is, e)

-- a token at the front begins with the first byte
front_start : (b : ℕ) (bs front rest : List ℕ) (kind : TokenKind) → b ∷ bs ≡ front ++ rest → IsToken kind front → Starts kind b
front_start b bs front rest kind e t =
    let s = token_start kind front t in
    let same : b ∷ bs ≡ s.byte ∷ (s.after ++ rest) = e ∙ ap (λ l. l ++ rest) s.parts in
    let byte : s.byte ≡ b = cc same in
    let P : ℕ → Type 0 = Starts kind in
    subst P byte s.starts

no_token : (b : ℕ) (bs front rest : List ℕ) (kind : TokenKind) → first_symbol (b ∷ bs) ≡ None → is_ascii_alphabetic b ≡ false → is_ascii_digit b ≡ false → b ∷ bs ≡ front ++ rest → IsToken kind front → ⊥
no_token b bs front rest Word none letter digit e t = let s = front_start b bs front rest Word e t in cc (s, letter)
no_token b bs front rest Number none letter digit e t = let s = front_start b bs front rest Number e t in cc (s.1, digit)
no_token b bs front rest Symbol none letter digit e t = no_symbol (b ∷ bs) front rest none e t

symbol_holds : (b : ℕ) (bs : List ℕ) (o : Option Sign) → first_symbol (b ∷ bs) ≡ o → begins_comment (b ∷ bs) ≡ false → is_blank b ≡ false → is_ascii_alphabetic b ≡ false → is_ascii_digit b ≡ false → Holds (b ∷ bs) (next_symbol (b ∷ bs) o)
symbol_holds b bs None e plain no_blank letter digit = record {
  byte = b;
  after = bs;
  parts = refl;
  no_blank = no_blank;
  no_comment = plain;
  no_token = λ kind front rest f t. no_token b bs front rest kind e letter digit f t;
}
symbol_holds b bs (Some sign) e plain no_blank letter digit =
    let it = first_symbol-spelled b bs sign letter e in (
      it.1,
      record {
        is_token = (sign, it.0, refl);
        longest = longest_of Symbol (spelled sign) (drop (length (spelled sign)) (b ∷ bs)) b bs (sym it.1) (letter, digit) (λ front rest f t. symbol_bound (b ∷ bs) front rest sign e f t);
        no_comment = ap begins_comment (sym it.1) ∙ plain;
        short = tt;
      },
    )

-- a line comment is what it is to be
line_holds : (b : ℕ) (bs : List ℕ) → begins_line_comment (b ∷ bs) ≡ true → Holds (b ∷ bs) (next (line_comment (leading is_in_line (drop 1 bs))) (after_leading is_in_line (drop 1 bs)))
line_holds b bs t =
    let p = begins_two 45 45 b bs t in
    let rest = leading-after is_in_line (drop 1 bs) in
    (((λ i. p.0 i ∷ p.1 i) ∙ ap (λ l. codes "--" ++ l) (sym rest)), (leading-passes is_in_line (drop 1 bs), line_end (drop 1 bs)))

-- whatever is found first, the rules say it
pub holds : (text : List ℕ) → Holds text (next_of text)
holds [] = refl
holds (b ∷ bs) =
    cond_both (begins_line_comment (b ∷ bs)) _ _ (Holds (b ∷ bs)) (line_holds b bs) (λ line.
    cond_both (begins_block_comment (b ∷ bs)) _ _ (Holds (b ∷ bs)) (λ t. let p = begins_two 40 42 b bs t in comment_holds (b ∷ bs) (drop 1 bs) (closed (drop 1 bs)) (λ i. p.0 i ∷ p.1 i) (closed-is (drop 1 bs))) (λ block.
    let plain = neither (begins_line_comment (b ∷ bs)) (begins_block_comment (b ∷ bs)) line block in
    cond_both (is_blank b) _ _ (Holds (b ∷ bs)) (λ t. (refl, t)) (λ no_blank.
    cond_both (is_ascii_alphabetic b) _ _ (Holds (b ∷ bs)) (λ t.
    let rest = leading-after is_word_byte bs in (
      ap (λ l. b ∷ l) (sym rest),
      record {
        is_token = both _ _ t (leading-passes is_word_byte bs);
        longest = word_longest b bs t;
        no_comment = ap (λ l. begins_comment (b ∷ l)) rest ∙ plain;
        short = tt;
      },
    )) (λ letter.
    cond_both (is_ascii_digit b) _ _ (Holds (b ∷ bs)) (number_holds b bs plain letter) (λ digit.
    symbol_holds b bs (first_symbol (b ∷ bs)) refl plain no_blank letter digit)))))

-- The rules take one first piece at most.

-- two tokens that are as long as can be are one
taken_same : (k j : TokenKind) (x a y c : List ℕ) → x ++ a ≡ y ++ c → IsToken k x → IsLongest x a → IsToken j y → IsLongest y c → (k ≡ j) × (x ≡ y) × (a ≡ c)
taken_same k j x a y c e tx lx ty ly =
    let not_longer : length y ≤ length x = lx j y c e ty in
    let not_shorter : length x ≤ length y = ly k x a (sym e) tx in
    let len : length y ≡ length x = omega arith in
    let bytes : x ≡ y = sym (take_at x a (length x) refl) ∙ ap (λ l. take (length x) l) e ∙ take_at y c (length x) len in
    let after : a ≡ c = sym (drop_at x a (length x) refl) ∙ ap (λ l. drop (length x) l) e ∙ drop_at y c (length x) len in
    let s = token_start k x tx in
    let r = token_start j y ty in
    let same : s.byte ∷ s.after ≡ r.byte ∷ r.after = sym s.parts ∙ bytes ∙ r.parts in
    let byte : s.byte ≡ r.byte = cc same in
    let P : ℕ → Type 0 = Starts k in
    (same_kind k j r.byte (subst P byte s.starts) r.starts, bytes, after)

-- what a text begins with
class : List ℕ → ℕ
class [] = 0
class (b ∷ bs) = cond (begins_line_comment (b ∷ bs)) 1 (cond (begins_block_comment (b ∷ bs)) 2 (cond (is_blank b) 3 4))

abbrev class_of : Next → ℕ
class_of done = 0
class_of (next (line_comment bytes) after) = 1
class_of (next (block_comment bytes) after) = 2
class_of (next (blank b) after) = 3
class_of (next (token kind bytes) after) = 4
class_of (fails bad_byte) = 4
class_of (fails open_comment) = 2
class_of (fails number_too_long) = 4

begins_other : (x y b : ℕ) (bs : List ℕ) → (b ≡ x → ⊥) → begins_with (x ∷ y ∷ []) (b ∷ bs) ≡ false
begins_other x y b bs differs = is_false _ (λ t. differs (begins_two x y b bs t).0)

class-other : (b : ℕ) (bs : List ℕ) → begins_comment (b ∷ bs) ≡ false → is_blank b ≡ false → class (b ∷ bs) ≡ 4
unfolding class
class-other b bs plain no_blank =
    cond-false _ _ _ (left_neither (begins_line_comment (b ∷ bs)) (begins_block_comment (b ∷ bs)) plain)
    ∙ cond-false _ _ _ (right_neither (begins_line_comment (b ∷ bs)) (begins_block_comment (b ∷ bs)) plain)
    ∙ cond-false _ _ _ no_blank

class-blank : (b : ℕ) (bs : List ℕ) → is_blank b ≡ true → class (b ∷ bs) ≡ 3
unfolding class
class-blank b bs h =
    let P : ℕ → Type 0 = λ n. is_blank n ≡ true in
    cond-false _ _ _ (begins_other 45 45 b bs (λ e. let untrue : false ≡ true = subst P e h in cc untrue))
    ∙ cond-false _ _ _ (begins_other 40 42 b bs (λ e. let untrue : false ≡ true = subst P e h in cc untrue))
    ∙ cond-true _ _ _ h

class-digit : (b : ℕ) (bs : List ℕ) → is_ascii_digit b ≡ true → class (b ∷ bs) ≡ 4
class-digit b bs h =
    let P : ℕ → Type 0 = λ n. is_ascii_digit n ≡ true in
    class-other b bs
    (neither (begins_line_comment (b ∷ bs)) (begins_block_comment (b ∷ bs))
    (begins_other 45 45 b bs (λ e. let untrue : false ≡ true = subst P e h in cc untrue))
    (begins_other 40 42 b bs (λ e. let untrue : false ≡ true = subst P e h in cc untrue)))
    (digit-blank b h)

-- what the rules say is first tells what the text begins with
class_is : (text : List ℕ) (n : Next) → Holds text n → class text ≡ class_of n
unfolding class
class_is text done h = ap class h
class_is text (next (line_comment bytes) after) h = ap class h.0
class_is text (next (block_comment bytes) after) h = ap class h.0
class_is text (next (blank b) after) h = ap class h.0 ∙ class-blank b after h.1
class_is text (next (token kind bytes) after) h =
    let s = token_start kind bytes h.1.is_token in
    let parts : bytes ++ after ≡ s.byte ∷ (s.after ++ after) = ap (λ l. l ++ after) s.parts in
    ap class (h.0 ∙ parts) ∙ class-other s.byte (s.after ++ after) (ap begins_comment (sym parts) ∙ h.1.no_comment) s.no_blank
class_is text (fails bad_byte) h = ap class h.parts ∙ class-other h.byte h.after (ap begins_comment (sym h.parts) ∙ h.no_comment) h.no_blank
class_is text (fails open_comment) h = ap class h.parts
class_is text (fails number_too_long) h =
    let s = token_start Number h.bytes h.number in
    ap class (h.parts ∙ ap (λ l. l ++ h.after) s.parts) ∙ class-digit s.byte (s.after ++ h.after) s.starts.1

-- the text after the two bytes that begin a comment
same_inside : (x y : List ℕ) → codes "(*" ++ x ≡ codes "(*" ++ y → x ≡ y
same_inside x y e = ap (λ l. drop 2 l) e

abbrev inside_part : Option Comment → List ℕ
inside_part None = []
inside_part (Some parts) = parts.inside

abbrev after_part : Option Comment → List ℕ
after_part None = []
after_part (Some parts) = parts.after

-- two comments at the front are one
comment_same : (x y a c : List ℕ) → (codes "(*" ++ (x ++ codes "*)")) ++ a ≡ (codes "(*" ++ (y ++ codes "*)")) ++ c → (HasClose x → ⊥) → (HasClose y → ⊥) → (x ≡ y) × (a ≡ c)
comment_same x y a c e h k =
    let inside : x ++ (codes "*)" ++ a) ≡ y ++ (codes "*)" ++ c) = same_inside _ _ (comment_parts x a ∙ e ∙ sym (comment_parts y c)) in
    let parts : Some (record { inside = x; after = a }) ≡ Some (record { inside = y; after = c }) = sym (closed-at x a h) ∙ ap closed inside ∙ closed-at y c k in
    (ap inside_part parts, ap after_part parts)

-- a comment that is closed is not open
comment_closed : (text x a : List ℕ) → text ≡ (codes "(*" ++ (x ++ codes "*)")) ++ a → IsOpen text → ⊥
comment_closed text x a e h = h.no_close (x, a, same_inside h.inside (x ++ (codes "*)" ++ a)) (sym h.parts ∙ e ∙ sym (comment_parts x a)))

-- a number that is taken is not too long
too_long_apart : (text : List ℕ) (kind : TokenKind) (bytes after : List ℕ) → text ≡ bytes ++ after → IsTaken kind bytes after → IsTooLong text → ⊥
too_long_apart text kind bytes after e it h =
    let same = taken_same kind Number bytes after h.bytes h.after (sym e ∙ h.parts) it.is_token it.longest h.number h.longest in
    let P : TokenKind → Type 0 = λ k. IsShort k bytes in
    let short : count_by is_ascii_digit bytes ≤ most_digits = subst P same.0 it.short in
    omega (arith, h.digits, short, ap (count_by is_ascii_digit) same.1)

class_of-next : (p : Piece) (after : List ℕ) → 1 ≤ class_of (next p after)
class_of-next (blank b) after = omega arith
class_of-next (line_comment bytes) after = omega arith
class_of-next (block_comment bytes) after = omega arith
class_of-next (token kind bytes) after = omega arith

class_of-fails : (flaw : Flaw) → 1 ≤ class_of (fails flaw)
class_of-fails bad_byte = omega arith
class_of-fails open_comment = omega arith
class_of-fails number_too_long = omega arith

-- the rules say one thing alone of a first piece
pub unique : (text : List ℕ) (n m : Next) → Holds text n → Holds text m → n ≡ m
unique text done done h k = refl
unique text done (next p after) h k = absurd (omega (arith, class_is text done h, class_is text (next p after) k, class_of-next p after))
unique text done (fails flaw) h k = absurd (omega (arith, class_is text done h, class_is text (fails flaw) k, class_of-fails flaw))
unique text (fails flaw) done h k = absurd (omega (arith, class_is text done k, class_is text (fails flaw) h, class_of-fails flaw))
unique text (next p after) done h k = absurd (omega (arith, class_is text done k, class_is text (next p after) h, class_of-next p after))
unique text (next (line_comment x) a) (next (line_comment y) c) h k =
    let e : x ++ a ≡ y ++ c = cc (h.0, k.0) in
    let bytes : x ≡ y = sym (leading-line x a h.1.0 h.1.1) ∙ ap (leading is_in_line) e ∙ leading-line y c k.1.0 k.1.1 in
    let after : a ≡ c = append_cancel_left x a c (e ∙ ap (λ l. l ++ c) (sym bytes)) in
    λ t. next (line_comment (bytes t)) (after t)
unique text (next (block_comment x) a) (next (block_comment y) c) h k =
    let same = comment_same x y a c (sym h.0 ∙ k.0) h.1 k.1 in
    λ t. next (block_comment (same.0 t)) (same.1 t)
unique text (next (block_comment x) a) (fails open_comment) h k = absurd (comment_closed text x a h.0 k)
unique text (fails open_comment) (next (block_comment y) c) h k = absurd (comment_closed text y c k.0 h)
unique text (fails open_comment) (fails open_comment) h k = refl
unique text (next (blank x) a) (next (blank y) c) h k = let byte : x ≡ y = cc (h.0, k.0) in let after : a ≡ c = cc (h.0, k.0) in λ t. next (blank (byte t)) (after t)
unique text (next (token i x) a) (next (token j y) c) h k =
    let same = taken_same i j x a y c (sym h.0 ∙ k.0) h.1.is_token h.1.longest k.1.is_token k.1.longest in
    λ t. next (token (same.0 t) (same.1 t)) (same.2 t)
unique text (next (token i x) a) (fails bad_byte) h k = absurd (k.no_token i x a h.0 h.1.is_token)
unique text (next (token i x) a) (fails number_too_long) h k = absurd (too_long_apart text i x a h.0 h.1 k)
unique text (fails bad_byte) (next (token j y) c) h k = absurd (h.no_token j y c k.0 k.1.is_token)
unique text (fails bad_byte) (fails bad_byte) h k = refl
unique text (fails bad_byte) (fails number_too_long) h k = absurd (h.no_token Number k.bytes k.after k.parts k.number)
unique text (fails number_too_long) (next (token j y) c) h k = absurd (too_long_apart text j y c k.0 k.1 h)
unique text (fails number_too_long) (fails bad_byte) h k = absurd (k.no_token Number h.bytes h.after h.parts h.number)
unique text (fails number_too_long) (fails number_too_long) h k = refl
unique text (next (blank x) a) (fails bad_byte) h k = absurd (omega (arith, class_is text (next (blank x) a) h, class_is text (fails bad_byte) k))
unique text (fails bad_byte) (next (blank x) a) h k = absurd (omega (arith, class_is text (fails bad_byte) h, class_is text (next (blank x) a) k))
unique text (next (line_comment x) a) (fails bad_byte) h k = absurd (omega (arith, class_is text (next (line_comment x) a) h, class_is text (fails bad_byte) k))
unique text (fails bad_byte) (next (line_comment x) a) h k = absurd (omega (arith, class_is text (fails bad_byte) h, class_is text (next (line_comment x) a) k))
unique text n m h k = absurd (omega (arith, class_is text n h, class_is text m k))
