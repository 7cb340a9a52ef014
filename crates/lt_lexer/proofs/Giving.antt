-- What the code answers at the front of a text is its first piece.
use Rattle.std.proofs.Common.{◌≡◌, ℕ, ◌+◌, ◌-◌, ◌≤◌, ◌<◌, true, false, List, [], ◌∷◌, length, drop, get_or, refl, ap, sym, ◌∙◌, arith, subst, nat_eq, count_by, Some, None, Ok, Err, codes, length-append}
use Rattle.std.specs.declared.option.Option.{Option}
use Rattle.std.specs.declared.result.Result.{Result}
use Rattle.std.specs.Option.{option_map}
use Rattle.std.specs.List.{prefix_len}
use Rattle.std.specs.Char.{is_ascii_digit, is_ascii_alphabetic}
use Rattle.std.proofs.lemmas.Bool.{cond-true, cond-false, le-leb, lt-leb}
use Rattle.std.proofs.lemmas.Bool.Decides.{nat_tests}
use Rattle.lt_num.specs.Bounds.{most_digits}
use Rattle.lt_lexer.specs.Byte.{is_blank, is_word_byte, is_in_line, begins_with}
use Rattle.lt_lexer.specs.Piece.{blank, line_comment, token, begins_line_comment, begins_block_comment}
use Rattle.lt_lexer.specs.inner.Reading.{leading, after_leading, Comment, comment_more, closed, fraction, number_bytes, Next, next, next_comment, next_number, next_symbol, next_of, Gives}
use Rattle.lt_lexer.specs.inner.Spelling.{first_symbol}
use Rattle.lt_lexer.specs.declared.piece.Piece as code
use Rattle.lt_lexer.specs.declared.refusal.LexRefusal.{LexRefusal}
use Rattle.lt_lexer.specs.declared.refusal.LexRefusal.TheVariants.{NumberTooLong}
use Rattle.lt_lexer.specs.declared.token.TokenKind.TheVariants.{Word, Number}
use Rattle.lt_lexer.proofs.Bools.{left_false}
use Rattle.lt_lexer.proofs.Runs.{length-leading, drop-leading}
use Rattle.lt_lexer.proofs.Digits.{count_by-number_bytes}

-- the first piece, by the first bytes

pub next_of-line : (b : ℕ) (bs : List ℕ) → begins_line_comment (b ∷ bs) ≡ true → next_of (b ∷ bs) ≡ next (line_comment (leading is_in_line (drop 1 bs))) (after_leading is_in_line (drop 1 bs))
next_of-line b bs h = cond-true _ _ _ h

pub next_of-block : (b : ℕ) (bs : List ℕ) → begins_line_comment (b ∷ bs) ≡ false → begins_block_comment (b ∷ bs) ≡ true → next_of (b ∷ bs) ≡ next_comment (closed (drop 1 bs))
next_of-block b bs h k = cond-false _ _ _ h ∙ cond-true _ _ _ k

pub next_of-blank : (b : ℕ) (bs : List ℕ) → begins_line_comment (b ∷ bs) ≡ false → begins_block_comment (b ∷ bs) ≡ false → is_blank b ≡ true → next_of (b ∷ bs) ≡ next (blank b) bs
next_of-blank b bs h k l = cond-false _ _ _ h ∙ cond-false _ _ _ k ∙ cond-true _ _ _ l

pub next_of-word : (b : ℕ) (bs : List ℕ) → begins_line_comment (b ∷ bs) ≡ false → begins_block_comment (b ∷ bs) ≡ false → is_blank b ≡ false → is_ascii_alphabetic b ≡ true → next_of (b ∷ bs) ≡ next (token Word (b ∷ leading is_word_byte bs)) (after_leading is_word_byte bs)
next_of-word b bs h k l m = cond-false _ _ _ h ∙ cond-false _ _ _ k ∙ cond-false _ _ _ l ∙ cond-true _ _ _ m

pub next_of-number : (b : ℕ) (bs : List ℕ) → begins_line_comment (b ∷ bs) ≡ false → begins_block_comment (b ∷ bs) ≡ false → is_blank b ≡ false → is_ascii_alphabetic b ≡ false → is_ascii_digit b ≡ true → next_of (b ∷ bs) ≡ next_number (b ∷ bs)
next_of-number b bs h k l m n = cond-false _ _ _ h ∙ cond-false _ _ _ k ∙ cond-false _ _ _ l ∙ cond-false _ _ _ m ∙ cond-true _ _ _ n

pub next_of-symbol : (b : ℕ) (bs : List ℕ) → begins_line_comment (b ∷ bs) ≡ false → begins_block_comment (b ∷ bs) ≡ false → is_blank b ≡ false → is_ascii_alphabetic b ≡ false → is_ascii_digit b ≡ false → next_of (b ∷ bs) ≡ next_symbol (b ∷ bs) (first_symbol (b ∷ bs))
next_of-symbol b bs h k l m n = cond-false _ _ _ h ∙ cond-false _ _ _ k ∙ cond-false _ _ _ l ∙ cond-false _ _ _ m ∙ cond-false _ _ _ n

-- no comment begins with a blank, a letter or a digit

blank-no_minus : (b : ℕ) → is_blank b ≡ true → nat_eq 45 b ≡ false
blank-no_minus b h = grind (arith, nat_tests)

blank-no_open : (b : ℕ) → is_blank b ≡ true → nat_eq 40 b ≡ false
blank-no_open b h = grind (arith, nat_tests)

letter-no_minus : (b : ℕ) → is_ascii_alphabetic b ≡ true → nat_eq 45 b ≡ false
letter-no_minus b h = grind (arith, nat_tests)

letter-no_open : (b : ℕ) → is_ascii_alphabetic b ≡ true → nat_eq 40 b ≡ false
letter-no_open b h = grind (arith, nat_tests)

digit-no_minus : (b : ℕ) → is_ascii_digit b ≡ true → nat_eq 45 b ≡ false
digit-no_minus b h = grind (arith, nat_tests)

digit-no_open : (b : ℕ) → is_ascii_digit b ≡ true → nat_eq 40 b ≡ false
digit-no_open b h = grind (arith, nat_tests)

no_line : (b : ℕ) (bs : List ℕ) → nat_eq 45 b ≡ false → begins_line_comment (b ∷ bs) ≡ false
no_line b bs h = left_false (nat_eq 45 b) _ h

no_block : (b : ℕ) (bs : List ℕ) → nat_eq 40 b ≡ false → begins_block_comment (b ∷ bs) ≡ false
no_block b bs h = left_false (nat_eq 40 b) _ h

-- what the code answers, by these tests

to_next : (place : ℕ) (r : Result code.Piece LexRefusal) (x y : Next) → x ≡ y → Gives place r y → Gives place r x
to_next place r x y e g = let P : Next → Type 0 = Gives place r in subst P (sym e) g

pub gives_line : (place : ℕ) (p : code.Piece) (text : List ℕ) → begins_line_comment text ≡ true → p.kind ≡ None → p.len ≡ 2 + prefix_len is_in_line (drop 2 text) → Gives place (Ok p) (next_of text)
gives_line place p [] h k l = absurd (cc)
gives_line place p (b ∷ bs) h k l = to_next place (Ok p) _ _ (next_of-line b bs h) (k, omega (arith, length-leading is_in_line (drop 1 bs)))

pub gives_block : (place : ℕ) (r : Result code.Piece LexRefusal) (text : List ℕ) → begins_line_comment text ≡ false → begins_block_comment text ≡ true → Gives place r (next_comment (closed (drop 2 text))) → Gives place r (next_of text)
gives_block place r [] h k g = absurd (cc)
gives_block place r (b ∷ bs) h k g = to_next place r _ _ (next_of-block b bs h k) g

pub gives_blank : (place : ℕ) (p : code.Piece) (text : List ℕ) → 0 < length text → is_blank (get_or text 0 0) ≡ true → p.kind ≡ None → p.len ≡ 1 → Gives place (Ok p) (next_of text)
gives_blank place p [] some l m n = absurd (omega arith)
gives_blank place p (b ∷ bs) some l m n = to_next place (Ok p) _ _ (next_of-blank b bs (no_line b bs (blank-no_minus b l)) (no_block b bs (blank-no_open b l)) l) (m, n)

pub gives_word : (place : ℕ) (p : code.Piece) (text : List ℕ) → 0 < length text → is_blank (get_or text 0 0) ≡ false → is_ascii_alphabetic (get_or text 0 0) ≡ true → p.kind ≡ Some Word → p.len ≡ 1 + prefix_len is_word_byte (drop 1 text) → Gives place (Ok p) (next_of text)
gives_word place p [] some l a m n = absurd (omega arith)
gives_word place p (b ∷ bs) some l a m n = to_next place (Ok p) _ _ (next_of-word b bs (no_line b bs (letter-no_minus b a)) (no_block b bs (letter-no_open b a)) l a) (m, omega (arith, length-leading is_word_byte bs))

pub gives_number : (place : ℕ) (r : Result code.Piece LexRefusal) (text : List ℕ) → 0 < length text → is_blank (get_or text 0 0) ≡ false → is_ascii_alphabetic (get_or text 0 0) ≡ false → is_ascii_digit (get_or text 0 0) ≡ true → Gives place r (next_number text) → Gives place r (next_of text)
gives_number place r [] some l a d g = absurd (omega arith)
gives_number place r (b ∷ bs) some l a d g = to_next place r _ _ (next_of-number b bs (no_line b bs (digit-no_minus b d)) (no_block b bs (digit-no_open b d)) l a d) g

pub gives_symbol : (place : ℕ) (r : Result code.Piece LexRefusal) (text : List ℕ) → begins_line_comment text ≡ false → begins_block_comment text ≡ false → 0 < length text → is_blank (get_or text 0 0) ≡ false → is_ascii_alphabetic (get_or text 0 0) ≡ false → is_ascii_digit (get_or text 0 0) ≡ false → Gives place r (next_symbol text (first_symbol text)) → Gives place r (next_of text)
gives_symbol place r [] h k some l a d g = absurd (omega arith)
gives_symbol place r (b ∷ bs) h k some l a d g = to_next place r _ _ (next_of-symbol b bs h k l a d) g

-- numbers

-- the bytes and the digits of a number, as the code counts them
number_len : (text : List ℕ) (whole more : ℕ) → whole ≡ prefix_len is_ascii_digit text → more ≡ length (fraction (drop whole text)) → (length (number_bytes text) ≡ whole + more) × (count_by is_ascii_digit (number_bytes text) ≡ whole + (more - 1))
number_len text whole more w m =
    let same : whole ≡ length (leading is_ascii_digit text) = w ∙ sym (length-leading is_ascii_digit text) in
    let here : drop whole text ≡ after_leading is_ascii_digit text = ap (λ n. drop n text) same ∙ drop-leading is_ascii_digit text in
    let fraction_is : more ≡ length (fraction (after_leading is_ascii_digit text)) = m ∙ ap (λ l. length (fraction l)) here in
    (omega (arith, length-append (leading is_ascii_digit text) (fraction (after_leading is_ascii_digit text))), omega (arith, count_by-number_bytes text))

-- a number within the limit
pub gives_short : (place : ℕ) (p : code.Piece) (text : List ℕ) (whole more : ℕ) → whole ≡ prefix_len is_ascii_digit text → more ≡ length (fraction (drop whole text)) → p.kind ≡ Some Number → p.len ≡ whole + more → whole + (more - 1) ≤ 18 → Gives place (Ok p) (next_number text)
gives_short place p text whole more w m kind len short =
    let both = number_len text whole more w m in
    let within : count_by is_ascii_digit (number_bytes text) ≤ most_digits = omega (arith, both.1) in
    to_next place (Ok p) _ _ (cond-true _ _ _ (le-leb _ _ within)) (kind, len ∙ sym both.0)

-- and one beyond it
pub gives_long : (place : ℕ) (text : List ℕ) (whole more : ℕ) → whole ≡ prefix_len is_ascii_digit text → more ≡ length (fraction (drop whole text)) → 18 < whole + (more - 1) → Gives place (Err (NumberTooLong place)) (next_number text)
gives_long place text whole more w m long =
    let both = number_len text whole more w m in
    let beyond : most_digits < count_by is_ascii_digit (number_bytes text) = omega (arith, both.1) in
    to_next place (Err (NumberTooLong place)) _ _ (cond-false _ _ _ (lt-leb _ _ beyond)) refl

pub ruleset giving = (gives_line, gives_block, gives_blank, gives_word, gives_number, gives_symbol, gives_short, gives_long)

-- where a comment is closed

abbrev inside_len : ℕ → Option Comment → Option ℕ
inside_len n o = option_map (λ parts. n + length parts.inside) o

inside_len-more : (n b : ℕ) (o : Option Comment) → inside_len n (comment_more b o) ≡ inside_len (n + 1) o
inside_len-more n b None = refl
inside_len-more n b (Some parts) = ap Some (omega arith)

pub closed-on : (n b : ℕ) (bs : List ℕ) → begins_with (codes "*)") (b ∷ bs) ≡ false → option_map (λ parts. n + length parts.inside) (closed (b ∷ bs)) ≡ option_map (λ parts. n + 1 + length parts.inside) (closed bs)
closed-on n b bs h = ap (inside_len n) (cond-false _ _ _ h) ∙ inside_len-more n b (closed bs)

pub closed-here : (n b : ℕ) (bs : List ℕ) → begins_with (codes "*)") (b ∷ bs) ≡ true → option_map (λ parts. n + length parts.inside) (closed (b ∷ bs)) ≡ Some (n + 0)
closed-here n b bs h = ap (inside_len n) (cond-true _ _ _ h)

pub ruleset closing = (closed-on, closed-here)
