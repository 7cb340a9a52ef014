-- Signs by their letters, and the symbol at the front of a text.
use Rattle.std.proofs.Common.{◌≡◌, ℕ, ◌≤◌, ◌<◌, Bool, true, false, not, IsTrue, List, [], ◌∷◌, ◌++◌, length, take, drop, get_or, refl, ap, sym, ◌∙◌, arith, subst, Some, None, nat_eq, inl, inr, ◌⊎◌, if◌then◌else◌}
use Rattle.std.specs.declared.option.Option.{Option}
use Rattle.std.specs.Char.{is_ascii_alphabetic}
use Rattle.std.specs.Option.{option_or}
use Rattle.std.specs.Cmp.Lexicographic.{pointwise, bytes_decides}
use Rattle.std.proofs.Math.Seq.{drop-append_seam}
use Rattle.std.proofs.lemmas.Bool.{cond-true}
use Rattle.lt_ast.specs.Signs.{spelled}
use Rattle.lt_ast.specs.declared.sign.Sign.{Sign}
use Rattle.lt_ast.specs.declared.sign.Sign.TheVariants as s
use Rattle.lt_lexer.specs.Symbol.{is_symbol, begins_without_letter}
use Rattle.lt_lexer.specs.inner.Spelling.{signs, ends_pair, sign_spelled, first_symbol}
use Rattle.lt_lexer.proofs.Finds.{find_passes}

-- whether a sign has letters of its own
abbrev pub has_letters : Sign → Bool
has_letters s.Name = false
has_letters s.Number = false
has_letters sign = true

-- a sign that passes a test, and a parenthesis in place of any other
abbrev pub or_open : (Sign → Bool) → Sign → Sign
or_open test sign = if test sign then sign else s.Open

-- what holds of it for each sign holds of each sign that passes
pub each_that : (test : Sign → Bool) (P : Sign → Type 0) → ((sign : Sign) → P (or_open test sign)) → (sign : Sign) → IsTrue (test sign) → P sign
each_that test P all sign h = let same : or_open test sign ≡ sign = cond-true _ _ _ h in subst P same (all sign)

-- by cases
spelled-each : (sign : Sign) → sign_spelled (spelled (or_open has_letters sign)) ≡ Some (or_open has_letters sign)
spelled-each s.Open = refl
spelled-each sign = refl

-- each sign that has letters is found by them
pub spelled-own : (sign : Sign) → IsTrue (has_letters sign) → sign_spelled (spelled sign) ≡ Some sign
spelled-own sign h = each_that has_letters (λ x. sign_spelled (spelled x) ≡ Some x) spelled-each sign h

-- what is found has letters, and these
pub spelled-bytes : (bytes : List ℕ) (sign : Sign) → sign_spelled bytes ≡ Some sign → IsTrue (has_letters sign) × (bytes ≡ spelled sign)
spelled-bytes bytes sign h = let found = find_passes (λ x. pointwise nat_eq (spelled x) bytes) has_letters signs sign refl h in (found.1, sym ((bytes_decides (spelled sign) bytes).0 found.0))

-- a symbol has letters, by cases
pub symbol_has_letters : (sign : Sign) → IsTrue (is_symbol sign) → IsTrue (has_letters sign)
symbol_has_letters s.Name h = h
symbol_has_letters s.Number h = h
symbol_has_letters sign h = refl

-- so it is found by them
symbol-own : (sign : Sign) → IsTrue (is_symbol sign) → sign_spelled (spelled sign) ≡ Some sign
symbol-own sign h = spelled-own sign (symbol_has_letters sign h)

-- a symbol that is spelled at the front
at_front : (bytes rest : List ℕ) (sign : Sign) → bytes ≡ spelled sign → bytes ++ rest ≡ spelled sign ++ drop (length (spelled sign)) (bytes ++ rest)
at_front bytes rest sign e = let P : List ℕ → Type 0 = λ l. bytes ++ rest ≡ l ++ drop (length l) (bytes ++ rest) in subst P e (ap (λ l. bytes ++ l) (sym (drop-append_seam bytes rest)))

-- a symbol, and the text begins with it
abbrev pub IsAtFront : Sign → List ℕ → Type 0
IsAtFront sign text = IsTrue (is_symbol sign) × (text ≡ spelled sign ++ drop (length (spelled sign)) text)

-- so is one that some bytes at the front spell, of which the first is no letter
spelled_at_front : (b : ℕ) (bs rest : List ℕ) (sign : Sign) → is_ascii_alphabetic b ≡ false → sign_spelled (b ∷ bs) ≡ Some sign → IsAtFront sign (b ∷ bs ++ rest)
spelled_at_front b bs rest sign letter h =
    let it = spelled-bytes (b ∷ bs) sign h in
    (ap begins_without_letter (sym it.1) ∙ ap not letter, at_front (b ∷ bs) rest sign it.1)

-- by whether the first two bytes spell one
first-step : (a b : ℕ) (bs : List ℕ) (o : Option Sign) (sign : Sign) → is_ascii_alphabetic a ≡ false → sign_spelled (a ∷ b ∷ []) ≡ o → option_or o (sign_spelled (a ∷ [])) ≡ Some sign → IsAtFront sign (a ∷ b ∷ bs)
first-step a b bs None sign letter e h = spelled_at_front a [] (b ∷ bs) sign letter h
first-step a b bs (Some t) sign letter e h = spelled_at_front a (b ∷ []) bs sign letter (e ∙ h)

-- what is found at the front is a symbol, and spelled there
pub first_symbol-spelled : (b : ℕ) (bs : List ℕ) (sign : Sign) → is_ascii_alphabetic b ≡ false → first_symbol (b ∷ bs) ≡ Some sign → IsAtFront sign (b ∷ bs)
first_symbol-spelled a [] sign letter h = spelled_at_front a [] [] sign letter h
first_symbol-spelled a (b ∷ bs) sign letter h = first-step a b bs (sign_spelled (a ∷ b ∷ [])) sign letter refl h

-- a symbol has one byte or two
abbrev OneOrTwo : List ℕ → Type 0
OneOrTwo l = ((x : ℕ) × (l ≡ x ∷ [])) ⊎ ((x y : ℕ) × (l ≡ x ∷ y ∷ []))

-- by cases
one_or_two-each : (sign : Sign) → OneOrTwo (spelled (or_open is_symbol sign))
one_or_two-each s.Unequal = inr (60, 62, refl)
one_or_two-each s.LessEqual = inr (60, 61, refl)
one_or_two-each s.GreaterEqual = inr (62, 61, refl)
one_or_two-each s.Implies = inr (61, 62, refl)
one_or_two-each s.Priority = inr (124, 62, refl)
one_or_two-each s.Parallel = inr (38, 62, refl)
one_or_two-each s.Assign = inr (58, 61, refl)
one_or_two-each sign = inl (_, refl)

-- so each symbol has
one_or_two : (sign : Sign) → IsTrue (is_symbol sign) → OneOrTwo (spelled sign)
one_or_two sign h = each_that is_symbol (λ x. OneOrTwo (spelled x)) one_or_two-each sign h

-- where some symbol is at the front, one is found that is no shorter
pub record Found (text : List ℕ) (t : Sign) : Type 0 where
  pub symbol : Sign
  pub is : first_symbol text ≡ Some symbol
  pub longer : length (spelled t) ≤ length (spelled symbol)

-- where the first two bytes are one
found_pair : (a b : ℕ) (bs : List ℕ) (t : Sign) → IsTrue (is_symbol t) → a ∷ b ∷ [] ≡ spelled t → Found (a ∷ b ∷ bs) t
found_pair a b bs t h e = record { symbol = t; is = ap (λ o. option_or o (sign_spelled (a ∷ []))) (ap sign_spelled e ∙ symbol-own t h); longer = omega arith }

-- where the first byte is one, by whether the first two are
found_step : (a b : ℕ) (bs : List ℕ) (t : Sign) (o : Option Sign) → sign_spelled (a ∷ b ∷ []) ≡ o → IsTrue (is_symbol t) → a ∷ [] ≡ spelled t → Found (a ∷ b ∷ bs) t
found_step a b bs t None p h e = record { symbol = t; is = ap (λ o. option_or o (sign_spelled (a ∷ []))) p ∙ ap sign_spelled e ∙ symbol-own t h; longer = omega arith }
found_step a b bs t (Some sign) p h e = record { symbol = sign; is = ap (λ o. option_or o (sign_spelled (a ∷ []))) p; longer = omega (arith, ap length e, ap length (spelled-bytes (a ∷ b ∷ []) sign p).1) }

-- where the first byte is one
found_single : (a : ℕ) (rest : List ℕ) (t : Sign) → IsTrue (is_symbol t) → a ∷ [] ≡ spelled t → Found (a ∷ rest) t
found_single a [] t h e = record { symbol = t; is = ap sign_spelled e ∙ symbol-own t h; longer = omega arith }
found_single a (b ∷ bs) t h e = found_step a b bs t (sign_spelled (a ∷ b ∷ [])) refl h e

-- by how many bytes it has
found_by : (rest : List ℕ) (t : Sign) → IsTrue (is_symbol t) → OneOrTwo (spelled t) → Found (spelled t ++ rest) t
found_by rest t h (inl p) = let P : List ℕ → Type 0 = λ l. Found (l ++ rest) t in subst P (sym p.1) (found_single p.0 rest t h (sym p.1))
found_by rest t h (inr p) = let P : List ℕ → Type 0 = λ l. Found (l ++ rest) t in subst P (sym p.2) (found_pair p.0 p.1 rest t h (sym p.2))

-- whichever symbol is at the front
pub found : (text rest : List ℕ) (t : Sign) → IsTrue (is_symbol t) → text ≡ spelled t ++ rest → Found text t
found text rest t h e = let P : List ℕ → Type 0 = λ l. Found l t in subst P (sym e) (found_by rest t h (one_or_two t h))

-- the bytes that the code asks about

pub first_of-short : (text : List ℕ) → length text < 2 → sign_spelled text ≡ first_symbol text
first_of-short [] h = refl
first_of-short (a ∷ []) h = refl
first_of-short (a ∷ b ∷ bs) h = absurd (omega arith)

-- whether letters, if they are two, end with a byte that ends a sign of two
abbrev pair_ends : List ℕ → Bool
pair_ends (a ∷ b ∷ []) = ends_pair b
pair_ends l = true

-- those of each sign do, by cases
pair_ends-each : (sign : Sign) → pair_ends (spelled sign) ≡ true
pair_ends-each s.Open = refl
pair_ends-each sign = refl

-- no sign has these two letters, where none ends with the second one
no_pair-by : (a b : ℕ) (o : Option Sign) → sign_spelled (a ∷ b ∷ []) ≡ o → ends_pair b ≡ false → sign_spelled (a ∷ b ∷ []) ≡ None
no_pair-by a b None e h = e
no_pair-by a b (Some sign) e h =
    let untrue : true ≡ false = sym (ap pair_ends (spelled-bytes (a ∷ b ∷ []) sign e).1 ∙ pair_ends-each sign) ∙ h in
    absurd (cc untrue)

pub first_of-single : (text : List ℕ) → 2 ≤ length text → ends_pair (get_or text 1 0) ≡ false → sign_spelled (get_or text 0 0 ∷ []) ≡ first_symbol text
first_of-single [] h e = absurd (omega arith)
first_of-single (a ∷ []) h e = absurd (omega arith)
first_of-single (a ∷ b ∷ bs) h e = ap (λ o. option_or o (sign_spelled (a ∷ []))) (sym (no_pair-by a b (sign_spelled (a ∷ b ∷ [])) refl e))

pub first_of-long : (text : List ℕ) → 2 ≤ length text → option_or (sign_spelled (take 2 text)) (sign_spelled (get_or text 0 0 ∷ [])) ≡ first_symbol text
first_of-long [] h = absurd (omega arith)
first_of-long (a ∷ []) h = absurd (omega arith)
first_of-long (a ∷ b ∷ bs) h = refl

pub ruleset first_bytes = (first_of-short, first_of-single, first_of-long)
