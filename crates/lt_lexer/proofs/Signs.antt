-- Which sign a token is.
use Rattle.std.proofs.Common.{◌≡◌, ℕ, List, [], ◌∷◌, refl, sym, ◌∙◌, ap, subst, Bool, true, false, IsTrue, Option, Some, None, ◌⊎◌, inl, inr}
use Rattle.std.specs.Char.{is_ascii_digit}
use Rattle.std.specs.Option.{unwrap_or}
use Rattle.lt_ast.specs.declared.sign.Sign.{Sign}
use Rattle.lt_ast.specs.declared.sign.Sign.TheVariants as s
use Rattle.lt_ast.specs.Signs.{spelled}
use Rattle.lt_lexer.specs.Piece.{IsToken}
use Rattle.lt_lexer.specs.Source.{token_bytes, IsTokenOf, IsSign}
use Rattle.lt_lexer.specs.inner.Spelling.{sign_spelled}
use Rattle.lt_lexer.specs.declared.token.Token.{Token}
use Rattle.lt_lexer.specs.declared.token.TokenKind.{TokenKind}
use Rattle.lt_lexer.specs.declared.token.TokenKind.TheVariants as kind
use Rattle.lt_lexer.proofs.Starts.{token_start}
use Rattle.lt_lexer.proofs.Symbols.{has_letters, spelled-own, spelled-bytes, symbol_has_letters}

-- two signs with the same letters are one
one_spelled : (sign sign' : Sign) → IsTrue (has_letters sign) → IsTrue (has_letters sign') → spelled sign ≡ spelled sign' → sign ≡ sign'
one_spelled sign sign' h k e = let same : Some sign ≡ Some sign' = sym (spelled-own sign h) ∙ ap sign_spelled e ∙ spelled-own sign' k in cc same

-- whether bytes begin with a digit
abbrev begins_digit : List ℕ → Bool
begins_digit [] = false
begins_digit (b ∷ bs) = is_ascii_digit b

-- no sign's letters do, by cases
no_digit-each : (sign : Sign) → begins_digit (spelled sign) ≡ false
no_digit-each s.Open = refl
no_digit-each sign = refl

-- Which sign a token of this kind with these bytes is: one with letters of its own, a name or a number.
abbrev SpelledOr : TokenKind → List ℕ → Sign → Type 0
SpelledOr k w sign =
    (IsTrue (has_letters sign) × (w ≡ spelled sign))
    ⊎ (((sign ≡ s.Name) × (k ≡ kind.Word) × ((other : Sign) → w ≡ spelled other → ⊥)) ⊎ ((sign ≡ s.Number) × (k ≡ kind.Number)))

-- a token's sign is one of these
spelled_or : (text : List ℕ) (token : Token) (sign : Sign) → IsSign text token sign → SpelledOr token.kind (token_bytes text token) sign
spelled_or text token s.Name h = inr (inl (refl, h.0, h.1))
spelled_or text token s.Number h = inr (inr (refl, h))
spelled_or text token sign h = inl (refl, h)

-- a sign with letters is that of a token with these letters
spelled_is : (text : List ℕ) (token : Token) (sign : Sign) → IsTrue (has_letters sign) → token_bytes text token ≡ spelled sign → IsSign text token sign
spelled_is text token s.Name h e = cc h
spelled_is text token s.Number h e = cc h
spelled_is text token sign h e = e

-- the bytes of a number are no sign's letters
number_is_unspelled : (k : TokenKind) (w : List ℕ) (sign : Sign) → IsToken k w → k ≡ kind.Number → w ≡ spelled sign → ⊥
number_is_unspelled k w sign h e f =
    let number : IsToken kind.Number w = subst (λ j. IsToken j w) e h in
    let start = token_start kind.Number w number in
    let untrue : true ≡ false = sym start.starts.1 ∙ ap begins_digit (sym start.parts ∙ f) ∙ no_digit-each sign in
    cc untrue

-- two signs of a kind and bytes are one
one_of_these : (k : TokenKind) (w : List ℕ) (sign sign' : Sign) → IsToken k w → SpelledOr k w sign → SpelledOr k w sign' → sign ≡ sign'
one_of_these k w sign sign' h (inl p) (inl q) = one_spelled sign sign' p.0 q.0 (sym p.1 ∙ q.1)
one_of_these k w sign sign' h (inl p) (inr (inl q)) = absurd (q.2 sign p.1)
one_of_these k w sign sign' h (inl p) (inr (inr q)) = absurd (number_is_unspelled k w sign h q.1 p.1)
one_of_these k w sign sign' h (inr (inl p)) (inl q) = absurd (p.2 sign' q.1)
one_of_these k w sign sign' h (inr (inl p)) (inr (inl q)) = p.0 ∙ sym q.0
one_of_these k w sign sign' h (inr (inl p)) (inr (inr q)) = let untrue : kind.Word ≡ kind.Number = sym p.1 ∙ q.1 in absurd (cc untrue)
one_of_these k w sign sign' h (inr (inr p)) (inl q) = absurd (number_is_unspelled k w sign' h p.1 q.1)
one_of_these k w sign sign' h (inr (inr p)) (inr (inl q)) = let untrue : kind.Word ≡ kind.Number = sym q.1 ∙ p.1 in absurd (cc untrue)
one_of_these k w sign sign' h (inr (inr p)) (inr (inr q)) = p.0 ∙ sym q.0

-- A token is one sign.
pub one_sign : (text : List ℕ) (token : Token) (sign sign' : Sign) → IsTokenOf text token → IsSign text token sign → IsSign text token sign' → sign ≡ sign'
one_sign text token sign sign' h p q =
    one_of_these token.kind (token_bytes text token) sign sign' h.is_token (spelled_or text token sign p) (spelled_or text token sign' q)

-- a sign has letters or none, by cases
letters_or_none : (sign : Sign) → (spelled sign ≡ []) ⊎ IsTrue (has_letters sign)
letters_or_none s.Name = inl refl
letters_or_none s.Number = inl refl
letters_or_none sign = inr refl

-- a token has some bytes
token_has_bytes : (w : List ℕ) (k : TokenKind) → IsToken k w → w ≡ [] → ⊥
token_has_bytes w k h e = let start = token_start k w h in let untrue : start.byte ∷ start.after ≡ [] = sym start.parts ∙ e in cc untrue

-- where none is found, the bytes are no sign's, by whether it has letters
unspelled_by : (w : List ℕ) (k : TokenKind) (sign : Sign) → (spelled sign ≡ []) ⊎ IsTrue (has_letters sign) → IsToken k w → sign_spelled w ≡ None → w ≡ spelled sign → ⊥
unspelled_by w k sign (inl empty) h e f = token_has_bytes w k h (f ∙ empty)
unspelled_by w k sign (inr m) h e f = let untrue : None ≡ Some sign = sym e ∙ ap sign_spelled f ∙ spelled-own sign m in cc untrue

-- a sign that is found is the token's
pub found_sign : (text : List ℕ) (token : Token) (sign : Sign) → sign_spelled (token_bytes text token) ≡ Some sign → IsSign text token sign
found_sign text token sign e = let it = spelled-bytes (token_bytes text token) sign e in spelled_is text token sign it.0 it.1

-- a word is the sign that is found, or else a name
pub word_sign : (text : List ℕ) (token : Token) (o : Option Sign) (sign : Sign) → IsTokenOf text token → token.kind ≡ kind.Word → sign_spelled (token_bytes text token) ≡ o → sign ≡ unwrap_or o s.Name → IsSign text token sign
word_sign text token (Some found) sign h k e is = let P : Sign → Type 0 = IsSign text token in subst P (sym is) (found_sign text token found e)
word_sign text token None sign h k e is =
    let P : Sign → Type 0 = IsSign text token in
    subst P (sym is) (k, λ other f. unspelled_by (token_bytes text token) token.kind other (letters_or_none other) h.is_token e f)

-- a symbol's letters are a sign's
pub symbol_found : (text : List ℕ) (token : Token) → IsTokenOf text token → token.kind ≡ kind.Symbol → (sign : Sign) × (sign_spelled (token_bytes text token) ≡ Some sign)
symbol_found text token h k =
    let symbol : IsToken kind.Symbol (token_bytes text token) = subst (λ k. IsToken k (token_bytes text token)) k h.is_token in
    (symbol.0, ap sign_spelled symbol.2 ∙ spelled-own symbol.0 (symbol_has_letters symbol.0 symbol.1))

-- a token is some sign
abbrev HasSign : List ℕ → Token → Type 0
HasSign text token = (sign : Sign) × IsSign text token sign

-- a token of each kind is some sign
kind_sign : (text : List ℕ) (token : Token) (k : TokenKind) → token.kind ≡ k → IsTokenOf text token → HasSign text token
kind_sign text token kind.Word e h = (unwrap_or (sign_spelled (token_bytes text token)) s.Name, word_sign text token (sign_spelled (token_bytes text token)) _ h e refl refl)
kind_sign text token kind.Number e h = (s.Number, e)
kind_sign text token kind.Symbol e h = let it = symbol_found text token h e in (it.0, found_sign text token it.0 it.1)

-- Each token is some sign.
pub some_sign : (text : List ℕ) (token : Token) → IsTokenOf text token → HasSign text token
some_sign text token h = kind_sign text token token.kind refl h

pub ruleset token_signs = (found_sign, symbol_found)
