-- Where the tokens of a text stand.
use Rattle.std.proofs.Common.{◌≡◌, ℕ, ◌+◌, ◌-◌, ◌<◌, List, [], ◌∷◌, ◌++◌, length, drop, take, refl, ap, sym, ◌∙◌, arith, subst, None, length-append, append_assoc}
use Rattle.std.specs.List.{AllByRecursion}
use Rattle.std.proofs.lemmas.List.{drop_at, take_at, drop-drop}
use Rattle.lt_lexer.specs.Piece.{Piece, token, bytes_of, kind_of, IsToken, IsShort, IsTaken}
use Rattle.lt_lexer.specs.Tokenization.{Divides, tokens_from, IsTokenization}
use Rattle.lt_lexer.specs.Source.{IsGap, StandInTurn}
use Rattle.lt_lexer.specs.declared.token.Token.{Token}
use Rattle.lt_lexer.proofs.Divisions.{bytes_some, divides_more}

-- the bytes of pieces
abbrev pub all_bytes : List Piece → List ℕ
all_bytes [] = []
all_bytes (p ∷ ps) = bytes_of p ++ all_bytes ps

abbrev AreNoTokens : List Piece → Type 0
AreNoTokens ps = AllByRecursion (λ p. kind_of p ≡ None) ps

-- a text is the bytes of its pieces and the rest
pub divides-all_bytes : (text : List ℕ) (ps : List Piece) (rest : List ℕ) → Divides text ps rest → text ≡ all_bytes ps ++ rest
divides-all_bytes text [] rest h = h
divides-all_bytes text (p ∷ ps) rest h = h.1 ∙ ap (λ l. bytes_of p ++ l) (divides-all_bytes h.0 ps rest h.3) ∙ sym (append_assoc (bytes_of p) (all_bytes ps) rest)

no_tokens-more : (ps : List Piece) (p : Piece) → AreNoTokens ps → kind_of p ≡ None → AreNoTokens (ps ++ p ∷ [])
no_tokens-more [] p h k = (k, tt)
no_tokens-more (q ∷ qs) p h k = (h.0, no_tokens-more qs p h.1 k)

all_bytes-more : (ps : List Piece) (p : Piece) → length (all_bytes (ps ++ p ∷ [])) ≡ length (all_bytes ps) + length (bytes_of p)
all_bytes-more [] p = omega (arith, length-append (bytes_of p) [])
all_bytes-more (q ∷ qs) p = omega (arith, length-append (bytes_of q) (all_bytes (qs ++ p ∷ [])), length-append (bytes_of q) (all_bytes qs), all_bytes-more qs p)

-- what stands after the pieces of a text from a place on
after-pieces : (text : List ℕ) (from n : ℕ) (gs : List Piece) (rest : List ℕ) → Divides (drop from text) gs rest → n ≡ from + length (all_bytes gs) → drop n text ≡ rest
after-pieces text from n gs rest h place =
    ap (λ m. drop m text) place ∙ sym (drop-drop (length (all_bytes gs)) from text) ∙ ap (drop (length (all_bytes gs))) (divides-all_bytes (drop from text) gs rest h) ∙ drop_at (all_bytes gs) rest (length (all_bytes gs)) refl

-- blanks and comments stand up to what is after them
gap : (text : List ℕ) (from n : ℕ) (gs : List Piece) (rest : List ℕ) → Divides (drop from text) gs rest → AreNoTokens gs → drop n text ≡ rest → IsGap text from n
gap text from n gs rest h k here = let P : List ℕ → Type 0 = Divides (drop from text) gs in (gs, subst P (sym here) h, k)

-- the tokens among these pieces, after some blanks and comments
stand : (ps : List Piece) (text : List ℕ) (from : ℕ) (gs : List Piece) (rest : List ℕ) (n : ℕ) → Divides (drop from text) gs rest → AreNoTokens gs → Divides rest ps [] → n ≡ from + length (all_bytes gs) → n + length rest ≡ length text → StandInTurn text from (tokens_from n ps)
stand [] text from gs rest n h k d place whole =
    let none : length rest ≡ 0 = ap length d in
    let end : length text ≡ n = omega arith in
    gap text from (length text) gs rest h k (ap (λ m. drop m text) end ∙ after-pieces text from n gs rest h place)
stand (token kind bytes ∷ ps) text from gs rest n h k d place whole =
    let some : 0 < length bytes = bytes_some (token kind bytes) d.0 d.2 in
    let lengths : length rest ≡ length bytes + length d.0 = ap length d.1 ∙ length-append bytes d.0 in
    let here = after-pieces text from n gs rest h place in
    let own : bytes ≡ take (n + length bytes - n) (drop n text) = sym (ap (take (n + length bytes - n)) (here ∙ d.1) ∙ take_at bytes d.0 (n + length bytes - n) (omega arith)) in
    let next : drop (n + length bytes) text ≡ d.0 = sym (drop-drop (length bytes) n text) ∙ ap (drop (length bytes)) (here ∙ d.1) ∙ drop_at bytes d.0 (length bytes) refl in
    let P : List ℕ → Type 0 = IsTaken kind bytes in
    let Q : List ℕ → Type 0 = λ l. IsTaken kind l (drop (n + length bytes) text) in (
      omega arith,
      gap text from n gs rest h k here,
      record { ordered = omega arith; within = omega arith; is_token = subst (IsToken kind) own d.2.is_token; short = subst (IsShort kind) own d.2.short },
      subst Q own (subst P (sym next) d.2),
      stand ps text (n + length bytes) [] d.0 (n + length bytes) next tt d.3 (omega arith) (omega arith),
    )
stand (p ∷ ps) text from gs rest n h k d place whole =
    stand ps text from (gs ++ p ∷ []) d.0 (n + length (bytes_of p)) (divides_more (drop from text) gs rest p d.0 h d.1 d.2) (no_tokens-more gs p k refl) d.3
    (omega (arith, all_bytes-more gs p))
    (omega (arith, ap length d.1, length-append (bytes_of p) d.0))

-- the tokens of a text stand in turn
pub stand_in_turn : (text : List ℕ) (ts : List Token) → IsTokenization text ts → StandInTurn text 0 ts
stand_in_turn text ts h = let P : List Token → Type 0 = StandInTurn text 0 in subst P (sym h.are) (stand h.pieces text 0 [] text 0 refl tt h.divides refl (omega arith))
