-- A text divides into pieces in one way.
use Rattle.std.proofs.Common.{◌≡◌, ℕ, zero, suc, ◌-◌, ◌≤◌, ◌<◌, List, [], ◌∷◌, ◌++◌, length, refl, ap, sym, ◌∙◌, arith, subst, Some, None, length-append, ◌⊎◌, inl, inr}
use Rattle.std.specs.declared.option.Option.{Option}
use Rattle.lt_lexer.specs.Piece.{Piece, blank, line_comment, block_comment, token, bytes_of, IsPiece}
use Rattle.lt_lexer.specs.Tokenization.{Divides, tokens_from, IsTokenization, Flaw, refusal_at, IsRefusal}
use Rattle.lt_lexer.specs.inner.Reading.{Next, done, next, fails, next_of}
use Rattle.lt_lexer.specs.declared.token.Token.{Token}
use Rattle.lt_lexer.specs.declared.refusal.LexRefusal.{LexRefusal}
use Rattle.lt_lexer.proofs.Starts.{token_start}
use Rattle.lt_lexer.proofs.Pieces.{Holds, holds, unique}

-- how a text ends: by its end or by a flaw
abbrev ending : Option Flaw → Next
ending None = done
ending (Some flaw) = fails flaw

ending_same : (e d : Option Flaw) → ending e ≡ ending d → e ≡ d
ending_same None None h = refl
ending_same (Some f) (Some g) h = cc h
ending_same None (Some g) h = absurd (cc h)
ending_same (Some f) None h = absurd (cc h)

ending_apart : (e : Option Flaw) (p : Piece) (after : List ℕ) → ending e ≡ next p after → ⊥
ending_apart None p after h = cc h
ending_apart (Some f) p after h = cc h

abbrev OneDivision : List Piece → List Piece → List ℕ → List ℕ → Option Flaw → Option Flaw → Type 0
OneDivision ps qs r s e d = (ps ≡ qs) × (r ≡ s) × (e ≡ d)

-- two divisions of a text are one, and end alike
divides_one : (text : List ℕ) (ps qs : List Piece) (r s : List ℕ) (e d : Option Flaw) → Divides text ps r → Holds r (ending e) → Divides text qs s → Holds s (ending d) → OneDivision ps qs r s e d
divides_one text [] [] r s e d h he k kd =
    let same : r ≡ s = sym h ∙ k in
    let P : List ℕ → Type 0 = λ l. Holds l (ending e) in
    (refl, same, ending_same e d (unique s (ending e) (ending d) (subst P same he) kd))
divides_one text [] (q ∷ qs) r s e d h he k kd =
    let P : List ℕ → Type 0 = λ l. Holds l (ending e) in
    absurd (ending_apart e q k.0 (unique text (ending e) (next q k.0) (subst P (sym h) he) (k.1, k.2)))
divides_one text (p ∷ ps) [] r s e d h he k kd =
    let P : List ℕ → Type 0 = λ l. Holds l (ending d) in
    absurd (ending_apart d p h.0 (unique text (ending d) (next p h.0) (subst P (sym k) kd) (h.1, h.2)))
divides_one text (p ∷ ps) (q ∷ qs) r s e d h he k kd =
    let same : next p h.0 ≡ next q k.0 = unique text (next p h.0) (next q k.0) (h.1, h.2) (k.1, k.2) in
    let piece : p ≡ q = cc same in
    let after : k.0 ≡ h.0 = cc same in
    let P : List ℕ → Type 0 = λ l. Divides l qs s in
    let rest = divides_one h.0 ps qs r s e d h.3 he (subst P after k.3) kd in
    ((λ i. piece i ∷ rest.0 i), rest.1, rest.2)

-- at most one token list belongs to a text
pub tokenization_one : (text : List ℕ) (ts us : List Token) → IsTokenization text ts → IsTokenization text us → ts ≡ us
tokenization_one text ts us h k =
    let same = divides_one text h.pieces k.pieces [] [] None None h.divides refl k.divides refl in
    h.are ∙ ap (tokens_from 0) same.0 ∙ sym k.are

-- and at most one refusal
pub refusal_one : (text : List ℕ) (r q : LexRefusal) → IsRefusal text r → IsRefusal text q → r ≡ q
refusal_one text r q h k =
    let same = divides_one text h.pieces k.pieces h.rest k.rest (Some h.flaw) (Some k.flaw) h.divides h.fails k.divides k.fails in
    let flaw : h.flaw ≡ k.flaw = cc same.2 in
    h.is ∙ (λ i. refusal_at (flaw i) (length text - length (same.1 i))) ∙ sym k.is

-- and not both
pub tokens_or_refusal : (text : List ℕ) (ts : List Token) (r : LexRefusal) → IsTokenization text ts → IsRefusal text r → ⊥
tokens_or_refusal text ts r h k =
    let same = divides_one text h.pieces k.pieces [] k.rest None (Some k.flaw) h.divides refl k.divides k.fails in
    cc same.2

-- a piece has some bytes
pub bytes_some : (p : Piece) (after : List ℕ) → IsPiece p after → 0 < length (bytes_of p)
bytes_some (blank b) after h = omega arith
bytes_some (line_comment bytes) after h = omega arith
bytes_some (block_comment bytes) after h = omega arith
bytes_some (token kind bytes) after h = let s = token_start kind bytes h.is_token in omega (arith, ap length s.parts)

-- one more piece
pub divides_more : (text : List ℕ) (ps : List Piece) (rest : List ℕ) (p : Piece) (after : List ℕ) → Divides text ps rest → rest ≡ bytes_of p ++ after → IsPiece p after → Divides text (ps ++ p ∷ []) after
divides_more text [] rest p after h e is = (after, h ∙ e, is, refl)
divides_more text (q ∷ qs) rest p after h e is = (h.0, h.1, h.2, divides_more h.0 qs rest p after h.3 e is)

-- each text divides, up to its end or up to a flaw
record Divided (text : List ℕ) : Type 0 where
  pieces : List Piece
  rest : List ℕ
  how : Option Flaw
  divides : Divides text pieces rest
  ends : Holds rest (ending how)

-- by the first piece
divided_step : (n : ℕ) (text : List ℕ) (m : Next) → Holds text m → ((after : List ℕ) → length after ≤ n → Divided after) → length text ≤ suc n → Divided text
divided_step n text done h more short = record { pieces = []; rest = text; how = None; divides = refl; ends = h }
divided_step n text (fails flaw) h more short = record { pieces = []; rest = text; how = Some flaw; divides = refl; ends = h }
divided_step n text (next p after) h more short =
    let d = more after (omega (arith, ap length h.0, length-append (bytes_of p) after, bytes_some p after h.1)) in
    record { pieces = p ∷ d.pieces; rest = d.rest; how = d.how; divides = (after, h.0, h.1, d.divides); ends = d.ends }

divided_within : (n : ℕ) (text : List ℕ) → length text ≤ n → Divided text
divided_within zero [] short = record { pieces = []; rest = []; how = None; divides = refl; ends = refl }
divided_within zero (b ∷ bs) short = absurd (omega arith)
divided_within (suc n) text short = divided_step n text (next_of text) (holds text) (divided_within n) short

abbrev TokensOrRefusal : List ℕ → Type 0
TokensOrRefusal text = ((tokens : List Token) × IsTokenization text tokens) ⊎ ((refusal : LexRefusal) × IsRefusal text refusal)

-- by the end of the division
by_ending : (text : List ℕ) (ps : List Piece) (rest : List ℕ) (how : Option Flaw) → Divides text ps rest → Holds rest (ending how) → TokensOrRefusal text
by_ending text ps rest None h e =
    let P : List ℕ → Type 0 = λ l. Divides text ps l in
    inl (tokens_from 0 ps, record { pieces = ps; divides = subst P e h; are = refl })
by_ending text ps rest (Some flaw) h e =
    inr (refusal_at flaw (length text - length rest), record { pieces = ps; rest = rest; divides = h; flaw = flaw; fails = e; is = refl })

-- so it has tokens or a refusal
pub some_answer : (text : List ℕ) → TokensOrRefusal text
some_answer text = let d = divided_within (length text) text (omega arith) in by_ending text d.pieces d.rest d.how d.divides d.ends
