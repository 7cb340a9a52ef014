-- How far a text is read.
use Rattle.std.proofs.Common.{◌≡◌, ℕ, ◌+◌, ◌-◌, ◌≤◌, ◌<◌, List, [], ◌∷◌, ◌++◌, length, drop, refl, ap, sym, ◌∙◌, arith, subst, Some, None, Ok, Err, length-append, append_assoc, append-nil}
use Rattle.std.proofs.lemmas.List.{drop_at}
use Rattle.lt_lexer.specs.Piece.{Piece, token, bytes_of, IsPiece, kind_of}
use Rattle.lt_lexer.specs.Tokenization.{Divides, token_at, tokens_from, IsTokenization, refusal_at, IsRefusal}
use Rattle.lt_lexer.specs.inner.Reading.{Next, done, next, fails, next_of, Gives}
use Rattle.lt_lexer.specs.declared.piece.Piece as code
use Rattle.lt_lexer.specs.declared.token.Token.{Token}
use Rattle.lt_lexer.specs.declared.token.TokenKind.{TokenKind}
use Rattle.lt_lexer.specs.declared.refusal.LexRefusal.{LexRefusal}
use Rattle.lt_lexer.proofs.Pieces.{Holds, holds}
use Rattle.lt_lexer.proofs.Divisions.{bytes_some, divides_more}

-- the tokens so far are those of the pieces before the rest
pub record ReadSoFar (text : List ℕ) (tokens : List Token) (rest : List ℕ) : Type 0 where
  pub pieces : List Piece
  pub divides : Divides text pieces rest
  pub are : tokens ≡ tokens_from 0 pieces

-- how many bytes pieces have
abbrev total : List Piece → ℕ
total [] = 0
total (p ∷ ps) = length (bytes_of p) + total ps

-- the pieces and the rest have the bytes of the text
total-divides : (text : List ℕ) (ps : List Piece) (rest : List ℕ) → Divides text ps rest → total ps + length rest ≡ length text
total-divides text [] rest h = omega (arith, ap length h)
total-divides text (p ∷ ps) rest h = omega (arith, total-divides h.0 ps rest h.3, ap length h.1, length-append (bytes_of p) h.0)

-- one more piece, and its token after the others
tokens_from-append : (place : ℕ) (ps : List Piece) (p : Piece) → tokens_from place (ps ++ p ∷ []) ≡ tokens_from place ps ++ token_at (place + total ps) p
tokens_from-append place [] p = let here : place ≡ place + 0 = omega arith in append-nil (token_at place p) ∙ ap (λ n. token_at n p) here
tokens_from-append place (q ∷ qs) p =
    let there : place + length (bytes_of q) + total qs ≡ place + (length (bytes_of q) + total qs) = omega arith in
    ap (λ l. token_at place q ++ l) (tokens_from-append (place + length (bytes_of q)) qs p)
    ∙ sym (append_assoc (token_at place q) (tokens_from (place + length (bytes_of q)) qs) (token_at (place + length (bytes_of q) + total qs) p))
    ∙ ap (λ n. token_at place q ++ tokens_from (place + length (bytes_of q)) qs ++ token_at n p) there

-- the first piece of a text, as the code tells it
pub record IsFirst (rest : List ℕ) (p : code.Piece) : Type 0 where
  pub piece : Piece
  pub after : List ℕ
  pub parts : rest ≡ bytes_of piece ++ after
  pub is_piece : IsPiece piece after
  pub kind : p.kind ≡ kind_of piece
  pub len : p.len ≡ length (bytes_of piece)

first_by : (place : ℕ) (rest : List ℕ) (p : code.Piece) (n : Next) → Holds rest n → Gives place (Ok p) n → IsFirst rest p
first_by place rest p done h g = absurd g
first_by place rest p (fails flaw) h g = absurd g
first_by place rest p (next q after) h g = record { piece = q; after = after; parts = h.0; is_piece = h.1; kind = g.0; len = g.1 }

-- what the code answers is a first piece
pub first_of : (place : ℕ) (rest : List ℕ) (p : code.Piece) → Gives place (Ok p) (next_of rest) → IsFirst rest p
first_of place rest p g = first_by place rest p (next_of rest) (holds rest) g

pub first-within : (rest : List ℕ) (p : code.Piece) → IsFirst rest p → p.len ≤ length rest
first-within rest p it = omega (arith, it.len, ap length it.parts, length-append (bytes_of it.piece) it.after)

pub first-some : (rest : List ℕ) (p : code.Piece) → IsFirst rest p → 0 < p.len
first-some rest p it = omega (arith, it.len, bytes_some it.piece it.after it.is_piece)

first-after : (rest : List ℕ) (p : code.Piece) (it : IsFirst rest p) → drop p.len rest ≡ it.after
first-after rest p it = ap (drop p.len) it.parts ∙ drop_at (bytes_of it.piece) it.after p.len (sym it.len)

pub nothing_read : (text : List ℕ) → ReadSoFar text [] text
nothing_read text = record { pieces = []; divides = refl; are = refl }

-- one more piece is read
more_read : (text : List ℕ) (tokens : List Token) (rest : List ℕ) (p : code.Piece) (r : ReadSoFar text tokens rest) (it : IsFirst rest p) → ReadSoFar text (tokens ++ token_at (length text - length rest) it.piece) (drop p.len rest)
more_read text tokens rest p r it =
    let P : List ℕ → Type 0 = λ l. ReadSoFar text (tokens ++ token_at (length text - length rest) it.piece) l in
    let place : 0 + total r.pieces ≡ length text - length rest = omega (arith, total-divides text r.pieces rest r.divides) in
    subst P (sym (first-after rest p it)) (record {
      pieces = r.pieces ++ it.piece ∷ [];
      divides = divides_more text r.pieces rest it.piece it.after r.divides it.parts it.is_piece;
      are = ap (λ l. l ++ token_at (length text - length rest) it.piece) r.are ∙ sym (tokens_from-append 0 r.pieces it.piece ∙ ap (λ n. tokens_from 0 r.pieces ++ token_at n it.piece) place);
    })

token_at-kind : (q : Piece) (place : ℕ) (kind : TokenKind) (len : ℕ) → kind_of q ≡ Some kind → len ≡ length (bytes_of q) → token_at place q ≡ record { kind = kind; span = record { start = place; end = place + len } } ∷ []
token_at-kind (token k bytes) place kind len e l = let same : k ≡ kind = cc e in λ t. record { kind = same t; span = record { start = place; end = place + sym l t } } ∷ []
token_at-kind q place kind len e l = absurd (cc e)

token_at-none : (q : Piece) (place : ℕ) → kind_of q ≡ None → token_at place q ≡ []
token_at-none (token k bytes) place e = absurd (cc e)
token_at-none q place e = refl

-- a token is read
pub token_read : (text : List ℕ) (tokens : List Token) (rest : List ℕ) (p : code.Piece) (kind : TokenKind) (place : ℕ) → ReadSoFar text tokens rest → place ≡ length text - length rest → Gives place (Ok p) (next_of rest) → p.kind ≡ Some kind → ReadSoFar text (tokens ++ record { kind = kind; span = record { start = place; end = place + p.len } } ∷ []) (drop p.len rest)
token_read text tokens rest p kind place r e g k =
    let it = first_of place rest p g in
    let P : List Token → Type 0 = λ l. ReadSoFar text (tokens ++ l) (drop p.len rest) in
    subst P (ap (λ n. token_at n it.piece) (sym e) ∙ token_at-kind it.piece place kind p.len (sym it.kind ∙ k) it.len) (more_read text tokens rest p r it)

-- a blank or a comment is
pub none_read : (text : List ℕ) (tokens : List Token) (rest : List ℕ) (p : code.Piece) (place : ℕ) → ReadSoFar text tokens rest → place ≡ length text - length rest → Gives place (Ok p) (next_of rest) → p.kind ≡ None → ReadSoFar text tokens (drop p.len rest)
none_read text tokens rest p place r e g k =
    let it = first_of place rest p g in
    let P : List Token → Type 0 = λ l. ReadSoFar text l (drop p.len rest) in
    subst P (ap (λ l. tokens ++ l) (token_at-none it.piece _ (sym it.kind ∙ k)) ∙ append-nil tokens) (more_read text tokens rest p r it)

-- at the end
pub all_read : (text : List ℕ) (tokens : List Token) (rest : List ℕ) → ReadSoFar text tokens rest → length rest ≡ 0 → IsTokenization text tokens
all_read text tokens [] r e = record { pieces = r.pieces; divides = r.divides; are = r.are }
all_read text tokens (b ∷ bs) r e = absurd (omega arith)

refusal_by : (text : List ℕ) (tokens : List Token) (rest : List ℕ) (place : ℕ) (refusal : LexRefusal) (n : Next) → ReadSoFar text tokens rest → place ≡ length text - length rest → Holds rest n → Gives place (Err refusal) n → IsRefusal text refusal
refusal_by text tokens rest place refusal done r e h g = absurd g
refusal_by text tokens rest place refusal (next q after) r e h g = absurd g
refusal_by text tokens rest place refusal (fails flaw) r e h g = record { pieces = r.pieces; rest = rest; divides = r.divides; flaw = flaw; fails = h; is = g ∙ ap (refusal_at flaw) e }

-- at a flaw
pub refusal_of : (text : List ℕ) (tokens : List Token) (rest : List ℕ) (place : ℕ) (refusal : LexRefusal) → ReadSoFar text tokens rest → place ≡ length text - length rest → Gives place (Err refusal) (next_of rest) → IsRefusal text refusal
refusal_of text tokens rest place refusal r e g = refusal_by text tokens rest place refusal (next_of rest) r e (holds rest) g
