-- What a token is in the text that it is a token of, what is answered of it, and where the tokens of a text stand.
use Rattle.std.specs.Prelude.{◌≡◌, ◌⊎◌, ℕ, ◌+◌, ◌≤◌, ◌<◌, List, [], ◌∷◌, None, Ok, Err, drop, length, slice_range}
use Rattle.std.specs.declared.result.Result.{Result}
use Rattle.std.specs.declared.vec.Vec.{Vec}
use Rattle.std.specs.declared.alloc.Global.{Global}
use Rattle.std.specs.List.{AllByRecursion}
use Rattle.lt_ast.specs.Signs.{spelled}
use Rattle.lt_ast.specs.declared.sign.Sign.{Sign}
use Rattle.lt_ast.specs.declared.sign.Sign.TheVariants as s
use Rattle.lt_ast.specs.declared.span.Span.{Span}
use Rattle.lt_lexer.specs.Piece.{Piece, kind_of, IsToken, IsShort, IsTaken}
use Rattle.lt_lexer.specs.Tokenization.{Divides, IsTokenization}
use Rattle.lt_lexer.specs.declared.refusal.LexRefusal.{LexRefusal}
use Rattle.lt_lexer.specs.declared.refusal.LexRefusal.TheVariants.{Memory}
use Rattle.lt_lexer.specs.declared.lexeme.Lexeme.{Lexeme}
use Rattle.lt_lexer.specs.declared.token.Token.{Token}
use Rattle.lt_lexer.specs.declared.token.TokenKind.TheVariants as kind

-- the bytes of a token
abbrev pub token_bytes : List ℕ → Token → List ℕ
token_bytes text t = slice_range text t.span.start t.span.end

-- a token stands in the text, and its bytes are a token of its kind, a number none of too many digits
pub record IsTokenOf (text : List ℕ) (t : Token) : Type 0 where
  pub ordered : t.span.start < t.span.end
  pub within : t.span.end ≤ length text
  pub is_token : IsToken t.kind (token_bytes text t)
  pub short : IsShort t.kind (token_bytes text t)

-- Which sign a token is: a word that is no keyword is a name.
abbrev pub IsSign : List ℕ → Token → Sign → Type 0
IsSign text t s.Name = (t.kind ≡ kind.Word) × ((sign : Sign) → token_bytes text t ≡ spelled sign → ⊥)
IsSign text t s.Number = t.kind ≡ kind.Number
IsSign text t sign = token_bytes text t ≡ spelled sign

-- where a token as it is read stands: from its start on, as far as its letters go
abbrev pub lexeme_span : Lexeme → Span
lexeme_span l = record { start = l.start; end = l.start + length l.text.now }

-- what a token of a text is read as: it stands in the text, and has this sign, these letters and this place
pub record IsReadAs (text : List ℕ) (t : Token) (l : Lexeme) : Type 0 where
  pub token : IsTokenOf text t
  pub sign : IsSign text t l.sign
  pub letters : l.text.now ≡ token_bytes text t
  pub place : lexeme_span l ≡ t.span

-- what tokens of a text are read as, one by one
abbrev pub AreReadAs : List ℕ → List Token → List Lexeme → Type 0
AreReadAs text [] [] = Unit {0}
AreReadAs text (t ∷ ts) (l ∷ ls) = IsReadAs text t l × AreReadAs text ts ls
AreReadAs text [] (l ∷ ls) = ⊥
AreReadAs text (t ∷ ts) [] = ⊥

-- all the tokens of a text are read as these
abbrev pub TextIsReadAs : List ℕ → List Lexeme → Type 0
TextIsReadAs text ls = (tokens : List Token) × IsTokenization text tokens × AreReadAs text tokens ls

-- what these tokens of a text are read as is answered, or that memory ran out
abbrev pub AnswersTokens : List ℕ → List Token → Result (Vec Lexeme Global) LexRefusal → Type 0
AnswersTokens text tokens (Ok v) = AreReadAs text tokens v.items
AnswersTokens text tokens (Err refusal) = refusal ≡ Memory

-- this refusal is answered, or that memory ran out
abbrev pub AnswersRefusal : LexRefusal → Result (Vec Lexeme Global) LexRefusal → Type 0
AnswersRefusal refusal (Ok v) = ⊥
AnswersRefusal refusal (Err answer) = (answer ≡ refusal) ⊎ (answer ≡ Memory)

-- from one place of the text up to another stand blanks and comments, and nothing else
abbrev pub IsGap : List ℕ → ℕ → ℕ → Type 0
IsGap text from to = (pieces : List Piece) × Divides (drop from text) pieces (drop to text) × AllByRecursion (λ p. kind_of p ≡ None) pieces

-- From a place on the tokens stand one after another. Each is in the text, and the rules take its bytes as a token of
-- its kind where it stands; before each and after the last one stand blanks and comments alone, if anything.
abbrev pub StandInTurn : List ℕ → ℕ → List Token → Type 0
StandInTurn text from [] = IsGap text from (length text)
StandInTurn text from (t ∷ ts) =
    (from ≤ t.span.start) × IsGap text from t.span.start
    × IsTokenOf text t × IsTaken t.kind (token_bytes text t) (drop t.span.end text) × StandInTurn text t.span.end ts
