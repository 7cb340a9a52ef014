-- Tokens set apart by blanks.
use Rattle.std.specs.Prelude.{◌≡◌, ℕ, List, [], ◌∷◌, ◌++◌, map, IsTrue}
use Rattle.std.specs.List.{flat_map, AllByRecursion}
use Rattle.lt_lexer.specs.Byte.{is_blank}
use Rattle.lt_lexer.specs.Tokenization.{IsTokenization}
use Rattle.lt_lexer.specs.Source.{token_bytes}
use Rattle.lt_lexer.specs.declared.token.Token.{Token}
use Rattle.lt_lexer.specs.declared.token.TokenKind.{TokenKind}

-- the bytes of a token, and the blank byte after it
pub record Spaced : Type 0 where
  pub bytes : List ℕ
  pub blank : ℕ

-- their text
abbrev pub apart : List Spaced → List ℕ
apart rows = flat_map (λ row. row.bytes ++ (row.blank ∷ [])) rows

-- a token without its place
pub record Unplaced : Type 0 where
  pub kind : TokenKind
  pub bytes : List ℕ

-- what a token is without its place, by the text that it is a token of
abbrev pub unplaced_token : List ℕ → Token → Unplaced
unplaced_token text t = record { kind = t.kind; bytes = token_bytes text t }

-- The tokens of a text, each with a blank byte after it, are read as the same tokens.
abbrev pub ReadsApart : Type 0
ReadsApart =
    (text : List ℕ) (tokens : List Token) (rows : List Spaced)
    → IsTokenization text tokens → map (λ row. row.bytes) rows ≡ map (token_bytes text) tokens → AllByRecursion (λ row. IsTrue (is_blank row.blank)) rows
    → (others : List Token) × IsTokenization (apart rows) others × (map (unplaced_token (apart rows)) others ≡ map (unplaced_token text) tokens)
