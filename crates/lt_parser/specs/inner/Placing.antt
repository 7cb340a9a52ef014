-- How refusals of tokens are refusals of a text.
use Rattle.std.specs.Prelude.{◌≡◌, ℕ, ◌≤◌, ◌-◌, List, drop, length}
use Rattle.lt_parser.specs.declared.refusal.ParseRefusal.{ParseRefusal}
use Rattle.lt_parser.specs.declared.refusal.ParseRefusal.TheVariants.{Unexpected, TooDeep, Memory}
use Rattle.lt_parser.specs.declared.refusal.Refusal.{Refusal}
use Rattle.lt_parser.specs.declared.refusal.Refusal.TheVariants as r
use Rattle.lt_grammar.specs.Lexemes.{Lexemes}
use Rattle.lt_grammar.specs.Text.{start_of}

-- No more tokens are left than there are.
abbrev pub IsWithin : Lexemes → Refusal → Type 0
IsWithin ls (r.Unexpected left) = left ≤ length ls
IsWithin ls (r.TooDeep left) = left ≤ length ls
IsWithin ls r.Memory = Unit {0}

-- the last so many tokens
abbrev pub last_of : Lexemes → ℕ → Lexemes
last_of ls left = drop (length ls - left) ls

-- A refusal of tokens is this one of the text, with its place there.
abbrev pub IsPlaced : List ℕ → Lexemes → Refusal → ParseRefusal → Type 0
IsPlaced text ls (r.Unexpected left) refusal = refusal ≡ Unexpected (start_of text (last_of ls left))
IsPlaced text ls (r.TooDeep left) refusal = refusal ≡ TooDeep (start_of text (last_of ls left))
IsPlaced text ls r.Memory refusal = refusal ≡ Memory
