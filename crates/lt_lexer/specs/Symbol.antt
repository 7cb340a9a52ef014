-- Which signs are symbols.
use Rattle.std.specs.Prelude.{◌≡◌, ℕ, Bool, false, not, IsTrue, List, [], ◌∷◌}
use Rattle.std.specs.Char.{is_ascii_alphabetic}
use Rattle.lt_ast.specs.Signs.{spelled}
use Rattle.lt_ast.specs.declared.sign.Sign.{Sign}

-- the first of the bytes is no letter
abbrev pub begins_without_letter : List ℕ → Bool
begins_without_letter [] = false
begins_without_letter (b ∷ bs) = not (is_ascii_alphabetic b)

-- a sign is a symbol if it is spelled without a letter; each other one is a word, but for that of a number
abbrev pub is_symbol : Sign → Bool
is_symbol sign = begins_without_letter (spelled sign)

-- some symbol is spelled so
abbrev pub IsSymbol : List ℕ → Type 0
IsSymbol bytes = (sign : Sign) × IsTrue (is_symbol sign) × (bytes ≡ spelled sign)
