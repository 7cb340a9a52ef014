-- The text that a program is printed as.
use Rattle.std.specs.Prelude.{ℕ, List, [], ◌∷◌, ◌++◌}
use Rattle.std.specs.List.{flat_map}
use Rattle.lt_ast.specs.Syntax.{Declaration}
use Rattle.lt_ast.specs.Tokens.{Written, declaration_tokens}

-- a token after a blank
abbrev pub spaced_token : Written → List ℕ
spaced_token t = 32 ∷ t.text

-- tokens, each after a blank
abbrev pub spaced : List Written → List ℕ
spaced ts = flat_map spaced_token ts

-- tokens with one blank between two
abbrev pub joined : List Written → List ℕ
joined [] = []
joined (t ∷ ts) = t.text ++ spaced ts

-- tokens with one blank between two, and a line feed after the last one
abbrev pub line : List Written → List ℕ
line ts = joined ts ++ (10 ∷ [])

-- a line for each declaration
abbrev pub printed : List Declaration → List ℕ
printed ds = flat_map (λ d. line (declaration_tokens d)) ds
