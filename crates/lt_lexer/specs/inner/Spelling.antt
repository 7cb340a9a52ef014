-- Signs by their letters.
use Rattle.std.specs.Prelude.{ℕ, nat_eq, Bool, false, ◌==◌, ◌||◌, List, [], ◌∷◌, None}
use Rattle.std.specs.declared.option.Option.{Option}
use Rattle.std.specs.Cmp.Lexicographic.{pointwise}
use Rattle.std.specs.List.{find, filter}
use Rattle.std.specs.Option.{option_or}
use Rattle.lt_ast.specs.Signs.{spelled}
use Rattle.lt_ast.specs.declared.sign.Sign.{Sign}
use Rattle.lt_ast.specs.declared.sign.Sign.TheVariants as s

-- every sign that has letters of its own
abbrev pub signs : List Sign
signs =
    s.Node ∷ s.Returns ∷ s.Let ∷ s.In ∷ s.Exist ∷ s.Bool ∷ s.Int ∷ s.Real
    ∷ s.Trace ∷ s.Ref ∷ s.Fby ∷ s.Loop ∷ s.Assert ∷ s.Raise ∷ s.Catch ∷ s.Do
    ∷ s.Trap ∷ s.Try ∷ s.Exception ∷ s.Pre ∷ s.Not ∷ s.And ∷ s.Or ∷ s.Xor
    ∷ s.If ∷ s.Then ∷ s.Else ∷ s.Div ∷ s.Mod ∷ s.True ∷ s.False ∷ s.Run
    ∷ s.Open ∷ s.Close ∷ s.OpenBrace ∷ s.CloseBrace ∷ s.OpenBracket ∷ s.CloseBracket
    ∷ s.Colon ∷ s.Semicolon ∷ s.Comma ∷ s.Equal ∷ s.Unequal ∷ s.Less
    ∷ s.LessEqual ∷ s.Greater ∷ s.GreaterEqual ∷ s.Plus ∷ s.Minus ∷ s.Star
    ∷ s.Slash ∷ s.Implies ∷ s.Bar ∷ s.Priority ∷ s.Parallel ∷ s.Tilde
    ∷ s.Assign
    ∷ []

-- the letters begin with this byte
abbrev pub begins : ℕ → List ℕ → Bool
begins byte [] = false
begins byte (b ∷ bs) = nat_eq b byte

-- the signs whose letters do
abbrev pub beginning_with : ℕ → List Sign
beginning_with byte = filter (λ sign. begins byte (spelled sign)) signs

-- the first of some signs that is spelled so
abbrev pub first_spelled : List ℕ → List Sign → Option Sign
first_spelled bytes among = find (λ sign. pointwise nat_eq (spelled sign) bytes) among

-- the one sign that is
abbrev pub sign_spelled : List ℕ → Option Sign
sign_spelled bytes = first_spelled bytes signs

-- a sign of two letters may end with this byte
abbrev pub ends_pair : ℕ → Bool
ends_pair b = b == 61 || b == 62 || b == 102 || b == 110 || b == 111 || b == 114

-- the longest symbol at the front of a text that begins with no letter: each symbol has one byte or two
abbrev pub first_symbol : List ℕ → Option Sign
first_symbol [] = None
first_symbol (a ∷ []) = sign_spelled (a ∷ [])
first_symbol (a ∷ b ∷ bs) = option_or (sign_spelled (a ∷ b ∷ [])) (sign_spelled (a ∷ []))
