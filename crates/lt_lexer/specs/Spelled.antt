-- Which signs have letters of their own.
use Rattle.std.specs.Prelude.{Bool, false, true}
use Rattle.lt_ast.specs.declared.sign.Sign.{Sign}
use Rattle.lt_ast.specs.declared.sign.Sign.TheVariants as s

-- a keyword or a symbol has; a name and a number may have any letters
abbrev pub has_own_letters : Sign → Bool
has_own_letters s.Name = false
has_own_letters s.Number = false
has_own_letters sign = true
