-- The numbers that the ends of a range are read as.
use Rattle.std.specs.Prelude.{ℕ, ◌^◌, ℤ, pos, ◌*ℤ◌}
use Rattle.lt_ast.specs.Literals.{figure_text}
use Rattle.lt_ast.specs.Syntax.{Figure}
use Rattle.lt_num.specs.Literal.{literal_numerator, literal_denominator}
use Rattle.lt_num.specs.Rounding.{nearest}

-- the whole number of units of 10^-decimals that is nearest to the literal
abbrev pub raw_of : ℕ → Figure → ℤ
raw_of decimals f = nearest (literal_numerator (figure_text f) *ℤ pos (10 ^ decimals)) (pos (literal_denominator (figure_text f)))
