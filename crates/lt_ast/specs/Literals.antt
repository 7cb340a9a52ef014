-- The texts and the types of numbers.
use Rattle.std.specs.Prelude.{ℕ, List, if◌then◌else◌}
use Rattle.std.specs.List.{list_any}
use Rattle.lt_ast.specs.Syntax.{Figure}
use Rattle.lt_ast.specs.declared.group.TypeName.{TypeName}
use Rattle.lt_ast.specs.declared.group.TypeName.TheVariants as t
use Rattle.lt_num.specs.Literal.{is_point, signed_text}

-- the text of a number, with its minus if it has one
abbrev pub figure_text : Figure → List ℕ
figure_text f = signed_text f.minus f.text

-- a number with a point is a real, and one without is an int
abbrev pub figure_type : Figure → TypeName
figure_type f = if list_any is_point f.text then t.Real else t.Int
