use Rattle.std.proofs.Common.{◌*◌, ◌+◌}
use Rattle.lt_ast.specs.Syntax as s
use Rattle.lt_ast.specs.View.{exp}
use Rattle.lt_macros.specs.inner.Builder.{work_at}
use Rattle.lt_macros.specs.inner.HeadNormalForm.{form_reads}
use Rattle.lt_macros.specs.inner.Phrase.{value}
use Rattle.lt_macros.specs.inner.Reading.{worked, phrase_view}
use Rattle.lt_macros.specs.inner.Rows.{rows}
use Rattle.lt_macros.proofs.expressions.+build_expr.Given as goal

-- what is left to do is less
abbrev pub decreases-build_expr : goal.decreases-build_expr
decreases-build_expr l = 5 * worked.phrase (work_at l.builder.now l.environment) (phrase_view l.phrase) + 3

abbrev pub decreases-build_met : goal.decreases-build_met
decreases-build_met l = 5 * worked.phrase (work_at l.builder.now l.environment) (phrase_view l.phrase) + 2

abbrev pub decreases-build_expr_form : goal.decreases-build_expr_form
decreases-build_expr_form l = 5 * form_reads worked (rows l.builder.now.scope) l.form + 1

abbrev pub decreases-build_unary : goal.decreases-build_unary
decreases-build_unary l = 5 * worked.phrase (work_at l.builder.now l.environment) (value (s.unary l.operator (exp l.part.now) l.at))

abbrev pub decreases-build_binary : goal.decreases-build_binary
decreases-build_binary l = 5 * worked.phrase (work_at l.builder.now l.environment) (value (s.binary l.operator (exp l.left.now) (exp l.right.now) l.at))

abbrev pub decreases-build_if : goal.decreases-build_if
decreases-build_if l = 5 * worked.phrase (work_at l.builder.now l.environment) (value (s.choose (exp l.condition.now) (exp l.holds.now) (exp l.otherwise.now) l.at))

abbrev pub decreases-build_part : goal.decreases-build_part
decreases-build_part l = 5 * worked.phrase (work_at l.builder.now l.environment) (value (exp l.part.now)) + 4
