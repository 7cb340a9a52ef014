use Rattle.std.proofs.Common.{◌∙◌, sym}
use Rattle.lt_linear.proofs.Spellings.{told_form, told_overflow}
use Rattle.lt_linear.proofs.parsing.parse_form.Goals as goal

pub returns-then-is_bounded : goal.returns-then-is_bounded
returns-then-is_bounded c = told_form c.args.text.now c.in_ok-form.form c.in_ok-form.ensures (sym c.is_bounded.ensures ∙ c.if-is_bounded.true)

pub returns-else-is_bounded : goal.returns-else-is_bounded
returns-else-is_bounded c = told_overflow c.args.text.now c.in_ok-form.form c.in_ok-form.ensures (sym c.is_bounded.ensures ∙ c.if-is_bounded.false)
