use Rattle.std.proofs.Common.{◌∙◌, sym}
use Rattle.lt_linear.proofs.Spellings.{digits_are}
use Rattle.lt_linear.proofs.spelling.are_digits.Goals as goal

pub returns-then-not-is_empty : goal.returns-then-not-is_empty
returns-then-not-is_empty c = c.all_digits.ensures ∙ digits_are c.args.text.now (sym c.if-not-is_empty.true ∙ c.is_empty.ensures)
