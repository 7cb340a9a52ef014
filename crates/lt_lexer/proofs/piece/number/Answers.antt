use Rattle.std.proofs.Common.{arith, ap, ◌∙◌, length}
use Rattle.lt_lexer.specs.inner.Reading.{fraction}
use Rattle.std.proofs.lemmas.List.{take_rest}
use Rattle.lt_lexer.proofs.Giving.{gives_short, gives_long}
use Rattle.lt_lexer.proofs.piece.number.Goals as goal

pub returns-then-whole-saturating_sub-le-MOST_DIGITS :
    goal.returns-then-whole-saturating_sub-le-MOST_DIGITS
returns-then-whole-saturating_sub-le-MOST_DIGITS c =
    gives_short c.args.place c.token.result c.args.text.now c.digits-whole.result c.fraction-fraction.result c.digits-whole.ensures.count
    (c.fraction-fraction.ensures.count ∙ ap (λ l. length (fraction l)) (take_rest c.args.text.now c.digits-whole.result))
    c.token.ensures.kind c.token.ensures.len (omega arith)

pub returns-else-whole-saturating_sub-le-MOST_DIGITS :
    goal.returns-else-whole-saturating_sub-le-MOST_DIGITS
returns-else-whole-saturating_sub-le-MOST_DIGITS c =
    gives_long c.args.place c.args.text.now c.digits-whole.result c.fraction-fraction.result c.digits-whole.ensures.count
    (c.fraction-fraction.ensures.count ∙ ap (λ l. length (fraction l)) (take_rest c.args.text.now c.digits-whole.result))
    (omega arith)
