use Rattle.std.proofs.Common.{sym, ◌∙◌}
use Rattle.lt_lexer.proofs.Rows.{spelled_in_row}
use Rattle.lt_lexer.proofs.spelling.sign_spelled.Goals as goal

pub returns : goal.returns
returns c =
    c.sign_beginning.ensures
    ∙ spelled_in_row c.args.letters.now c.in_ok-first.first.now (sym c.in_ok-first.ensures.value)
