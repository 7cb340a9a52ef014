use Rattle.std.proofs.Common.{sym, ap, ◌∙◌}
use Rattle.std.specs.List.{prefix_len}
use Rattle.std.specs.Char.{is_ascii_digit}
use Rattle.std.proofs.lemmas.List.{take_rest}
use Rattle.lt_lexer.proofs.Digits.{fraction_from_point}
use Rattle.lt_lexer.proofs.piece.fraction.Goals as goal

pub returns-then-starts_with-clause-count : goal.returns-then-starts_with-clause-count
returns-then-starts_with-clause-count c =
    fraction_from_point c.args.text.now c.digits.result
    (sym c.starts_with.ensures.value ∙ c.if-starts_with.true)
    (c.digits.ensures.count ∙ ap (prefix_len is_ascii_digit) (take_rest c.args.text.now 1))
