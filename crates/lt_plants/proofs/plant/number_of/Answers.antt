-- Digits, with a minus where there is one, are parsed.
use Rattle.lt_num.specs.Literal.{without_minus}
use Rattle.lt_plants.specs.Words.{AreDigits}
use Rattle.lt_plants.proofs.Parsing.{parses}
use Rattle.lt_plants.proofs.plant.number_of.Goals as goal

pub returns-clause-none : goal.returns-clause-none
returns-clause-none c =
    let given : AreDigits c.without_minus.result.now = c.are_digits.ensures.0 c.if-not-are_digits.false in
    let digits : AreDigits (without_minus c.args.text.now) = rw (c.without_minus.ensures, c.as_bytes.ensures.value) at given in
    rw (c.ok.ensures.value, parses c.args.text.now c.parse.result c.parse.ensures.value.0 digits) tt
