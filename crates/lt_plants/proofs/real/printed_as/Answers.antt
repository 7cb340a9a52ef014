-- What is printed is compared with the text.
use Rattle.std.proofs.Common.{◌≡◌, true, refl}
use Rattle.lt_num.specs.Text.{text_of}
use Rattle.lt_plants.specs.Replies.{decimals}
use Rattle.lt_plants.proofs.Reals.{tells_printed}
use Rattle.lt_plants.proofs.real.printed_as.Goals as goal

pub returns-then-eq-clause-some : goal.returns-then-eq-clause-some
returns-then-eq-clause-some c =
    let told = tells_printed c.args.text.now (text_of decimals c.args.real.raw) c.print-count.new.into _ c.print-count.result c.eq.result c.print-count.ensures.count c.print-count.ensures.text c.eq.ensures in
    (refl, told.0 c.if-eq.true)

pub returns-else-eq-clause-none : goal.returns-else-eq-clause-none
returns-else-eq-clause-none c = λ e.
    let told = tells_printed c.args.text.now (text_of decimals c.args.real.raw) c.print-count.new.into _ c.print-count.result c.eq.result c.print-count.ensures.count c.print-count.ensures.text c.eq.ensures in
    let same : c.eq.result ≡ true = told.1 e in
    let other = c.if-eq.false in (cc)
