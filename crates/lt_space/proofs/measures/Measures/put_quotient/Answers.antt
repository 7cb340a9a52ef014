use Rattle.std.proofs.Common.{arith}
use Rattle.lt_linear.specs.Draft.{lent_form}
use Rattle.lt_space.proofs.Measurings.{lent_few}
use Rattle.lt_space.proofs.measures.Measures.put_quotient.Goals as goal

pub set_quotient-requires-clause-room : goal.set_quotient-requires-clause-room
set_quotient-requires-clause-room c = omega (arith, lent_few c.args.self.now c.args.a (lent_form c.form.result) c.requires.forms c.requires.first c.form.ensures, c.requires.place.draft)
