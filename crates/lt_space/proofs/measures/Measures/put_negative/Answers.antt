use Rattle.std.proofs.Common.{arith, ap, length}
use Rattle.lt_linear.specs.Draft.{lent_form}
use Rattle.lt_linear.specs.declared.form.Form.{Form}
use Rattle.lt_space.proofs.Measurings.{lent_few}
use Rattle.lt_space.proofs.measures.Measures.put_negative.Goals as goal

pub set_difference-requires : goal.set_difference-requires
set_difference-requires c =
    omega (arith, ap (λ (f : Form). length f.terms) c.zero.ensures, lent_few c.args.self.now c.args.a (lent_form c.form.result) c.requires.forms c.requires.first c.form.ensures, c.requires.place.draft)
