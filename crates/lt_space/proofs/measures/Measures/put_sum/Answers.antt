use Rattle.std.proofs.Common.{arith}
use Rattle.lt_linear.specs.Draft.{lent_form}
use Rattle.lt_space.proofs.Measurings.{lent_few}
use Rattle.lt_space.proofs.measures.Measures.put_sum.Goals as goal

pub set_sum-requires : goal.set_sum-requires
set_sum-requires c =
    let s = c.args.self.now in
    omega (arith, lent_few s c.args.a (lent_form c.form.result) c.requires.forms c.requires.first c.form.ensures, lent_few s c.args.b (lent_form c.form-2.result) c.requires.forms c.requires.second c.form-2.ensures, c.requires.place.draft)
