use Rattle.std.proofs.Common.{arith}
use Rattle.lt_linear.specs.Draft.{lent_form}
use Rattle.lt_space.proofs.Measurings.{form_bounded, lent_few, lent_is}
use Rattle.lt_space.proofs.measures.Measures.set_comparison.Goals as goal

pub set_comparison-requires-clause-first : goal.set_comparison-requires-clause-first
set_comparison-requires-clause-first c =
    let s = c.args.self.now in
    form_bounded s.variables (lent_form c.form.result) (lent_is s c.args.a (lent_form c.form.result) c.requires.forms c.requires.first c.form.ensures)

pub set_comparison-requires-clause-second : goal.set_comparison-requires-clause-second
set_comparison-requires-clause-second c =
    let s = c.args.self.now in
    form_bounded s.variables (lent_form c.form-2.result) (lent_is s c.args.b (lent_form c.form-2.result) c.requires.forms c.requires.second c.form-2.ensures)

pub set_comparison-requires-clause-room : goal.set_comparison-requires-clause-room
set_comparison-requires-clause-room c =
    let s = c.args.self.now in
    omega (arith, lent_few s c.args.a (lent_form c.form.result) c.requires.forms c.requires.first c.form.ensures, lent_few s c.args.b (lent_form c.form-2.result) c.requires.forms c.requires.second c.form-2.ensures, c.requires.draft)
