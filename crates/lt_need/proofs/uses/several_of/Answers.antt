use Rattle.std.proofs.Common.{sym, subst, IsTrue, List}
use Rattle.std.specs.Prelude.{slice_range}
use Rattle.lt_linear.specs.Form.{Term}
use Rattle.lt_space.specs.Circuit.{are_terms}
use Rattle.lt_need.proofs.Terms.{several_exact, range_exact}
use Rattle.lt_need.proofs.uses.several_of.Goals as goal

pub returns-in-Compare-clause-exact : goal.returns-in-Compare-clause-exact
returns-in-Compare-clause-exact c =
    subst (λ (ts : List Term). IsTrue (are_terms ts)) (sym c.several.ensures)
    (several_exact (slice_range c.args.terms.now c.in-Compare.first c.in-Compare.after) (range_exact c.args.terms.now c.in-Compare.first c.in-Compare.after c.requires.exact))
