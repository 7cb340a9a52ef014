use Rattle.std.proofs.Common.{refl, sym, ◌∙◌}
use Rattle.lt_macros.specs.Limits.{passed_limits}
use Rattle.lt_macros.specs.Tree.{node}
use Rattle.lt_macros.proofs.Asked.{none_passed}
use Rattle.lt_macros.proofs.expansion.small_enough.Goals as goal

pub returns-in-None : goal.returns-in-None
returns-in-None c = (refl, none_passed (passed_limits (node c.args.made)) (sym c.in-None.is ∙ c.in_ok-limit_of.ensures))

pub returns-in-Some : goal.returns-in-Some
returns-in-Some c = (node c.args.made, refl, sym c.in_ok-limit_of.ensures ∙ c.in-Some.is)
