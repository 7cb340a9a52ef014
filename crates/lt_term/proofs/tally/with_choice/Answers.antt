use Rattle.lt_term.proofs.Tallies.{choice_weighs}
use Rattle.lt_term.proofs.tally.with_choice.Goals as goal

pub returns : goal.returns
returns c = choice_weighs c.args.below _ c.sum.ensures
