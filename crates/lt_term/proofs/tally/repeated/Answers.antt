use Rattle.lt_term.proofs.Tallies.{repeated_weighs}
use Rattle.lt_term.proofs.tally.repeated.Goals as goal

pub returns : goal.returns
returns c = repeated_weighs c.args.body _ _ c.sum.ensures c.sum-2.ensures
