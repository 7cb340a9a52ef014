use Rattle.lt_term.proofs.Tallies.{both_weigh}
use Rattle.lt_term.proofs.tally.both.Goals as goal

pub returns : goal.returns
returns c = both_weigh c.with_copies.result c.args.first c.args.second.now c.with_copies.ensures
