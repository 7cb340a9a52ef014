use Rattle.lt_term.proofs.Tallies.{followed_weighs}
use Rattle.lt_term.proofs.tally.followed.Goals as goal

pub returns : goal.returns
returns c = followed_weighs c.with_copies.result c.args.first c.args.second.now c.with_copies.ensures
