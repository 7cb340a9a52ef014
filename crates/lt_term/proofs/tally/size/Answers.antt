use Rattle.lt_term.specs.View.{process}
use Rattle.lt_term.proofs.Tallies.{size_is_total}
use Rattle.lt_term.proofs.tally.size.Goals as goal

pub returns : goal.returns
returns c = size_is_total (process c.args.term.now) c.in_ok-tally.tally c.total.result c.in_ok-tally.ensures c.total.ensures
