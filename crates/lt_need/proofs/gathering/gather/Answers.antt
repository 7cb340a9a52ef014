use Rattle.std.proofs.Common.{arith}
use Rattle.lt_need.proofs.Gatherings.{reached_few}
use Rattle.lt_need.proofs.gathering.gather.Goals as goal

pub returns-clause-few : goal.returns-clause-few
returns-clause-few c = omega (arith, reached_few c.spread.new.marks.items c.spread.new.reached.items c.spread.ensures.reached, c.unmark.ensures.len)
