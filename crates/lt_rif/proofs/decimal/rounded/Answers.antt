use Rattle.std.proofs.Common.{arith}
use Rattle.lt_rif.proofs.NumberLemmas.{quotient-whole, quotient-part}
use Rattle.lt_rif.proofs.decimal.rounded.Goals as goal

pub returns-then-right-left : goal.returns-then-right-left
returns-then-right-left c = rw (quotient-whole c.args.size c.args.right c.args.left (omega arith)) c.enlarged.ensures

pub returns-else-right-left : goal.returns-else-right-left
returns-else-right-left c = rw (quotient-part c.args.size c.args.right c.args.left (omega arith)) c.reduced.ensures
