use Rattle.std.proofs.Common.{arith}
use Rattle.lt_rif.proofs.NumberLemmas.{enlarged-past, enlarged-large}
use Rattle.lt_rif.proofs.decimal.enlarged.Goals as goal
use Rattle.lt_rif.proofs.decimal.enlarged.Goals.{then-zeros-gt12-via-then-zeros-gt12, then-zeros-gt12-via-else-zeros-gt12+then-size-gt-MOST}

pub returns-then-zeros-gt12 : goal.returns-then-zeros-gt12
returns-then-zeros-gt12 c =
    elim c.then-zeros-gt12.branch [
      | then-zeros-gt12-via-then-zeros-gt12 w ↦ enlarged-past c.args.size c.args.zeros (omega (arith, c.if-size-eq0.false)) w.if-zeros-gt12.true
      | then-zeros-gt12-via-else-zeros-gt12+then-size-gt-MOST w ↦ enlarged-large c.args.size c.args.zeros w.if-size-gt-MOST.true
    ]
