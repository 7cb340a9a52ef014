use Rattle.lt_call.proofs.Runs.{same_oracle}
use Rattle.lt_call.proofs.cores.sides_of.Goals as goal

pub returns-clause-oracle : goal.returns-clause-oracle
returns-clause-oracle c = same_oracle c.args.request.now.oracle
