use Rattle.lt_parts.proofs.Holdings as holdings
use Rattle.lt_parts.proofs.laws.loaded_holds.Goals as goal

pub returns : goal.returns
returns c = holdings.loaded_holds
