use Rattle.lt_types.proofs.WellTyped.{types_are_one}
use Rattle.lt_types.proofs.laws.types_are_one.Goals as goal

pub returns : goal.returns
returns c = types_are_one
