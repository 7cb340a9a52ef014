use Rattle.lt_types.proofs.WellTyped.{well_typed_is_unrefused}
use Rattle.lt_types.proofs.laws.well_typed_is_unrefused.Goals as goal

pub returns : goal.returns
returns c = well_typed_is_unrefused
