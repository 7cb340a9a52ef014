use Rattle.lt_typing_laws.proofs.Told.{kinds_are_told}
use Rattle.lt_typing_laws.proofs.laws.kinds_are_told.Goals as goal

pub returns : goal.returns
returns c = kinds_are_told
