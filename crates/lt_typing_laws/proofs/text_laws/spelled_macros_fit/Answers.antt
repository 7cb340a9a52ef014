use Rattle.lt_typing_laws.proofs.Spelled.{macros_fit}
use Rattle.lt_typing_laws.proofs.text_laws.spelled_macros_fit.Goals as goal

pub returns : goal.returns
returns c = macros_fit
