use Rattle.lt_typing_laws.proofs.Listed.{none_is_left_out}
use Rattle.lt_typing_laws.proofs.laws.none_is_left_out.Goals as goal

pub returns : goal.returns
returns c = none_is_left_out
