use Rattle.lt_term_laws.proofs.Worths.{worths}
use Rattle.lt_term_laws.proofs.laws.worths_are_of_their_kinds.Goals as goal

pub returns : goal.returns
returns c = worths
