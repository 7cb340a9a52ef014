use Rattle.lt_term_laws.proofs.Counting.{instants}
use Rattle.lt_term_laws.proofs.laws.counted_loops_keep_their_bounds.Goals as goal

pub returns-clause-instants : goal.returns-clause-instants
returns-clause-instants c = instants
