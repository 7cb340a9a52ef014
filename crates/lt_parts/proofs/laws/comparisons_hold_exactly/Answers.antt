use Rattle.lt_parts.proofs.Holdings.{ints_hold, reals_hold}
use Rattle.lt_parts.proofs.laws.comparisons_hold_exactly.Goals as goal

pub returns : goal.returns
returns c = record { reals = reals_hold c.comparisons_are_exact.ensures.reals; ints = ints_hold c.comparisons_are_exact.ensures.ints }
