use Rattle.lt_linear.proofs.Exactness.{ints_compare_exactly, reals_compare_exactly}
use Rattle.lt_linear.proofs.laws.comparisons_are_exact.Goals as goal

pub returns : goal.returns
returns c = record { reals = reals_compare_exactly; ints = ints_compare_exactly }
