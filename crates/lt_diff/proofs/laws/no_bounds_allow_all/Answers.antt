use Rattle.lt_diff.proofs.LawLemmas.{no_bounds_allow_all}
use Rattle.lt_diff.proofs.laws.no_bounds_allow_all.Goals as goal

pub returns : goal.returns
returns c = no_bounds_allow_all
