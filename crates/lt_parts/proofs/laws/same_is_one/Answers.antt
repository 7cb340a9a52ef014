use Rattle.lt_parts.proofs.Same as same
use Rattle.lt_parts.proofs.laws.same_is_one.Goals as goal

pub returns : goal.returns
returns c = same.same_is_one
