use Rattle.lt_legal.proofs.LegalWalks.{walk_is_legal}
use Rattle.lt_legal.proofs.laws.walk_is_legal.Goals as goal

pub returns : goal.returns
returns c = walk_is_legal
