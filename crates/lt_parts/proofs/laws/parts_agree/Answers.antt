use Rattle.lt_parts.proofs.Agreements as agreements
use Rattle.lt_parts.proofs.laws.parts_agree.Goals as goal

pub returns : goal.returns
returns c = agreements.parts_agree
