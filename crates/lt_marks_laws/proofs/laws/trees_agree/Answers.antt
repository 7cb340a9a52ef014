use Rattle.lt_marks_laws.proofs.Numbers.{leaves_agree, places_agree, sizes_agree, walks_agree}
use Rattle.lt_marks_laws.proofs.laws.trees_agree.Goals as goal

pub returns-clause-sizes : goal.returns-clause-sizes
returns-clause-sizes c = sizes_agree

pub returns-clause-walks : goal.returns-clause-walks
returns-clause-walks c = walks_agree

pub returns-clause-leaves : goal.returns-clause-leaves
returns-clause-leaves c = leaves_agree

pub returns-clause-places : goal.returns-clause-places
returns-clause-places c = places_agree
