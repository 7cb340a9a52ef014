use Rattle.lt_marks.proofs.Narrow.{choices_stay_narrow}
use Rattle.lt_marks.proofs.laws.choices_stay_narrow.Goals as goal

pub returns : goal.returns
returns c = choices_stay_narrow
