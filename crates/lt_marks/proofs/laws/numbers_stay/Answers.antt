use Rattle.lt_marks.proofs.Numbers.{standing_passes}
use Rattle.lt_marks.proofs.laws.numbers_stay.Goals as goal

pub returns : goal.returns
returns c = λ tests h. standing_passes tests c.args.track.now h
