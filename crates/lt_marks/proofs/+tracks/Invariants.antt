use Rattle.std.proofs.Common.{◌≤◌}
use Rattle.lt_marks.specs.declared.track.Parts.{size-Parts}
use Rattle.lt_marks.proofs.+tracks.Given as goal

-- what is left to drop is no larger than the whole
abbrev pub invariant-track::Parts::drop-loop-self : goal.invariant-track::Parts::drop-loop-self
invariant-track::Parts::drop-loop-self l = size-Parts l.self ≤ size-Parts l.initial.self
