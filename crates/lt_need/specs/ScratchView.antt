-- What contracts see of a scratch.
use Rattle.std.specs.Prelude.{ℕ, Bool, List}
use Rattle.lt_need.specs.declared.need_scratch.NeedScratch.{NeedScratch}

-- for how many gates it has room
abbrev pub scratch_gates : NeedScratch → ℕ
scratch_gates r = r.gates

-- the marks of the hard variables that were found last, by the numbers of variables
abbrev pub scratch_hard : NeedScratch → List Bool
scratch_hard r = r.hard.items
