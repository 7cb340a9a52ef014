-- The numbers at the end of a service.
use Rattle.std.specs.Prelude.{ℕ}
use Rattle.lt_plants.specs.declared.ending.Ending.{Ending}
use Rattle.lt_plants.specs.declared.ending.Ending.TheVariants as ending

-- the number of an ending
abbrev pub code_of : Ending → ℕ
code_of ending.Ended = 0
code_of ending.NoReply = 1
code_of ending.TooLong = 2
code_of ending.TooMany = 4
code_of ending.Failed = 9
