-- The calls of an object in memory.
use Rattle.std.specs.Prelude.{ℕ, Contains}
use Rattle.std.specs.declared.vec.Vec.{Vec}
use Rattle.std.specs.declared.alloc.Global.{Global}
use Rattle.lt_io.specs.Causes.{risen}
use Rattle.lt_io.specs.declared.calls.Calls.{Calls}

-- no call so far, where those of these numbers are to fail
abbrev pub none_made : Vec ℕ Global → Calls
none_made failing = record { made = 0; failing = failing; faults = 0 }

-- the next call is to fail: its number, which is how many calls came before it, is among the failing ones
abbrev pub IsNextToFail : Calls → Type 0
IsNextToFail calls = Contains calls.failing.items calls.made

-- one call more, which went well
abbrev pub with_success : Calls → Calls
with_success calls = record calls { made = risen calls.made }

-- one call more, which failed
abbrev pub with_fault : Calls → Calls
with_fault calls = record calls { made = risen calls.made; faults = risen calls.faults }
