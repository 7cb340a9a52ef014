-- One side of a run, as it is opened and kept.
use Rattle.lt_io.specs.Link.{Link}
use Rattle.lt_io.specs.Programs.{IsUnstarted, Programs}
use Rattle.lt_loop.specs.InputSource.{InputSource, from_nobody, from_program, from_trace}
use Rattle.lt_session.specs.Session.{giving}
use Rattle.lt_session.specs.declared.side.Side.{Side}
use Rattle.lt_session.specs.declared.side.Side.TheVariants as side
use Rattle.lt_session.specs.declared.side.Source.{Source}
use Rattle.lt_session.specs.declared.side.Source.TheVariants as source

-- where the replies of a side come from, as the code has it
abbrev pub source_of : Source → InputSource
source_of source.Nobody = from_nobody
source_of (source.Recorded bytes) = from_trace bytes.now
source_of (source.Program command) = from_program command.now

-- the link of a side, where this tells that of a program
abbrev pub side_link : {L : Type 0} → (L → Link) → Side L → Link
side_link state (side.Recorded recorded) = giving recorded.rest.now
side_link state (side.Program link) = state link

-- a side is of the kind of its source: only one that is a program has a program's link
abbrev pub IsOf : {L : Type 0} → InputSource → Side L → Type 0
IsOf from_nobody (side.Recorded recorded) = Unit {0}
IsOf (from_trace bytes) (side.Recorded recorded) = Unit {0}
IsOf (from_program command) (side.Program link) = Unit {0}
IsOf source other = ⊥

-- the program of a source was not started
abbrev pub IsNotStarted : InputSource → Programs → Programs → Type 0
IsNotStarted (from_program command) old new = IsUnstarted command old new
IsNotStarted source old new = ⊥
