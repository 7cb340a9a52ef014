-- A link in memory.
use Rattle.std.specs.Prelude.{ℕ, ◌<◌, ◌⊎◌, List, Some, length, min}
use Rattle.lt_io.specs.Calls.{IsNextToFail}
use Rattle.lt_io.specs.Cuts.{most_of}
use Rattle.lt_io.specs.Link.{Link, anything}
use Rattle.lt_io.specs.declared.calls.Calls.{Calls}

-- what clauses see of a link in memory
pub record ScriptState : Type 0 where
  -- the bytes still to come
  pub left : List ℕ
  -- the most bytes of each piece still to come, in turn
  pub cuts : List ℕ
  -- the bytes sent so far
  pub sent : List ℕ
  -- how many more bytes it takes
  pub room : ℕ
  -- the calls of `send` and `recv`
  pub calls : Calls

-- what it tells: everything
abbrev pub link_of : ScriptState → Link
link_of link = record { sent = Some link.sent; left = Some link.left; faults = link.calls.faults; fits = anything }

-- how many bytes the next piece has, where there is room for so many
abbrev pub piece_length : ScriptState → ℕ → ℕ
piece_length link space = min (most_of link.cuts space) (length link.left)

-- sending so many bytes fails: the next call is to fail, or the room is too small
abbrev pub FailsToSend : ScriptState → ℕ → Type 0
FailsToSend link count = IsNextToFail link.calls ⊎ (link.room < count)
