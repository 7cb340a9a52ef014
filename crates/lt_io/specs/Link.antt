-- What a link to another program tells of itself.
use Rattle.std.specs.Prelude.{◌≡◌, ℕ, zero, suc, Bool, true, List, ◌++◌, take, Ok, Err}
use Rattle.std.specs.declared.option.Option.{Option}
use Rattle.std.specs.declared.result.Result.{Result}

-- What was done with a link once, and what came of it. A row a kind.
pub data Act : Type 0 where
  -- these bytes were sent
  sends : List ℕ → Act
  -- these were to be sent, and could not be, but perhaps for a prefix
  fails_to_send : List ℕ → Act
  -- these bytes were received
  receives : List ℕ → Act
  -- the end was received
  finds_end : Act
  -- nothing could be received
  fails_to_receive : Act

-- what a link tells at one moment
pub record Link : Type 0 where
  -- the bytes that it was sent so far, where they are told
  pub sent : Option (List ℕ)
  -- the bytes still to come of it, up to the end, where they are told
  pub left : Option (List ℕ)
  -- how many of its calls failed, up to the greatest number of 64 bits
  pub faults : ℕ
  -- whether it may stand so where all this was done with it, one thing after the other: a link that keeps what was done
  -- with it says by this what that was, and one whose bytes depend on what it is sent says how they do
  pub fits : List Act → Bool

-- anything fits a link that says nothing of what was done with it
abbrev pub anything : List Act → Bool
anything acts = true

-- What fitted a link still fits it where this was done with it besides.
abbrev pub FitsAfter : (List Act → Bool) → (List Act → Bool) → List Act → Type 0
FitsAfter before now acts = (all : List Act) → before all ≡ true → now (all ++ acts) ≡ true

-- what was done where these bytes were to be sent, with this result
abbrev pub sending : {T E : Type 0} → Result T E → List ℕ → Act
sending (Ok done) bytes = sends bytes
sending (Err failed) bytes = fails_to_send bytes

-- what was done where something was to be received into this, with this result: a count of bytes, which is 0 at the end
abbrev pub receiving : {E : Type 0} → Result ℕ E → List ℕ → Act
receiving (Ok zero) into = finds_end
receiving (Ok (suc n)) into = receives (take (suc n) into)
receiving (Err failed) into = fails_to_receive
