-- What is told of the programs that may be started, and what starting and finishing one does.
use Rattle.std.specs.Prelude.{◌≡◌, ◌≢◌, ◌≤◌, ℕ, ◌+◌, ◌-◌, ◌^◌, min, Bool, true, List, [], ◌∷◌, ◌++◌, None, Some}
use Rattle.std.specs.declared.option.Option.{Option}
use Rattle.lt_io.specs.Causes.{Rose, WhereTold}
use Rattle.lt_io.specs.Link.{Act, Link}

-- what a finished link leaves behind: the bytes that it was sent, where they are told; how often it failed, a count which
-- stays at the greatest number of 64 bits; and what fits it of all that was done with it
pub record Closed : Type 0 where
  pub sent : Option (List ℕ)
  pub faults : ℕ
  pub fits : List Act → Bool

-- what is told at one moment of the programs that may be started
pub record Programs : Type 0 where
  -- by command, what each link that it will start has left, in the order of the starts, where that is told
  pub coming : List ℕ → Option (List (List ℕ))
  -- what the links that were finished leave behind, in the order in which they were, where that is told
  pub closed : Option (List Closed)
  -- the commands that were asked for, the last one at the end
  pub asked : List (List ℕ)
  -- how many calls failed, of starting and finishing and in links that were finished, up to the greatest number of 64 bits
  pub faults : ℕ

-- nothing changed
pub record Same (old new : Programs) : Type 0 where
  pub coming : (command : List ℕ) → new.coming command ≡ old.coming command
  pub closed : new.closed ≡ old.closed
  pub asked : new.asked ≡ old.asked
  pub faults : new.faults ≡ old.faults

-- Of a command's links that are to come, where they are told, the first one was started: the link that was
-- given out has left what that one had. Where none was to come, none is started.
abbrev pub Starts : Option (List (List ℕ)) → Option (List (List ℕ)) → Option (List ℕ) → Type 0
Starts None new left = Unit {0}
Starts (Some []) new left = ⊥
Starts (Some (first ∷ rest)) new left = (left ≡ Some first) × (new ≡ Some rest)

-- A program was started by its command, and this is its link.
pub record IsStarted (command : List ℕ) (old new : Programs) (link : Link) : Type 0 where
  -- it is the first link that was to come by the command, and nothing else changed of what is to come
  pub first : Starts (old.coming command) (new.coming command) link.left
  pub others : (other : List ℕ) → other ≢ command → new.coming other ≡ old.coming other
  -- nothing was done with it, it was sent nothing, and it has no fault
  pub fresh : link.fits [] ≡ true
  pub unsent : WhereTold link.sent (λ bytes. bytes ≡ [])
  -- where it is told what finished links leave behind, the link tells what it is sent
  pub tells : WhereTold old.closed (λ _. link.sent ≡ Some [])
  pub faultless : link.faults ≡ 0
  -- the command was asked for, and nothing else happened
  pub asked : new.asked ≡ old.asked ++ command ∷ []
  pub closed : new.closed ≡ old.closed
  pub faults : new.faults ≡ old.faults

-- A program was asked for by its command and could not be started, which was counted.
pub record IsUnstarted (command : List ℕ) (old new : Programs) : Type 0 where
  pub asked : new.asked ≡ old.asked ++ command ∷ []
  pub rose : Rose old.faults new.faults
  pub later : old.faults ≤ new.faults
  pub coming : (other : List ℕ) → new.coming other ≡ old.coming other
  pub closed : new.closed ≡ old.closed

-- the links that were finished, where they are told, are one more
abbrev pub Closes : Option (List Closed) → Option (List Closed) → Closed → Type 0
Closes None new last = Unit {0}
Closes (Some links) new last = new ≡ Some (links ++ last ∷ [])

-- a count of faults with more of them, which stays at the greatest number of 64 bits
abbrev pub with_more : ℕ → ℕ → ℕ
with_more count more = min (count + more) (2 ^ 64 - 1)

-- A link was given back, and its program finished.
pub record IsFinished (old new : Programs) (link : Link) : Type 0 where
  -- what it was sent, its faults and what fits it are the last entry of those that were finished
  pub closes : Closes old.closed new.closed (record { sent = link.sent; faults = link.faults; fits = link.fits })
  -- its faults were added; those of its end may have been too
  pub adds : with_more old.faults link.faults ≤ new.faults
  pub later : old.faults ≤ new.faults
  pub coming : (command : List ℕ) → new.coming command ≡ old.coming command
  pub asked : new.asked ≡ old.asked
