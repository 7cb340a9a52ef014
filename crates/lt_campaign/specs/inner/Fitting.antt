-- Sessions that fit their cores, and how much is left to do.
use Rattle.std.specs.Prelude.{◌≡◌, ◌+◌, ℕ, true, List, [], ◌∷◌, None, Some}
use Rattle.std.specs.declared.option.Option.{Option}
use Rattle.lt_loop.specs.CoreState.{CoreState}
use Rattle.lt_loop.specs.Event.{WantsTell, listens}
use Rattle.lt_loop.specs.Work.{work_left}
use Rattle.lt_loop.specs.declared.event.Wants.{Wants}
use Rattle.lt_rif.specs.declared.end.Who.{Who}
use Rattle.lt_campaign.specs.Session.{Session, started, unstarted}

-- a core wants what is noted, or listens to the side that is broken
abbrev pub Fits : {State : Type 0} → Option Who → Wants → CoreState State → Type 0
Fits None wanted core = WantsTell core wanted
Fits (Some w) wanted core = listens core w ≡ true

-- the run of a session fits its core
abbrev pub IsFit : {State : Type 0} → Session State → Type 0
IsFit (started r) = Fits r.broken r.wanted r.standing.core
IsFit (unstarted w c) = Unit {0}

-- that of each does
abbrev pub AllFit : {State : Type 0} → List (Session State) → Type 0
AllFit [] = Unit {0}
AllFit (s ∷ ss) = IsFit s × AllFit ss

-- how much a session may still do
abbrev pub session_work : {State : Type 0} → Session State → ℕ
session_work (started r) = work_left r.standing.core
session_work (unstarted w c) = 0

-- how much all may
abbrev pub total_work : {State : Type 0} → List (Session State) → ℕ
total_work [] = 0
total_work (s ∷ ss) = session_work s + total_work ss
