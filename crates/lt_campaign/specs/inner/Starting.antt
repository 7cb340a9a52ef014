-- Sessions that are started one after another.
use Rattle.std.specs.Prelude.{◌≡◌, List, [], ◌∷◌, ◌++◌, Ok, Err}
use Rattle.std.specs.declared.result.Result.{Result}
use Rattle.lt_io.specs.Programs.{Programs}
use Rattle.lt_loop.specs.CoreState.{CoreState}
use Rattle.lt_loop.specs.InputSource.{InputSource}
use Rattle.lt_campaign.specs.Campaign.{AllStart}
use Rattle.lt_campaign.specs.Session.{Session, Starts, StartsNot}
use Rattle.lt_campaign.specs.declared.starting.NoMemory.{NoMemory}

-- A session was started behind others, or memory ran out there, which left these.
abbrev pub StartsOne : {State : Type 0} → Result (Unit {0}) NoMemory → InputSource → InputSource →
    CoreState State → Programs → Programs → List (Session State) → List (Session State) → Type 0
StartsOne {State} (Ok u) controller oracle core old new before sessions =
    (s : Session State) × (sessions ≡ before ++ s ∷ []) × Starts controller oracle core old new s
StartsOne {State} (Err f) controller oracle core old new before sessions =
    (left : List (Session State)) × (sessions ≡ before ++ left) × StartsNot controller old new left

-- Memory ran out at the start of a session behind some that were started.
pub record StartsSome {State : Type 0} (controller oracle : InputSource)
    (cores : List (CoreState State))
    (old new : Programs) (sessions : List (Session State)) : Type 0 where
  pub before : List (CoreState State)
  pub core : CoreState State
  pub behind : List (CoreState State)
  pub first : List (Session State)
  pub left : List (Session State)
  pub mid : Programs
  pub all : cores ≡ before ++ core ∷ behind
  pub are : sessions ≡ first ++ left
  pub start : AllStart controller oracle before old mid first
  pub start_not : StartsNot controller mid new left

-- all sessions were started, or memory ran out at one
abbrev pub StartsAll : {State : Type 0} → Result (Unit {0}) NoMemory → InputSource → InputSource →
    List (CoreState State) → Programs → Programs → List (Session State) → Type 0
StartsAll (Ok u) controller oracle cores old new sessions =
    AllStart controller oracle cores old new sessions
StartsAll (Err f) controller oracle cores old new sessions =
    StartsSome controller oracle cores old new sessions
