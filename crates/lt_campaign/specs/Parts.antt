-- What sessions that go through rounds have for the trace, each apart from the others.
use Rattle.std.specs.Prelude.{◌≡◌, ◌+◌, ◌==◌, ℕ, if◌then◌else◌, List, [], ◌∷◌, ◌++◌, None, Some, slice_get}
use Rattle.std.specs.List.{flat_map}
use Rattle.std.specs.declared.option.Option.{Option}
use Rattle.lt_drive.specs.Drive.{continuation_of}
use Rattle.lt_drive.specs.Served.{outside}
use Rattle.lt_io.specs.Link.{Link}
use Rattle.lt_io.specs.Programs.{Programs}
use Rattle.lt_loop.specs.CoreState.{CoreState, IsAhead, core_giving_up}
use Rattle.lt_loop.specs.Event.{WantsTell}
use Rattle.lt_loop.specs.InputSource.{InputSource}
use Rattle.lt_loop.specs.Machine.{GivenUp}
use Rattle.lt_loop.specs.Run.{Answers}
use Rattle.lt_loop.specs.declared.event.Wants.TheVariants as wants
use Rattle.lt_rif.specs.declared.end.Who.{Who}
use Rattle.lt_campaign.specs.Alone.{IsPartly, own_trace}
use Rattle.lt_campaign.specs.Campaign.{AllStart, AllWantTurns}
use Rattle.lt_campaign.specs.Rounds.{AreRounds, IsRoundTo, Parts, frame, framed, rounds_text}
use Rattle.lt_campaign.specs.Run.{Run, TakesParts, text_of}
use Rattle.lt_campaign.specs.Session.{Session, started, unstarted}

-- a part, where there is one
abbrev pub parts_there : Option (Option (List ℕ)) → List (Option (List ℕ))
parts_there None = []
parts_there (Some part) = part ∷ []

-- the parts of the session of this number, round by round; in a round that was cut, a session that
-- wasn't reached has none
abbrev pub column : ℕ → List Parts → List (Option (List ℕ))
column i [] = []
column i (parts ∷ rounds) = parts_there (slice_get parts i) ++ column i rounds

-- nothing is for the trace
abbrev pub AllNone : List (Option (List ℕ)) → Type 0
AllNone [] = Unit {0}
AllNone (part ∷ parts) = (part ≡ None) × AllNone parts

-- a piece of the trace, and the number of the session that it names
pub record Framed : Type 0 where
  pub session : ℕ
  pub bytes : List ℕ

-- the frames of parts, from a session on
abbrev pub frames_from : ℕ → Parts → List Framed
frames_from session [] = []
frames_from session (None ∷ parts) = frames_from (session + 1) parts
frames_from session (Some text ∷ parts) =
    record { session = session; bytes = text } ∷ frames_from (session + 1) parts

-- those of rounds, as they stand in the trace
abbrev pub frames_of : List Parts → List Framed
frames_of [] = []
frames_of (parts ∷ rounds) = frames_from 0 parts ++ frames_of rounds

-- the text of frames
abbrev pub frames_text : List Framed → List ℕ
frames_text frames = flat_map (λ f. frame f.session f.bytes) frames

-- the text that belongs to a session: its pieces, one behind the other
abbrev pub text_framed : ℕ → List Framed → List ℕ
text_framed i [] = []
text_framed i (f ∷ frames) =
    if f.session == i then f.bytes ++ text_framed i frames else text_framed i frames

-- A session that had been started took its parts alone, through rounds with the others. Where it
-- began as sessions do, it was driven so far as a run that is alone, over its own links and a trace
-- of its own, to which the text was written that belongs to it in the frames of the rounds.
pub record WasAlone {State : Type 0} (i : ℕ) (s : Run (CoreState State))
    (last : List (Session State)) (rounds : List Parts) : Type 0 where
  pub last_run : Run (CoreState State)
  pub stands : slice_get last i ≡ Some (started last_run)
  pub took : TakesParts Answers s (column i rounds) last_run
  pub driven : s.broken ≡ None → s.wanted ≡ wants.Turn → WantsTell s.standing.core wants.Turn →
      (u : Option GivenUp) → IsAhead last_run.standing.core u →
      IsPartly (continuation_of (core_giving_up u s.standing.core))
      (outside s.standing (own_trace []))
      (outside last_run.standing (own_trace (text_framed i (frames_of rounds))))
      (core_giving_up u last_run.standing.core) last_run.wanted last_run.broken

-- Sessions that went through rounds were each alone.
pub record AreAlone {State : Type 0} (first last : List (Session State)) (rounds : List Parts) :
    Type 0 where
  -- one that had been started
  pub runs : (i : ℕ) (s : Run (CoreState State)) → slice_get first i ≡ Some (started s) →
      WasAlone i s last rounds
  -- one that hadn't is as it was, and nothing of it is in the trace
  pub others : (i : ℕ) (w : Who) (c : Option Link) → slice_get first i ≡ Some (unstarted w c) →
      (slice_get last i ≡ Some (unstarted w c)) × AllNone (column i rounds)
  -- the trace has these frames, and the text that belongs to a session is what it had for it
  pub framed : frames_text (frames_of rounds) ≡ rounds_text rounds
  pub own : (i : ℕ) → text_framed i (frames_of rounds) ≡ text_of (column i rounds)

-- However many rounds sessions went through, each was alone.
abbrev pub SessionsAreAlone : Type 0 → Type 0
SessionsAreAlone State =
    (first last : List (Session State)) (rounds : List Parts) →
    AreRounds first rounds last → AreAlone first last rounds

-- The same where a write failed in a round behind those, in which so many sessions had taken their
-- parts.
abbrev pub CutSessionsAreAlone : Type 0 → Type 0
CutSessionsAreAlone State =
    (first behind last : List (Session State)) (rounds : List Parts) (count : ℕ) (parts : Parts) →
    AreRounds first rounds behind → IsRoundTo count behind last parts →
    AreAlone first last (rounds ++ parts ∷ [])
    × (rounds_text (rounds ++ parts ∷ []) ≡ rounds_text rounds ++ framed 0 parts)

-- a session of this number begins with the core of this number, and wants a turn
pub record BeginsAt {State : Type 0} (i : ℕ) (cores : List (CoreState State))
    (s : Run (CoreState State)) : Type 0 where
  pub own : slice_get cores i ≡ Some s.standing.core
  pub calm : s.broken ≡ None
  pub turn : s.wanted ≡ wants.Turn
  pub tells : WantsTell s.standing.core wants.Turn

-- Sessions that are started with cores that want turns begin so.
abbrev pub SessionsBegin : Type 0 → Type 0
SessionsBegin State =
    (controller oracle : InputSource) (cores : List (CoreState State)) (old new : Programs)
    (sessions : List (Session State)) → AllWantTurns cores →
    AllStart controller oracle cores old new sessions →
    (i : ℕ) (s : Run (CoreState State)) → slice_get sessions i ≡ Some (started s) →
    BeginsAt i cores s
