-- What whole campaigns come to: each session has the run that it would have alone.
use Rattle.std.specs.Prelude.{◌≡◌, ◌≢◌, ℕ, List, ◌++◌, length, None, Some, slice_get}
use Rattle.std.specs.Io.KnownBytes.{Appends}
use Rattle.lt_args.specs.Words.{Request}
use Rattle.lt_campaign.specs.Campaign.{AllOver, AllStart, well_count}
use Rattle.lt_campaign.specs.Parts.{frames_of, text_framed}
use Rattle.lt_campaign.specs.Rounds.{AreRounds, Parts, campaign_line, rounds_text}
use Rattle.lt_campaign.specs.Run.{Run}
use Rattle.lt_campaign.specs.Session.{Session, started}
use Rattle.lt_drive.specs.Interaction.{text_to}
use Rattle.lt_drive.specs.Told.{closed}
use Rattle.lt_io.specs.Outside.{Outside}
use Rattle.lt_io.specs.Programs.{Programs}
use Rattle.lt_loop.specs.CoreState.{CoreState}
use Rattle.lt_loop.specs.InputSource.{with_contents}
use Rattle.lt_loop.specs.Play.{Play, ends}
use Rattle.lt_loop.specs.declared.event.Destination.TheVariants as destination
use Rattle.lt_loop.specs.declared.event.Wants.TheVariants as wants
use Rattle.lt_rif.specs.declared.end.End.{End}
use Rattle.lt_step.specs.Machine.{State}
use Rattle.lt_term.specs.Scene.{Scene}
use Rattle.lt_call.specs.Due.{plays_many}
use Rattle.lt_call.specs.Given.{IsDone}
use Rattle.lt_call.specs.Laws.{IsUnbroken}
use Rattle.lt_call.specs.Run.{AreFirstCores, oracle_of, run_of, session_request}
use Rattle.lt_call.specs.declared.status.Device.TheVariants as device
use Rattle.lt_call.specs.declared.status.Status.{Status}
use Rattle.lt_call.specs.declared.status.Status.TheVariants as status

-- the run of the session of this number, from 0, as it is alone where these bytes come of its sides
abbrev pub run_of_session : Request → Scene → ℕ → List ℕ → List ℕ → Play
run_of_session request scene i c o =
    run_of (session_request request i) scene None (closed c) (closed o)

-- A session of this number, which stood first there and last here, went through its run alone to
-- this end: the text that belongs to it in the frames of the trace is the trace of that run, and its
-- sides were sent what that run has for them.
pub record IsItsRun (request : Request) (scene : Scene) (i : ℕ) (r l : Run (CoreState State))
    (rounds : List Parts) (c o : List ℕ) (e : End) : Type 0 where
  pub stop : (run_of_session request scene i c o).stop ≡ ends e
  pub traced : text_framed i (frames_of rounds)
      ≡ text_to destination.Trace (run_of_session request scene i c o).pieces
  pub controller : Appends r.standing.links.controller.sent l.standing.links.controller.sent
      (text_to destination.Controller (run_of_session request scene i c o).pieces)
  pub oracle : Appends r.standing.links.oracle.sent l.standing.links.oracle.sent
      (text_to destination.Oracle (run_of_session request scene i c o).pieces)

-- A campaign of a scenario went to its end, and its whole trace was written.
pub record AreTheirRuns (request : Request) (replay : List ℕ) (scene : Scene)
    (old new : Outside Programs) : Type 0 where
  -- as many sessions as are asked for were started, each with its core and with programs of its own
  pub cores : List (CoreState State)
  pub own : AreFirstCores request scene 0 cores
  pub mid : Programs
  pub first : List (Session State)
  pub number : length first ≡ request.count
  pub starts : AllStart (with_contents request.inputs replay) (oracle_of request.oracle) cores
      old.inputs mid first
  -- they went in rounds to their ends
  pub rounds : List Parts
  pub last : List (Session State)
  pub went : AreRounds first rounds last
  pub over : AllOver last
  -- the trace has what each had for it, in frames, and the line at the end
  pub traced : Appends old.trace.written new.trace.written
      (rounds_text rounds ++ campaign_line (length last) (well_count last))
  -- and one whose links tell what they have left, and that neither a side's fault nor a budget ended,
  -- had its run alone
  pub runs : (i : ℕ) (r l : Run (CoreState State)) (e : End) (c o : List ℕ) →
      slice_get first i ≡ Some (started r) → slice_get last i ≡ Some (started l) →
      l.broken ≡ None → l.wanted ≡ wants.Nothing e → IsUnbroken e →
      r.standing.links.controller.left ≡ Some c → r.standing.links.oracle.left ≡ Some o →
      IsItsRun request scene i r l rounds c o e

-- Where no write to the trace failed, and memory lasted, a campaign went to its end so.
abbrev pub CampaignsAreTheirRuns : Type 0
CampaignsAreTheirRuns =
    (request : Request) (replay : List ℕ) (scene : Scene) (names : List (List ℕ))
    (old new : Outside Programs) (s : Status) →
    IsDone request replay old new (plays_many scene) names s →
    ((at : ℕ) → s ≢ status.Device device.Trace at) → s ≢ status.Memory →
    AreTheirRuns request replay scene old new
