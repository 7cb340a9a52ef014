-- What the trace of a call shows, whatever its sides tell.
use Rattle.std.specs.Prelude.{◌≡◌, ◌<◌, ℕ, true, false, List, [], ◌∷◌, ◌++◌, length, None, Ok}
use Rattle.lt_rif.specs.Trace.{end_number, step_at_hand}
use Rattle.std.specs.Io.KnownBytes.{Appends}
use Rattle.std.specs.declared.option.Option.{Option}
use Rattle.lt_drive.specs.Drive.{failed_step}
use Rattle.lt_drive.specs.Interaction.{piece}
use Rattle.lt_io.specs.Outside.{Outside, Sources}
use Rattle.lt_io.specs.Causes.{WhereTold}
use Rattle.lt_loop.specs.Plan.{closing_text}
use Rattle.lt_loop.specs.Play.{Piece, Play, Stop, destination_of, ends, untold, step_count}
use Rattle.lt_loop.specs.Run.{pieces_then}
use Rattle.lt_loop.specs.declared.event.Destination.TheVariants as destination
use Rattle.lt_loop.specs.declared.event.PieceKind.{PieceKind}
use Rattle.lt_frontend.specs.Prepared.{IsScenarioAnswer}
use Rattle.lt_trace_laws.specs.Replay.{trace_text}
use Rattle.lt_trace_laws.specs.Shown.{Begins}
use Rattle.lt_rif.specs.declared.end.End.{End}
use Rattle.lt_term.specs.Scene.{Scene}
use Rattle.lt_scenario_laws.specs.Traced as traced
use Rattle.lt_args.specs.Words.{IsWithin, Request}
use Rattle.lt_args.specs.declared.words.Mode.TheVariants as mode
use Rattle.lt_call.specs.Call.{GivesDue}
use Rattle.lt_call.specs.Run.{plan_of}
use Rattle.lt_call.specs.declared.status.Device.TheVariants as device
use Rattle.lt_call.specs.declared.status.Status.{Status}
use Rattle.lt_call.specs.declared.status.Status.TheVariants as status
use Rattle.lt_call_laws.specs.Repeatable.{is_repeatable}
use Rattle.lt_call_laws.specs.Setup.{setup_of}

-- The play of the scenario on what some pieces of its run show: on the lines of the replies that the written steps show, and on
-- a true verdict for each of them, but a false one for the last where the oracle ended the run. More may come after both.
abbrev pub shown_run : Request → Scene → List Piece → Stop → Play
shown_run request scene ps stop = traced.shown_run scene request.budget (setup_of request) None ps stop

-- Pieces of a run that ended so are told by the play on what they show. A row a way.
pub data ShowsRun (request : Request) (scene : Scene) (ps : List Piece) (e : End) : Type 0 where
  -- they are the pieces of that play, which ended so
  whole : is_repeatable e ≡ true → shown_run request scene ps (ends e) ≡ record { pieces = ps; stop = ends e } → ShowsRun request scene ps e
  -- a reply was refused or missed, a side failed, or an instant was given up: that play is cut after its first pieces, which have all steps, by the end
  -- line, whose number is the one of the step at hand
  cut : (prefix : List Piece) (rest : Play) → is_repeatable e ≡ false → shown_run request scene ps (ends e) ≡ pieces_then prefix rest →
      step_count prefix ≡ step_count ps → trace_text ps ≡ trace_text prefix ++ closing_text (plan_of request scene) e (step_at_hand (step_count prefix)) → ShowsRun request scene ps e

-- Pieces of a run, up to one that was not written whole, are told by what they show with it. A row a way.
pub data ShowsPrefix (request : Request) (scene : Scene) (ps : List Piece) : Type 0 where
  -- the run wasn't over: the play on what they show begins with the same trace
  begun : Begins (shown_run request scene ps untold) ps → ShowsPrefix request scene ps
  -- it was
  over : (e : End) → ShowsRun request scene ps e → ShowsPrefix request scene ps

-- The trace of a run that ended shows it.
pub record TraceShowsRun (request : Request) (scene : Scene) (e : End) (at : ℕ) (old new : Option (List ℕ)) : Type 0 where
  pub pieces : List Piece
  pub grows : Appends old new (trace_text pieces)
  pub shows : ShowsRun request scene pieces e
  pub number : at ≡ end_number e (step_count pieces)

-- The trace of a run that a failed write cut shows it, with the rest of the piece that was written in part. The number is that of
-- the step at hand, 0 in the header.
pub record TraceShowsPart (request : Request) (scene : Scene) (at : ℕ) (old new : Option (List ℕ)) : Type 0 where
  pub pieces : List Piece
  pub kind : PieceKind
  pub prefix : List ℕ
  pub rest : List ℕ
  pub grows : Appends old new (trace_text pieces ++ prefix)
  pub to_trace : destination_of kind ≡ destination.Trace
  pub part : 0 < length rest
  pub shows : ShowsPrefix request scene (pieces ++ piece kind (prefix ++ rest) ∷ [])
  pub number : at ≡ failed_step kind (step_count pieces)

-- The bytes by which the trace of a call grew show its run, by its status; they are none where memory ran out. Other statuses
-- have no run.
abbrev pub ShowsBy : Request → Scene → Status → Option (List ℕ) → Option (List ℕ) → Type 0
ShowsBy request scene (status.Ran ending) old new = TraceShowsRun request scene ending.end ending.at old new
ShowsBy request scene (status.Device device.Trace at) old new = TraceShowsPart request scene at old new
ShowsBy request scene status.Memory old new = Appends old new []
ShowsBy request scene _ old new = Unit {0}

-- Whatever its sides tell, a call that runs a scenario leaves a trace of the replies and the verdicts that the trace shows. The
-- scenario is that of some text, which is the one of its file where that tells it.
abbrev pub TracesOfCallsShowTheirRuns : Type 0
TracesOfCallsShowTheirRuns =
    (request : Request) (told : List ℕ → Option (List ℕ)) (asked names : List (List ℕ)) (old new : Outside Sources) (s : Status) →
    IsWithin request → request.mode ≡ mode.Run → GivesDue request told asked old new names s →
    (text : List ℕ) × WhereTold (told request.file) (λ bytes. text ≡ bytes)
    × ((scene : Scene) → IsScenarioAnswer request.decimals request.node text (Ok scene) → ShowsBy request scene s old.trace.written new.trace.written)
