-- Calls that a device or the budget cut short, where files and sides tell what they have.
use Rattle.std.specs.Prelude.{◌≡◌, ℕ, Bool, true, List, [], ◌++◌}
use Rattle.std.specs.Io.KnownBytes.{Appends}
use Rattle.std.specs.declared.option.Option.{Option}
use Rattle.lt_args.specs.Words.{Request}
use Rattle.lt_drive.specs.Drive.{Continuation}
use Rattle.lt_drive.specs.Interaction.{text_to}
use Rattle.lt_drive.specs.Told.{closed}
use Rattle.lt_drive.specs.declared.drive_end.DriveEnd.{DriveEnd}
use Rattle.lt_io.specs.Outside.{Outside, Sources}
use Rattle.lt_loop.specs.Places.{Place}
use Rattle.lt_loop.specs.Plan.{closing_text}
use Rattle.lt_loop.specs.Play.{Piece, step_count}
use Rattle.lt_loop.specs.declared.event.Destination.TheVariants as destination
use Rattle.lt_rif.specs.Trace.{end_number}
use Rattle.lt_rif.specs.declared.end.End.{End}
use Rattle.lt_rif.specs.declared.end.End.TheVariants as end
use Rattle.lt_rif.specs.declared.end.Who.{Who}
use Rattle.lt_session.specs.Cut.{IsCutBy, IsCutText}
use Rattle.lt_session.specs.declared.session_end.SessionEnd.TheVariants as session_end
use Rattle.lt_step.specs.Machine.{State, may_give_up_next}
use Rattle.lt_term.specs.Scene.{Scene}
use Rattle.lt_call.specs.Call.{GivesDue}
use Rattle.lt_call.specs.Due.{Contents, IsDue, plays}
use Rattle.lt_call.specs.Given.{status_of}
use Rattle.lt_call.specs.Laws.{SidesTell, Tell}
use Rattle.lt_call.specs.Run.{IsContinuationOf, RunComesTo, plan_of}
use Rattle.lt_call.specs.declared.status.Status.{Status}
use Rattle.lt_call.specs.declared.status.Status.TheVariants as status
use Rattle.lt_call.specs.declared.status.Device.TheVariants as device

-- a run was ended by the fault of a side, or an instant was given up
abbrev pub IsBroken : End → Type 0
IsBroken (end.Device w) = Unit {0}
IsBroken (end.Budget need) = Unit {0}
IsBroken _ = ⊥

-- a device cut a call short, or the budget
abbrev pub IsCutShort : Status → Type 0
IsCutShort (status.Device what at) = Unit {0}
IsCutShort (status.Ran ending) = IsBroken ending.end
IsCutShort _ = ⊥

-- What the trace, which gathers texts or not, grew by in a call whose run would be on these streams, and which a device or
-- the budget cut short. A row a way.
pub data IsFront (request : Request) (scene : Scene) (c o : List ℕ) (gathers : Bool) (text : List ℕ) : Status → Type 0 where
  -- a file could not be read: nothing
  unread : text ≡ [] → IsFront request scene c o gathers text (status.Device device.File 0)
  -- a program could not be started: nothing (which side's it was is said by how the run was played)
  unstarted : (w : Who) → text ≡ [] → IsFront request scene c o gathers text (status.Device (device.Program w) 0)
  -- the run had begun: what a side's fault or a failing write left of its texts, when so many steps
  -- were put out; or of those of a run in which an instant is given up, which are the same before it
  begun : (k : Continuation) (how : DriveEnd) (steps : ℕ) → IsContinuationOf request scene k → IsCutBy how → IsCutText k c o gathers text steps how →
      IsFront request scene c o gathers text (status_of (session_end.Driven how) steps)
  -- the run comes to an instant that may be given up with this need: the texts of the pieces before
  -- that, and the end line
  given_up : (need : ℕ) (ps : List Piece) (p : Place State) →
      RunComesTo request scene (closed c) (closed o) ps p →
      may_give_up_next p.machine p.inputs need ≡ true →
      text ≡ text_to destination.Trace ps
      ++ closing_text (plan_of request scene) (end.Budget need) (end_number (end.Budget need) (step_count ps)) →
      IsFront request scene c o gathers text
      (status.Ran (record { end = end.Budget need; at = end_number (end.Budget need) (step_count ps) }))

-- Where files and sides tell what they have, and a scenario is to be run, a call that a device or the budget cut short wrote
-- nothing before the run, and in the run the first texts of its play, up to what cut it, and the end line of a side's fault or of
-- a budget.
abbrev pub CutCallsAreFronts : Type 0
CutCallsAreFronts =
    (request : Request) (contents : Contents) (told : List ℕ → Option (List ℕ)) (names asked files : List (List ℕ)) (old new : Outside Sources) (s : Status) (c o : List ℕ) (scene : Scene) →
    Tell request told contents → GivesDue request told asked old new names s → IsCutShort s → SidesTell request contents old.inputs.programs c o →
    IsDue request contents (record { work = plays scene; files = files }) →
    (text : List ℕ) × Appends old.trace.written new.trace.written text × IsFront request scene c o new.trace.gathers text s
