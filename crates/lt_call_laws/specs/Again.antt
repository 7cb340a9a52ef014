-- Calls that play a run again from its own trace.
use Rattle.std.specs.Prelude.{◌≡◌, ◌≤◌, ℕ, true, List, ◌++◌, length, None, Some}
use Rattle.std.specs.declared.option.Option.{Option}
use Rattle.lt_drive.specs.Told.{closed}
use Rattle.lt_loop.specs.CoreView.{stream_of}
use Rattle.lt_loop.specs.InputSource.{from_trace}
use Rattle.lt_rif.specs.Reply.{longest}
use Rattle.lt_session.specs.Told.{Gives as Tells}
use Rattle.lt_term.specs.Scene.{Scene}
use Rattle.lt_scenario_laws.specs.Traced.{opening_length}
use Rattle.lt_args.specs.Settings.{longest_replay, most_seed}
use Rattle.lt_args.specs.Words.{IsWithin, Request}
use Rattle.lt_args.specs.declared.words.Mode.TheVariants as mode
use Rattle.lt_call.specs.Call.{GivesDue}
use Rattle.lt_call.specs.Run.{oracle_of}
use Rattle.lt_call.specs.Due.{Contents, HasScene}
use Rattle.lt_call.specs.Laws.{IsUncut, SidesTell, Tell}
use Rattle.lt_call.specs.Lines.{status_lines}
use Rattle.lt_io.specs.Outside.{Outside, Sources}
use Rattle.lt_call.specs.declared.status.Ending.{Ending}
use Rattle.lt_call.specs.declared.status.Status.{Status}
use Rattle.lt_call.specs.declared.status.Status.TheVariants as status
use Rattle.lt_call_laws.specs.Repeatable.{is_repeatable}
use Rattle.lt_call_laws.specs.Setup.{setup_of}

-- the same request, but with the file of an earlier trace in place of its controller
abbrev pub replaying : List ℕ → Request → Request
replaying name request = record request { inputs = from_trace name }

-- the same contents, but with this earlier trace
abbrev pub with_trace : List ℕ → Contents → Contents
with_trace trace contents = record contents { replay = trace }

-- A call ran this scenario on these bytes of its two sides, and appended these bytes to its trace. It ended in a way that can be
-- played again, and what it appended can be: it isn't too long, and its header and its first step have room in one reply.
pub record HasRun (request : Request) (contents : Contents) (scene : Scene) (told : List ℕ → Option (List ℕ)) (asked names : List (List ℕ)) (old new : Outside Sources) (ending : Ending) (c o before bytes : List ℕ) : Type 0 where
  pub running : request.mode ≡ mode.Run
  pub within : IsWithin request
  pub seed : request.seed ≤ most_seed
  pub has_scene : HasScene request contents scene
  pub tell : Tell request told contents
  pub sides : SidesTell request contents old.inputs.programs c o
  pub gives : GivesDue request told asked old new names (status.Ran ending)
  pub replayable : is_repeatable ending.end ≡ true
  pub written_before : old.trace.written ≡ Some before
  pub written_after : new.trace.written ≡ Some (before ++ bytes)
  pub short : length bytes ≤ longest_replay
  pub room : opening_length scene request.budget (setup_of request) None (stream_of (closed c)) ≤ longest

-- A call plays these bytes again: it asks for the same, but with a file of them in place of the controller, the same bytes come of
-- its oracle, and neither a device nor want of memory nor a budget cuts it short.
pub record IsReplay (request : Request) (contents : Contents) (told : List ℕ → Option (List ℕ)) (asked names : List (List ℕ)) (old new : Outside Sources) (s : Status) (o bytes name : List ℕ) : Type 0 where
  pub tell : Tell (replaying name request) told (with_trace bytes contents)
  pub oracle : Tells (oracle_of request.oracle) old.inputs.programs o
  pub gives : GivesDue (replaying name request) told asked old new names s
  pub uncut : IsUncut s

-- A call that plays again what an earlier one appended to its trace appends the same bytes, has the same status, and says
-- the same.
abbrev pub ReplayedCallsAreTheSame : Type 0
ReplayedCallsAreTheSame =
    (request : Request) (contents : Contents) (scene : Scene) (told told' : List ℕ → Option (List ℕ)) (asked names asked' names' : List (List ℕ)) (old new old' new' : Outside Sources) (ending : Ending) (s' : Status) (c o before bytes name before' : List ℕ) →
    HasRun request contents scene told asked names old new ending c o before bytes →
    IsReplay request contents told' asked' names' old' new' s' o bytes name → old'.trace.written ≡ Some before' →
    (s' ≡ status.Ran ending) × (status_lines names' s' ≡ status_lines names (status.Ran ending)) × (new'.trace.written ≡ Some (before' ++ bytes))
