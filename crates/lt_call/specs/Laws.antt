-- What follows for whole calls.
use Rattle.std.specs.Prelude.{◌≡◌, ◌≢◌, ℕ, ◌⊎◌, Bool, true, false, List, [], ◌++◌, None, Some}
use Rattle.lt_legal.specs.Verdict.{IsVerdict}
use Rattle.lt_legal.specs.declared.verdict.Verdict.{Verdict}
use Rattle.lt_legal.specs.declared.verdict.Verdict.TheVariants as verdict
use Rattle.lt_rif.specs.Trace.{end_number}
use Rattle.std.specs.Io.KnownBytes.{Appends, Keeps}
use Rattle.std.specs.declared.option.Option.{Option}
use Rattle.lt_drive.specs.Interaction.{text_to}
use Rattle.lt_io.specs.Programs.{Programs, Same}
use Rattle.lt_io.specs.Outside.{Outside, Sources, without_files}
use Rattle.lt_call.specs.Call.{faults_of}
use Rattle.lt_drive.specs.Told.{closed}
use Rattle.lt_io.specs.Causes.{Rose}
use Rattle.lt_loop.specs.Play.{Piece, ends, step_count}
use Rattle.lt_loop.specs.declared.event.Destination.TheVariants as destination
use Rattle.lt_rif.specs.declared.end.End.{End}
use Rattle.lt_rif.specs.declared.end.End.TheVariants as end
use Rattle.lt_loop.specs.CoreView.{stream_of}
use Rattle.lt_session.specs.Missed.{IsMissed}
use Rattle.lt_session.specs.Sent.{AreSent}
use Rattle.lt_term.specs.Scene.{Scene}
use Rattle.lt_session.specs.Told.{Gives as Tells, GivesBeside as TellsBeside}
use Rattle.lt_stress.specs.Report.{stress_line}
use Rattle.lt_stress.specs.Run.{IsRunOf, sum_told}
use Rattle.lt_args.specs.Words.{Request}
use Rattle.lt_args.specs.declared.words.Mode.TheVariants as mode
use Rattle.lt_call.specs.Call.{GivesDue, IsCounted, blames}
use Rattle.lt_loop.specs.InputSource.{InputSource, from_trace, with_contents}
use Rattle.lt_call.specs.Run.{RunIsAffordable, oracle_of, plan_of, run_of}
use Rattle.lt_call.specs.Due.{Answer, Contents, IsDue, IsNoCampaign, Work, checks, refuses, writes, plays, plays_many, stresses, has_file}
use Rattle.lt_call.specs.Given.{IsDone, PutsNothing, verdict_text}
use Rattle.lt_call.specs.Lines.{status_lines}
use Rattle.lt_call.specs.declared.status.Fate.{Fate}
use Rattle.lt_call.specs.declared.status.Fate.TheVariants as fate
use Rattle.lt_call.specs.declared.status.Status.{Status}
use Rattle.lt_call.specs.declared.status.Status.TheVariants as status
use Rattle.lt_call.specs.declared.status.Refusal.{Refusal}
use Rattle.lt_call.specs.declared.status.Device.{Device}
use Rattle.lt_call.specs.declared.status.Device.TheVariants as device

-- Some answer is due to a request, and no other one.
abbrev pub ContentsHaveOneDueAnswer : Type 0
ContentsHaveOneDueAnswer =
    (request : Request) (contents : Contents) →
    ((answer : Answer) × IsDue request contents answer)
    × ((answer other : Answer) → IsDue request contents answer → IsDue request contents other → answer ≡ other)

-- the file of the trace that a source takes tells these contents
abbrev pub TellsTrace : InputSource → (List ℕ → Option (List ℕ)) → List ℕ → Type 0
TellsTrace (from_trace name) told trace = told name ≡ Some trace
TellsTrace _ told trace = trace ≡ []

-- the scenario's file tells this text; it is empty in a mode that has no such file
abbrev pub TellsText : Bool → Option (List ℕ) → List ℕ → Type 0
TellsText true told text = told ≡ Some text
TellsText false told text = text ≡ []

-- the files that a request asks for tell these contents; where it asks for no earlier trace, that is empty
abbrev pub Tell : Request → (List ℕ → Option (List ℕ)) → Contents → Type 0
Tell request told contents = TellsText (has_file request.mode) (told request.file) contents.scenario × TellsTrace request.inputs told contents.replay

-- what comes of both sides of a run is told to be these bytes
abbrev pub SidesTell : Request → Contents → Programs → List ℕ → List ℕ → Type 0
SidesTell request contents programs c o =
    Tells (with_contents request.inputs contents.replay) programs c
    × TellsBeside (with_contents request.inputs contents.replay) (oracle_of request.oracle) programs o

-- no run was ended by the fault of a side, and no instant of one was given up
abbrev pub IsUnbroken : End → Type 0
IsUnbroken (end.Device w) = ⊥
IsUnbroken (end.Budget need) = ⊥
IsUnbroken _ = Unit {0}

-- no search of a check was given up
abbrev pub IsDecided : Verdict → Type 0
IsDecided (verdict.Budget need step) = ⊥
IsDecided _ = Unit {0}

-- no program of a session failed, and no instant of it was given up
abbrev pub IsUnbrokenFate : Fate → Type 0
IsUnbrokenFate (fate.Ran ending) = IsUnbroken ending.end
IsUnbrokenFate (fate.Unstarted w) = ⊥

-- no device failed, memory lasted, and no instant or search was given up
abbrev pub IsUncut : Status → Type 0
IsUncut (status.Device what at) = ⊥
IsUncut status.Memory = ⊥
IsUncut (status.Ran ending) = IsUnbroken ending.end
IsUncut (status.Checked v) = IsDecided v
IsUncut (status.Session number how) = IsUnbrokenFate how
IsUncut _ = Unit {0}

-- Work is done whole, where this is the earlier trace, and these bytes come of the two sides: its status, the names of its
-- exceptions, the text by which the trace grows, and what both sides were sent.
abbrev pub IsWhole : Request → List ℕ → List ℕ → List ℕ → Work → List (List ℕ) → Outside Sources → Outside Sources → Status → Type 0
IsWhole request trace c o (refuses reason) names old new s = (s ≡ status.Refused reason) × (names ≡ []) × PutsNothing (without_files old) (without_files new)
IsWhole request trace c o (writes text) names old new s = (s ≡ status.Done) × (names ≡ []) × Appends old.trace.written new.trace.written text
IsWhole request trace c o (plays scene) names old new s =
    (e : End) × ((run_of request scene None (closed c) (closed o)).stop ≡ ends e)
    × (s ≡ status.Ran (record { end = e; at = end_number e (step_count (run_of request scene None (closed c) (closed o)).pieces) }))
    × (names ≡ scene.exceptions)
    × Appends old.trace.written new.trace.written (text_to destination.Trace (run_of request scene None (closed c) (closed o)).pieces)
    × AreSent (with_contents request.inputs trace) (oracle_of request.oracle) (run_of request scene None (closed c) (closed o)).pieces 0 0 old.inputs.programs new.inputs.programs
IsWhole request trace c o (plays_many scene) names old new s =
    IsDone request trace (without_files old) (without_files new) (plays_many scene) names s
IsWhole request trace c o (checks scene told) names old new s =
    (v : Verdict) × IsVerdict scene request.budget told v × (s ≡ status.Checked v) × (names ≡ [])
    × Appends old.trace.written new.trace.written (verdict_text told v) × Same old.inputs.programs new.inputs.programs
IsWhole request trace c o (stresses n scene) names old new s =
    (ps : List Piece) × IsRunOf n scene ps end.Limit × (s ≡ status.Done) × (names ≡ [])
    × Appends old.trace.written new.trace.written (stress_line n (sum_told ps)) × Same old.inputs.programs new.inputs.programs

-- What isn't cut is whole: where files and sides tell what they have, a call that neither a device nor want of memory nor a
-- budget cuts short does its work whole.
abbrev pub UncutCallsAreWhole : Type 0
UncutCallsAreWhole =
    (request : Request) (contents : Contents) (told : List ℕ → Option (List ℕ)) (names asked : List (List ℕ)) (old new : Outside Sources) (s : Status) (c o : List ℕ) (answer : Answer) →
    Tell request told contents → GivesDue request told asked old new names s → IsUncut s → SidesTell request contents old.inputs.programs c o → IsDue request contents answer →
    IsWhole request contents.replay c o answer.work names old new s

-- Two calls that ask for the same of the same contents, of which the same comes of both sides, and that neither a device nor
-- want of memory nor a budget cuts short, have the same status, say the same, and append the same bytes to their traces,
-- whatever these held before. Of campaigns that isn't said: how the bytes of programs come decides in which round a session has
-- which event.
abbrev pub SameCallSameBytes : Type 0
SameCallSameBytes =
    (request : Request) (contents : Contents) (told told' : List ℕ → Option (List ℕ)) (names names' asked asked' : List (List ℕ)) (old new old' new' : Outside Sources) (before now before' now' : List ℕ) (s s' : Status) (c o : List ℕ) →
    request.mode ≢ mode.Campaign →
    Tell request told contents → GivesDue request told asked old new names s → IsUncut s → SidesTell request contents old.inputs.programs c o →
    Tell request told' contents → GivesDue request told' asked' old' new' names' s' → IsUncut s' → SidesTell request contents old'.inputs.programs c o →
    old.trace.written ≡ Some before → new.trace.written ≡ Some now → old'.trace.written ≡ Some before' → new'.trace.written ≡ Some now' →
    (s ≡ s') × (status_lines names s ≡ status_lines names' s') × ((bytes : List ℕ) × (now ≡ before ++ bytes) × (now' ≡ before' ++ bytes))

-- a file could not be read, or memory ran out
abbrev pub IsCutEarly : Status → Type 0
IsCutEarly (status.Device device.File at) = Unit {0}
IsCutEarly status.Memory = Unit {0}
IsCutEarly _ = ⊥

-- Where a refusal is due, nothing is put out, and the status is that refusal, unless a file could not be read or memory
-- ran out.
abbrev pub RefusalsAreExact : Type 0
RefusalsAreExact =
    (request : Request) (contents : Contents) (told : List ℕ → Option (List ℕ)) (names asked files : List (List ℕ)) (old new : Outside Sources) (s : Status) (reason : Refusal) →
    Tell request told contents → GivesDue request told asked old new names s → IsDue request contents (record { work = refuses reason; files = files }) →
    PutsNothing (without_files old) (without_files new) × ((s ≡ status.Refused reason) ⊎ IsCutEarly s)

-- an instant of a run was given up
abbrev pub IsGivenUpAt : End → Type 0
IsGivenUpAt (end.Budget need) = Unit {0}
IsGivenUpAt _ = ⊥

-- an instant of a session was given up
abbrev pub IsGivenUpFate : Fate → Type 0
IsGivenUpFate (fate.Ran ending) = IsGivenUpAt ending.end
IsGivenUpFate (fate.Unstarted w) = ⊥

-- an instant of a run was given up, or a search of a check
abbrev pub IsGivenUp : Status → Type 0
IsGivenUp (status.Ran ending) = IsGivenUpAt ending.end
IsGivenUp (status.Checked (verdict.Budget need step)) = Unit {0}
IsGivenUp (status.Session number how) = IsGivenUpFate how
IsGivenUp _ = ⊥

-- Where no device's count of faults rose, memory didn't run out, and nothing was given up, a call isn't cut.
abbrev pub UndisturbedCallsAreUncut : Type 0
UndisturbedCallsAreUncut =
    (s : Status) (old new : Outside Sources) → ((what : Device) → IsCounted what (blames s what) (faults_of what old) (faults_of what new)) →
    ((what : Device) → Rose (faults_of what old) (faults_of what new) → ⊥) → s ≢ status.Memory →
    (IsGivenUp s → ⊥) → IsUncut s

-- the run of work, if it is one of a scenario, affords its searches on these streams; and no search of a check may be given up
abbrev pub WorkIsAffordable : Request → List ℕ → List ℕ → Work → Type 0
WorkIsAffordable request c o (plays scene) = RunIsAffordable request scene (closed c) (closed o)
WorkIsAffordable request c o (checks scene told) =
    (need step : ℕ) → IsVerdict scene request.budget told (verdict.Budget need step) → ⊥
WorkIsAffordable request c o other = Unit {0}

-- Where files and sides tell what they have, and each leaf at which the draws of the run arrive, or that a check asks, has a
-- need within the budget, a call that makes no campaign gives nothing up.
abbrev pub AffordableCallsAreNotGivenUp : Type 0
AffordableCallsAreNotGivenUp =
    (request : Request) (contents : Contents) (told : List ℕ → Option (List ℕ))
    (names asked : List (List ℕ)) (old new : Outside Sources) (s : Status) (c o : List ℕ)
    (answer : Answer) →
    Tell request told contents → GivesDue request told asked old new names s →
    SidesTell request contents old.inputs.programs c o → IsDue request contents answer →
    IsNoCampaign answer.work → WorkIsAffordable request c o answer.work → IsGivenUp s → ⊥

-- Where, besides, no device's count of faults rose, a call does its work whole, or memory ran out and
-- nothing was written.
abbrev pub AffordableCallsAreWhole : Type 0
AffordableCallsAreWhole =
    (request : Request) (contents : Contents) (told : List ℕ → Option (List ℕ))
    (names asked : List (List ℕ)) (old new : Outside Sources) (s : Status) (c o : List ℕ)
    (answer : Answer) →
    Tell request told contents → GivesDue request told asked old new names s →
    SidesTell request contents old.inputs.programs c o → IsDue request contents answer →
    IsNoCampaign answer.work → WorkIsAffordable request c o answer.work →
    ((what : Device) → IsCounted what (blames s what) (faults_of what old) (faults_of what new)) →
    ((what : Device) → Rose (faults_of what old) (faults_of what new) → ⊥) →
    IsWhole request contents.replay c o answer.work names old new s
    ⊎ ((s ≡ status.Memory) × Keeps old.trace.written new.trace.written)

-- Where files and sides tell what they have, a call that neither a device nor want of memory nor a budget cuts short ends by
-- a reply of a side that is refused, or missing, only where that is the next one that its run needs: one whole reply of that side for each
-- of the run's steps stands before.
abbrev pub RepliesAreMissedOnlySo : Type 0
RepliesAreMissedOnlySo =
    (request : Request) (contents : Contents) (told : List ℕ → Option (List ℕ)) (names asked files : List (List ℕ)) (old new : Outside Sources) (s : Status) (c o : List ℕ) (scene : Scene) (e : End) (at : ℕ) →
    Tell request told contents → GivesDue request told asked old new names s → IsUncut s → SidesTell request contents old.inputs.programs c o →
    IsDue request contents (record { work = plays scene; files = files }) → s ≡ status.Ran (record { end = e; at = at }) →
    IsMissed (plan_of request scene) (stream_of (closed c)) (stream_of (closed o)) (step_count (run_of request scene None (closed c) (closed o)).pieces) e

-- Where memory ran out, nothing was written. A run has not begun then; only a large one may have ended, whose line comes after it.
abbrev pub WantOfMemoryWritesNothing : Type 0
WantOfMemoryWritesNothing =
    (request : Request) (told : List ℕ → Option (List ℕ)) (names asked : List (List ℕ)) (old new : Outside Sources) →
    GivesDue request told asked old new names status.Memory → Keeps old.trace.written new.trace.written
