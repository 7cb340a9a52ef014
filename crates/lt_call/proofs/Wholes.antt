-- What follows for whole calls.
use Rattle.std.proofs.Common.{◌≡◌, ◌≢◌, ℕ, ◌⊎◌, inl, inr, Bool, true, false, List, [], ◌++◌, None, Some, refl, ap, sym, ◌∙◌, subst, arith, append-nil}
use Rattle.lt_rif.specs.Trace.{end_number}
use Rattle.std.specs.Io.KnownBytes.{Appends, Keeps}
use Rattle.std.specs.declared.option.Option.{Option}
use Rattle.lt_drive.specs.Drive.{Continuation}
use Rattle.lt_drive.specs.Interaction.{text_to}
use Rattle.lt_session.specs.Session.{IsPlayed}
use Rattle.lt_io.specs.Programs.{Programs}
use Rattle.lt_io.specs.Outside.{Outside, Sources, without_files}
use Rattle.lt_drive.specs.Told as told_streams
use Rattle.lt_drive.specs.declared.drive_end.DriveEnd.TheVariants as drive_end
use Rattle.lt_io.specs.Causes.{Rose, WhereTold}
use Rattle.lt_loop.specs.Play.{Piece, Play, Stop, ends, step_count}
use Rattle.lt_loop.specs.CoreState.{CoreState, IsAhead}
use Rattle.lt_instant.specs.Affordable.{AffordableInstantsAreNotGivenUp}
use Rattle.lt_loop.specs.GivingUp.{AffordableRunsAreTheSame, PlaysKeepToTheirRules}
use Rattle.lt_loop.specs.Machine.{GivenUp}
use Rattle.lt_loop.specs.declared.event.Destination.TheVariants as destination
use Rattle.lt_rif.specs.declared.end.End.{End}
use Rattle.lt_rif.specs.declared.end.End.TheVariants as end
use Rattle.lt_rif.specs.declared.end.Who.{Who}
use Rattle.lt_rif.specs.declared.end.Who.TheVariants as who
use Rattle.lt_session.specs.Sent.{AreSent}
use Rattle.lt_session.specs.Whole.{UndisturbedSessionsAreWhole}
use Rattle.lt_session.specs.declared.session_end.SessionEnd.{SessionEnd}
use Rattle.lt_session.specs.declared.session_end.SessionEnd.TheVariants as session_end
use Rattle.lt_step.specs.Machine.{State}
use Rattle.lt_term.specs.Scene.{Scene}
use Rattle.lt_trace.specs.Told.{Told}
use Rattle.lt_args.specs.Words.{Request}
use Rattle.lt_args.specs.declared.words.Mode.TheVariants as mode
use Rattle.lt_legal.specs.Verdict.{IsVerdict}
use Rattle.lt_legal.specs.declared.verdict.Verdict.{Verdict}
use Rattle.lt_legal.specs.declared.verdict.Verdict.TheVariants as verdict
use Rattle.lt_stress.specs.Laws.{LargeRunsAreOne}
use Rattle.lt_stress.specs.Report.{stress_line}
use Rattle.lt_stress.specs.Run.{IsRunOf, sum_told}
use Rattle.lt_call.specs.Call.{AreContents, GivesDue, IsCounted, IsText, IsTrace, broke, is_side}
use Rattle.lt_loop.specs.InputSource.{InputSource, from_nobody, from_program, from_trace, with_contents}
use Rattle.lt_call.specs.Run.{IsContinuationOf, oracle_of, run_of}
use Rattle.lt_call.specs.Due as cause
use Rattle.lt_call.specs.Due.{Answer, Contents, IsDue, Work, checks, has_file, refuses, writes, plays, plays_many, stresses}
use Rattle.lt_call.specs.Given as given
use Rattle.lt_call.specs.Given.{Gives, IsDone, PutsNothing, status_of, verdict_text}
use Rattle.lt_call.specs.Laws.{AffordableCallsAreNotGivenUp, AffordableCallsAreWhole, ContentsHaveOneDueAnswer, IsCutEarly, IsDecided, IsGivenUp, IsGivenUpAt, IsUnbroken, IsUncut, IsWhole, RefusalsAreExact, SameCallSameBytes, SidesTell, Tell, TellsText, TellsTrace, UncutCallsAreWhole, UndisturbedCallsAreUncut, WantOfMemoryWritesNothing}
use Rattle.lt_call.specs.Lines.{status_lines}
use Rattle.lt_call.proofs.Verdicts.{verdicts_are_one}
use Rattle.lt_call.proofs.Budgets.{never_given_up, nothing_given_up}
use Rattle.lt_call.specs.declared.status.Fate.TheVariants as fate
use Rattle.lt_call.specs.declared.status.Status.{Status}
use Rattle.lt_call.specs.declared.status.Status.TheVariants as status
use Rattle.lt_call.specs.declared.status.Refusal.{Refusal}
use Rattle.lt_call.specs.declared.status.Device.TheVariants as device

-- Contents that are told.

same_trace : (g : InputSource) (told : List ℕ → Option (List ℕ)) (trace other : List ℕ) → TellsTrace g told trace → IsTrace g told other → other ≡ trace
same_trace from_nobody told trace other tells is = is ∙ sym tells
same_trace (from_program command) told trace other tells is = is ∙ sym tells
same_trace (from_trace name) told trace other tells is = let P : Option (List ℕ) → Type 0 = λ o. WhereTold o (λ bytes. other ≡ bytes) in subst P tells is

same_scenario : (has : Bool) (told : Option (List ℕ)) (text other : List ℕ) → TellsText has told text → IsText has told other → other ≡ text
same_scenario false told text other tells is = is ∙ sym tells
same_scenario true told text other tells is = let P : Option (List ℕ) → Type 0 = λ o. WhereTold o (λ bytes. other ≡ bytes) in subst P tells is

-- contents that are told are the ones that were read
same_contents : (r : Request) (told : List ℕ → Option (List ℕ)) (c other : Contents) → Tell r told c → AreContents r told other → other ≡ c
same_contents r told c other tell are =
    let a : other.scenario ≡ c.scenario = same_scenario (has_file r.mode) (told r.file) c.scenario other.scenario tell.0 are.0 in
    let b : other.replay ≡ c.replay = same_trace r.inputs told c.replay other.replay tell.1 are.1 in
    ap (λ bytes. record { scenario = bytes; replay = other.replay }) a ∙ ap (λ bytes. record { scenario = c.scenario; replay = bytes }) b

-- the answer that is due to contents that are told is the one that a call gives
pub gives_this : ContentsHaveOneDueAnswer → (r : Request) (c : Contents) (told : List ℕ → Option (List ℕ)) (asked names : List (List ℕ)) (old new : Outside Sources) (s : Status) (answer : Answer) → Tell r told c → GivesDue r told asked old new names s → IsDue r c answer → Gives r c answer asked old new names s
gives_this law r c told asked names old new s answer tell gives due =
    let same : gives.0 ≡ c = same_contents r told c gives.0 tell gives.1 in
    let P : Contents → Type 0 = λ d. IsDue r d gives.2 in
    let Q : Contents → Type 0 = λ d. Gives r d gives.2 asked old new names s in
    let R : Answer → Type 0 = λ a. Gives r c a asked old new names s in
    subst R ((law r c).1 gives.2 answer (subst P same gives.3) due) (subst Q same gives.4)

-- What isn't cut is whole.

unbroken : (e : End) → IsUnbroken e → (w : Who) → e ≢ end.Device w
unbroken e h w is = let P : End → Type 0 = λ x. IsUnbroken x in absurd (subst P is h)

-- a run that ended by itself
ended_whole : UndisturbedSessionsAreWhole State → (r : Request) (trace : List ℕ) (c o : List ℕ) (scene : Scene) (k : Continuation) (core : CoreState State) (e : End) (old new : Outside Sources) (course : IsContinuationOf r scene k) → IsAhead core course.gives_up →
    IsPlayed k (with_contents r.inputs trace) (oracle_of r.oracle) (without_files old) (without_files new) core (session_end.Driven (drive_end.Ended e)) → IsUnbroken e → SidesTell r (record { scenario = []; replay = trace }) old.inputs.programs c o →
    IsWhole r trace c o (plays scene) scene.exceptions old new (status_of (session_end.Driven (drive_end.Ended e)) core.written)
ended_whole law r trace c o scene k core e old new course ahead is whole tell =
    let none : course.gives_up ≡ None = nothing_given_up k (with_contents r.inputs trace) (oracle_of r.oracle) (without_files old) (without_files new) core e course.gives_up is ahead whole in
    let l = law k (with_contents r.inputs trace) (oracle_of r.oracle) (without_files old) (without_files new) core e c o is (unbroken e whole) tell.0 tell.1 in
    let same : k.play (told_streams.closed c) (told_streams.closed o) ≡ run_of r scene None (told_streams.closed c) (told_streams.closed o) =
    course.plays (told_streams.closed c) (told_streams.closed o) ∙ ap (λ (u : Option GivenUp). run_of r scene u (told_streams.closed c) (told_streams.closed o)) none in
    let steps : core.written ≡ step_count (run_of r scene None (told_streams.closed c) (told_streams.closed o)).pieces =
    (let a = l.2 in let b = course.unwritten in omega arith) ∙ ap (λ (p : Play). step_count p.pieces) same in (
      e,
      sym (ap (λ (p : Play). p.stop) same) ∙ l.0,
      ap (λ n. status.Ran (record { end = e; at = end_number e n })) steps,
      refl,
      subst (λ (p : Play). Appends old.trace.written new.trace.written (text_to destination.Trace p.pieces)) same l.1,
      subst (λ (p : Play). AreSent (with_contents r.inputs trace) (oracle_of r.oracle) p.pieces 0 0 old.inputs.programs new.inputs.programs) same l.3,
    )

played_whole : UndisturbedSessionsAreWhole State → (r : Request) (trace : List ℕ) (c o : List ℕ) (scene : Scene) (k : Continuation) (core : CoreState State) (how : SessionEnd) (old new : Outside Sources) (course : IsContinuationOf r scene k) → IsAhead core course.gives_up →
    IsPlayed k (with_contents r.inputs trace) (oracle_of r.oracle) (without_files old) (without_files new) core how → IsUncut (status_of how core.written) → SidesTell r (record { scenario = []; replay = trace }) old.inputs.programs c o →
    IsWhole r trace c o (plays scene) scene.exceptions old new (status_of how core.written)
played_whole law r trace c o scene k core (session_end.Driven (drive_end.Ended e)) old new course ahead is u tell = ended_whole law r trace c o scene k core e old new course ahead is u tell
played_whole law r trace c o scene k core (session_end.Driven (drive_end.TraceWriteFailed step)) old new course ahead is u tell = absurd u
played_whole law r trace c o scene k core (session_end.StartFailed w) old new course ahead is u tell = absurd u
played_whole law r trace c o scene k core session_end.Memory old new course ahead is u tell = absurd u

-- a text that is kept grows by nothing
pub kept_appends : (old new : Option (List ℕ)) → Keeps old new → Appends old new []
kept_appends None None h = h
kept_appends None (Some ys) h = h
kept_appends (Some xs) None h = h
kept_appends (Some xs) (Some ys) h = h ∙ sym (append-nil xs)

done_whole : UndisturbedSessionsAreWhole State → (r : Request) (trace : List ℕ) (c o : List ℕ) (work : Work) (names : List (List ℕ)) (old new : Outside Sources) (s : Status) → IsDone r trace (without_files old) (without_files new) work names s → IsUncut s →
    SidesTell r (record { scenario = []; replay = trace }) old.inputs.programs c o → IsWhole r trace c o work names old new s
done_whole law r trace c o work names old new s (given.refused reason puts) u tell = (refl, refl, puts)
done_whole law r trace c o work names old new s (given.written text same all) u tell = (refl, refl, all)
done_whole law r trace c o work names old new s (given.cut text same part) u tell = absurd u
done_whole law r trace c o work names old new s (given.ran scene k core how course ahead is) u tell = played_whole law r trace c o scene k core how old new course ahead is u tell
done_whole law r trace c o work names old new s (given.ran_many scene cores how blamed count first is) u tell = given.ran_many scene cores how blamed count first is
done_whole law r trace c o work names old new s (given.checked scene told v is same all) u tell = (v, is, refl, refl, all, same)
done_whole law r trace c o work names old new s (given.checked_in_part scene told v is same part) u tell = absurd u
done_whole law r trace c o work names old new s (given.told n scene ps run same all) u tell = (ps, run, refl, refl, all, same)
done_whole law r trace c o work names old new s (given.told_in_part n scene ps run same part) u tell = absurd u

gives_whole : UndisturbedSessionsAreWhole State → (r : Request) (contents : Contents) (c o : List ℕ) (answer : Answer) (asked names : List (List ℕ)) (old new : Outside Sources) (s : Status) → Gives r contents answer asked old new names s → IsUncut s →
    SidesTell r contents old.inputs.programs c o → IsWhole r contents.replay c o answer.work names old new s
gives_whole law r contents c o answer asked names old new s (given.done ns t f is) u tell = done_whole law r contents.replay c o answer.work ns old new t is u tell
gives_whole law r contents c o answer asked names old new s (given.by_file k some within f puts) u tell = absurd u
gives_whole law r contents c o answer asked names old new s (given.by_memory k f puts) u tell = absurd u

pub uncut_calls_are_whole : ContentsHaveOneDueAnswer → UndisturbedSessionsAreWhole State → UncutCallsAreWhole
uncut_calls_are_whole due law r contents told names asked old new s c o answer tell gives u sides is =
    gives_whole law r contents c o answer asked names old new s (gives_this due r contents told asked names old new s answer tell gives is) u sides

-- Where the budget affords the searches, no instant is given up, and only want of memory is left.
pub affordable_calls_are_not_given_up : ContentsHaveOneDueAnswer → PlaysKeepToTheirRules State → AffordableRunsAreTheSame State → AffordableInstantsAreNotGivenUp → UndisturbedSessionsAreWhole State → AffordableCallsAreNotGivenUp
affordable_calls_are_not_given_up due keep alike law whole r contents told names asked old new s c o answer tell gives sides is alone within =
    never_given_up keep alike law whole r contents c o answer asked names old new s sides (gives_this due r contents told asked names old new s answer tell gives is) alone within

memory_or_not : (s : Status) → (s ≡ status.Memory) ⊎ (s ≢ status.Memory)
memory_or_not status.Done = inr (λ e. cc e)
memory_or_not (status.Ran ending) = inr (λ e. cc e)
memory_or_not (status.Checked v) = inr (λ e. cc e)
memory_or_not (status.Session number how) = inr (λ e. cc e)
memory_or_not (status.Usage kind) = inr (λ e. cc e)
memory_or_not (status.Refused reason) = inr (λ e. cc e)
memory_or_not (status.Device what at) = inr (λ e. cc e)
memory_or_not status.Memory = inl refl

pub affordable_calls_are_whole : AffordableCallsAreNotGivenUp → UndisturbedCallsAreUncut → UncutCallsAreWhole → WantOfMemoryWritesNothing → AffordableCallsAreWhole
affordable_calls_are_whole spared uncut whole want r contents told names asked old new s c o answer tell gives sides is alone within counts calm = by_memory (memory_or_not s)
  where
    by_memory : (s ≡ status.Memory) ⊎ (s ≢ status.Memory) → IsWhole r contents.replay c o answer.work names old new s ⊎ ((s ≡ status.Memory) × Keeps old.trace.written new.trace.written)
    by_memory (inl e) = inr (e, want r told names asked old new (subst (λ (t : Status). GivesDue r told asked old new names t) e gives))
    by_memory (inr lasts) =
        let never : IsGivenUp s → ⊥ = spared r contents told names asked old new s c o answer tell gives sides is alone within in
        inl (whole r contents told names asked old new s c o answer tell gives (uncut s old new counts calm lasts never) sides is)

-- Two calls.

keeps_all : (old new : Option (List ℕ)) (before now : List ℕ) → old ≡ Some before → new ≡ Some now → Keeps old new → now ≡ before ++ []
keeps_all None new before now e f h = absurd (cc)
keeps_all (Some xs) None before now e f h = absurd h
keeps_all (Some xs) (Some ys) before now e f h = let a : xs ≡ before = cc in let b : ys ≡ now = cc in sym b ∙ h ∙ a ∙ sym (append-nil before)

appends_all : (old new : Option (List ℕ)) (before now text : List ℕ) → old ≡ Some before → new ≡ Some now → Appends old new text → now ≡ before ++ text
appends_all None new before now text e f h = absurd (cc)
appends_all (Some xs) None before now text e f h = absurd h
appends_all (Some xs) (Some ys) before now text e f h = let a : xs ≡ before = cc in let b : ys ≡ now = cc in sym b ∙ h ∙ ap (λ t. t ++ text) a

-- the bytes of work that was done whole
abbrev bytes_of : (r : Request) (trace c o : List ℕ) (work : Work) (names : List (List ℕ)) (old new : Outside Sources) (s : Status) → IsWhole r trace c o work names old new s → List ℕ
bytes_of r trace c o (refuses reason) names old new s h = []
bytes_of r trace c o (writes text) names old new s h = text
bytes_of r trace c o (plays scene) names old new s h = text_to destination.Trace (run_of r scene None (told_streams.closed c) (told_streams.closed o)).pieces
bytes_of r trace c o (plays_many scene) names old new s h = []
bytes_of r trace c o (checks scene told) names old new s h = verdict_text told h.0
bytes_of r trace c o (stresses n scene) names old new s h = stress_line n (sum_told h.0)

-- The work leaves no choice: where it is a large run, there is one such run at most; where it is a check, one verdict but for
-- those of a budget. A campaign may go on in more than one way. All other work leaves none.
abbrev IsDetermined : ℕ → Work → Type 0
IsDetermined budget (stresses n scene) = (ps qs : List Piece) → IsRunOf n scene ps end.Limit → IsRunOf n scene qs end.Limit → ps ≡ qs
IsDetermined budget (checks scene told) = (v w : Verdict) → IsVerdict scene budget told v → IsVerdict scene budget told w → IsDecided v → IsDecided w → v ≡ w
IsDetermined budget (plays_many scene) = ⊥
IsDetermined budget _ = Unit {0}

-- work that is due leaves none, where no campaign is asked for
determined : LargeRunsAreOne → (r : Request) (contents : Contents) (answer : Answer) → r.mode ≢ mode.Campaign → IsDue r contents answer → IsDetermined r.budget answer.work
determined law r contents _ single (cause.too_long has long) = tt
determined law r contents _ single (cause.no_scenario reason way short is) = tt
determined law r contents _ single (cause.too_many_atoms scene way short is many) = tt
determined law r contents _ single (cause.unserved scene way short is few served) = tt
determined law r contents _ single (cause.long_trace scene name way short is few served inputs long) = tt
determined law r contents _ single (cause.runs scene way short is few served trace) = tt
determined law r contents _ single (cause.runs_many scene way short is few served trace) = absurd (single way)
determined law r contents _ single (cause.long_checked scene name way short is few inputs long) = tt
determined law r contents _ single (cause.bad_trace scene n way short is few trace bad) = tt
determined law r contents _ single (cause.checked scene told way short is few trace read) = verdicts_are_one scene r.budget told
determined law r contents _ single (cause.unprinted reason way short is) = tt
determined law r contents _ single (cause.prints text way short is) = tt
determined law r contents _ single (cause.stressed n scene way is) = λ ps qs h k. (law n scene ps qs end.Limit end.Limit is h k).0

-- work that leaves no choice appends its bytes
whole_bytes : (r : Request) (trace c o : List ℕ) (work : Work) (names : List (List ℕ)) (old new : Outside Sources) (s : Status) (before now : List ℕ) → IsDetermined r.budget work → old.trace.written ≡ Some before → new.trace.written ≡ Some now → (h : IsWhole r trace c o work names old new s) → now ≡ before ++ bytes_of r trace c o work names old new s h
whole_bytes r trace c o (refuses reason) names old new s before now one e f h = keeps_all old.trace.written new.trace.written before now e f h.2.trace
whole_bytes r trace c o (writes text) names old new s before now one e f h = appends_all old.trace.written new.trace.written before now text e f h.2
whole_bytes r trace c o (plays scene) names old new s before now one e f h = appends_all old.trace.written new.trace.written before now _ e f h.4
whole_bytes r trace c o (plays_many scene) names old new s before now one e f h = absurd one
whole_bytes r trace c o (checks scene told) names old new s before now one e f h = appends_all old.trace.written new.trace.written before now _ e f h.4
whole_bytes r trace c o (stresses n scene) names old new s before now one e f h = appends_all old.trace.written new.trace.written before now _ e f h.4

-- a verdict of a call that isn't cut is decided
decided : (s : Status) (v : Verdict) → s ≡ status.Checked v → IsUncut s → IsDecided v
decided s v e u = subst IsUncut e u

one_verdict : (r : Request) (scene : Scene) (told : Told) (s s' : Status) (v w : Verdict) → IsDetermined r.budget (checks scene told) → IsVerdict scene r.budget told v → IsVerdict scene r.budget told w → s ≡ status.Checked v → s' ≡ status.Checked w → IsUncut s → IsUncut s' → w ≡ v
one_verdict r scene told s s' v w one is also e f u u' = one w v also is (decided s' w f u') (decided s v e u)

-- work that leaves no choice has the same bytes each time
same_bytes : (r : Request) (trace c o : List ℕ) (work : Work) (names names' : List (List ℕ)) (old new old' new' : Outside Sources) (s s' : Status) → IsDetermined r.budget work → IsUncut s → IsUncut s' → (h : IsWhole r trace c o work names old new s) (k : IsWhole r trace c o work names' old' new' s') →
    bytes_of r trace c o work names' old' new' s' k ≡ bytes_of r trace c o work names old new s h
same_bytes r trace c o (refuses reason) names names' old new old' new' s s' one u u' h k = refl
same_bytes r trace c o (writes text) names names' old new old' new' s s' one u u' h k = refl
same_bytes r trace c o (plays scene) names names' old new old' new' s s' one u u' h k = refl
same_bytes r trace c o (plays_many scene) names names' old new old' new' s s' one u u' h k = refl
same_bytes r trace c o (checks scene told) names names' old new old' new' s s' one u u' h k = ap (verdict_text told) (one_verdict r scene told s s' h.0 k.0 one h.1 k.1 h.2 k.2 u u')
same_bytes r trace c o (stresses n scene) names names' old new old' new' s s' one u u' h k =
    ap (λ (ps : List Piece). stress_line n (sum_told ps)) (one k.0 h.0 k.1 h.1)

same_end : (s : Stop) (e f : End) → s ≡ ends e → s ≡ ends f → e ≡ f
same_end s e f h k = let both : ends e ≡ ends f = sym h ∙ k in cc

same_status : (r : Request) (trace c o : List ℕ) (work : Work) (names names' : List (List ℕ)) (old new old' new' : Outside Sources) (s s' : Status) → IsDetermined r.budget work → IsUncut s → IsUncut s' → IsWhole r trace c o work names old new s → IsWhole r trace c o work names' old' new' s' → (s ≡ s') × (names ≡ names')
same_status r trace c o (refuses reason) names names' old new old' new' s s' one u u' h k = (h.0 ∙ sym k.0, h.1 ∙ sym k.1)
same_status r trace c o (writes text) names names' old new old' new' s s' one u u' h k = (h.0 ∙ sym k.0, h.1 ∙ sym k.1)
same_status r trace c o (checks scene told) names names' old new old' new' s s' one u u' h k =
    (h.2 ∙ ap (λ (v : Verdict). status.Checked v) (sym (one_verdict r scene told s s' h.0 k.0 one h.1 k.1 h.2 k.2 u u')) ∙ sym k.2, h.3 ∙ sym k.3)
same_status r trace c o (plays scene) names names' old new old' new' s s' one u u' h k =
    let steps = step_count (run_of r scene None (told_streams.closed c) (told_streams.closed o)).pieces in
    let e : h.0 ≡ k.0 = same_end (run_of r scene None (told_streams.closed c) (told_streams.closed o)).stop h.0 k.0 h.1 k.1 in
    (h.2 ∙ ap (λ x. status.Ran (record { end = x; at = end_number x steps })) e ∙ sym k.2, h.3 ∙ sym k.3)
same_status r trace c o (plays_many scene) names names' old new old' new' s s' one u u' h k = absurd one
same_status r trace c o (stresses n scene) names names' old new old' new' s s' one u u' h k =
    (h.2 ∙ sym k.2, h.3 ∙ sym k.3)

pub same_call_same_bytes : ContentsHaveOneDueAnswer → UncutCallsAreWhole → LargeRunsAreOne → SameCallSameBytes
same_call_same_bytes due law large r contents told told' names names' asked asked' old new old' new' before now before' now' s s' c o single tell gives u sides tell' gives' u' sides' e f e' f' =
    let answer = (due r contents).0 in
    let first = law r contents told names asked old new s c o answer.0 tell gives u sides answer.1 in
    let second = law r contents told' names' asked' old' new' s' c o answer.0 tell' gives' u' sides' answer.1 in
    let det = determined large r contents answer.0 single answer.1 in
    let same = same_status r contents.replay c o answer.0.work names names' old new old' new' s s' det u u' first second in
    let bytes = same_bytes r contents.replay c o answer.0.work names names' old new old' new' s s' det u u' first second in (
      same.0,
      ap (λ ns. status_lines ns s) same.1 ∙ ap (status_lines names') same.0,
      (
        bytes_of r contents.replay c o answer.0.work names old new s first,
        whole_bytes r contents.replay c o answer.0.work names old new s before now det e f first,
        whole_bytes r contents.replay c o answer.0.work names' old' new' s' before' now' det e' f' second ∙ ap (λ b. before' ++ b) bytes,
      ),
    )

-- Refusals.

refusal_done : (r : Request) (trace : List ℕ) (work : Work) (reason : Refusal) (names : List (List ℕ)) (old new : Outside Programs) (s : Status) → work ≡ refuses reason → IsDone r trace old new work names s → PutsNothing old new × (s ≡ status.Refused reason)
refusal_done r trace work reason names old new s e (given.refused other puts) = (puts, let same : other ≡ reason = cc in ap (λ x. status.Refused x) same)
refusal_done r trace work reason names old new s e (given.written text same all) = absurd (cc)
refusal_done r trace work reason names old new s e (given.cut text same part) = absurd (cc)
refusal_done r trace work reason names old new s e (given.ran scene k core how course ahead is) = absurd (cc)
refusal_done r trace work reason names old new s e (given.ran_many scene cores how blamed count first is) = absurd (cc)
refusal_done r trace work reason names old new s e (given.checked scene told v is same all) = absurd (cc)
refusal_done r trace work reason names old new s e (given.checked_in_part scene told v is same part) = absurd (cc)
refusal_done r trace work reason names old new s e (given.told n scene ps run same all) = absurd (cc)
refusal_done r trace work reason names old new s e (given.told_in_part n scene ps run same part) = absurd (cc)

refused_so : (r : Request) (c : Contents) (reason : Refusal) (files asked names : List (List ℕ)) (old new : Outside Sources) (s : Status) → Gives r c (record { work = refuses reason; files = files }) asked old new names s →
    PutsNothing (without_files old) (without_files new) × ((s ≡ status.Refused reason) ⊎ IsCutEarly s)
refused_so r c reason files asked names old new s (given.done ns t f is) = let h = refusal_done r c.replay (refuses reason) reason ns (without_files old) (without_files new) t refl is in (h.0, inl h.1)
refused_so r c reason files asked names old new s (given.by_file k some within f puts) = (puts, inr tt)
refused_so r c reason files asked names old new s (given.by_memory k f puts) = (puts, inr tt)

pub refusals_are_exact : ContentsHaveOneDueAnswer → RefusalsAreExact
refusals_are_exact law r c told names asked files old new s reason tell gives due =
    refused_so r c reason files asked names old new s (gives_this law r c told asked names old new s (record { work = refuses reason; files = files }) tell gives due)

-- Nothing is cut where nothing failed.

-- a program that is blamed has a cause
no_side : (w : Who) (before now : ℕ) → (Rose before now → ⊥) → IsCounted (device.Program w) (is_side w w) before now → ⊥
no_side who.Controller before now none counts = none counts
no_side who.Oracle before now none counts = none counts

calm_end : (e : End) (before now : ℕ) → ((w : Who) → IsCounted (device.Program w) (broke e w) before now) → (Rose before now → ⊥) → (IsGivenUpAt e → ⊥) → IsUnbroken e
calm_end (end.Device w) before now counts none spared = no_side w before now none (counts w)
calm_end end.Normal before now counts none spared = tt
calm_end end.Limit before now counts none spared = tt
calm_end end.Oracle before now counts none spared = tt
calm_end end.Deadlock before now counts none spared = tt
calm_end (end.Raise x) before now counts none spared = tt
calm_end (end.Fault f) before now counts none spared = tt
calm_end end.TooLarge before now counts none spared = tt
calm_end (end.Malformed v f place) before now counts none spared = tt
calm_end (end.Ended v n) before now counts none spared = tt
calm_end (end.Budget n) before now counts none spared = absurd (spared tt)

pub undisturbed_calls_are_uncut : UndisturbedCallsAreUncut
undisturbed_calls_are_uncut status.Done old new counts none lasts spared = tt
undisturbed_calls_are_uncut (status.Ran ending) old new counts none lasts spared =
    calm_end ending.end old.inputs.programs.faults new.inputs.programs.faults (λ w. counts (device.Program w)) (none (device.Program who.Controller)) spared
undisturbed_calls_are_uncut (status.Session number (fate.Ran ending)) old new counts none lasts spared =
    calm_end ending.end old.inputs.programs.faults new.inputs.programs.faults (λ w. counts (device.Program w)) (none (device.Program who.Controller)) spared
undisturbed_calls_are_uncut (status.Session number (fate.Unstarted w)) old new counts none lasts spared = no_side w old.inputs.programs.faults new.inputs.programs.faults (none (device.Program w)) (counts (device.Program w))
undisturbed_calls_are_uncut (status.Checked verdict.Legal) old new counts none lasts spared = tt
undisturbed_calls_are_uncut (status.Checked (verdict.Illegal step)) old new counts none lasts spared = tt
undisturbed_calls_are_uncut (status.Checked (verdict.TooMany step)) old new counts none lasts spared = tt
undisturbed_calls_are_uncut (status.Checked (verdict.Budget need step)) old new counts none lasts spared = spared tt
undisturbed_calls_are_uncut (status.Usage kind) old new counts none lasts spared = tt
undisturbed_calls_are_uncut (status.Refused reason) old new counts none lasts spared = tt
undisturbed_calls_are_uncut (status.Device device.File at) old new counts none lasts spared = none device.File (counts device.File)
undisturbed_calls_are_uncut (status.Device (device.Program w) at) old new counts none lasts spared = no_side w old.inputs.programs.faults new.inputs.programs.faults (none (device.Program w)) (counts (device.Program w))
undisturbed_calls_are_uncut (status.Device device.Trace at) old new counts none lasts spared = none device.Trace (counts device.Trace)
undisturbed_calls_are_uncut status.Memory old new counts none lasts spared = lasts refl
