-- What an instant that is given up leaves of a run.
use Rattle.std.proofs.Common.{◌≡◌, ◌≢◌, ℕ, false, List, [], ◌∷◌, ◌++◌, None, refl, ap, sym, ◌∙◌, subst, append-nil, arith}
use Rattle.std.specs.declared.option.Option.{Option}
use Rattle.lt_args.specs.Words.{Request}
use Rattle.lt_drive.proofs.Interactions.{step_count-append, text_to-append}
use Rattle.lt_drive.specs.Drive.{Continuation, IsDriven, ended as whole, failed, untraced}
use Rattle.lt_drive.specs.Interaction.{piece, text_to}
use Rattle.lt_drive.specs.Told.{closed}
use Rattle.lt_drive.specs.declared.drive_end.DriveEnd.{DriveEnd}
use Rattle.lt_drive.specs.declared.drive_end.DriveEnd.TheVariants as drive_end
use Rattle.lt_instant.specs.Affordable.{AffordableInstantsAreNotGivenUp}
use Rattle.lt_instant.specs.Instant as i
use Rattle.lt_io.specs.Outside.{Links, Outside, Sources, without_files}
use Rattle.lt_io.specs.Programs.{Programs}
use Rattle.lt_loop.specs.CoreState.{CoreState, IsAhead, IsAheadIn, given_up}
use Rattle.lt_loop.specs.CoreView.{stream_of}
use Rattle.lt_loop.specs.GivingUp.{AffordableRunsAreTheSame, KnowNoBudget, PlaysKeepToTheirRules}
use Rattle.lt_loop.specs.InputSource.{InputSource, with_contents}
use Rattle.lt_loop.specs.Machine.{GivenUp, over}
use Rattle.lt_loop.specs.Plan.{Plan, closing_text}
use Rattle.lt_loop.specs.Play.{Piece, Play, ended, ends, step_count}
use Rattle.lt_loop.specs.Run.{pieces_then}
use Rattle.lt_loop.specs.Side.{Rest}
use Rattle.lt_loop.specs.declared.event.Destination.TheVariants as destination
use Rattle.lt_loop.specs.declared.event.PieceKind.TheVariants as piece_kind
use Rattle.lt_loop.specs.declared.machine.ScenarioEnd.TheVariants as scenario_end
use Rattle.lt_loop.specs.declared.phase.Phase.{Phase}
use Rattle.lt_loop.specs.declared.phase.Phase.TheVariants as phase
use Rattle.lt_num.specs.declared.value.Value.{Value}
use Rattle.lt_play.specs.Rules.{instant_by, scenario_rules}
use Rattle.lt_rif.specs.Trace.{end_number}
use Rattle.lt_rif.specs.declared.end.End.{End}
use Rattle.lt_rif.specs.declared.end.End.TheVariants as end
use Rattle.lt_session.specs.Session as session
use Rattle.lt_session.specs.Session.{IsPlayed}
use Rattle.lt_session.specs.Whole.{UndisturbedSessionsAreWhole}
use Rattle.lt_session.specs.declared.session_end.SessionEnd.{SessionEnd}
use Rattle.lt_session.specs.declared.session_end.SessionEnd.TheVariants as session_end
use Rattle.lt_step.specs.Machine as step
use Rattle.lt_step.specs.Machine.{CanAffordIn, State, answered, finished, may_give_up_in, running, step_in}
use Rattle.lt_legal.specs.Verdict.{IsVerdict}
use Rattle.lt_legal.specs.declared.verdict.Verdict.{Verdict}
use Rattle.lt_legal.specs.declared.verdict.Verdict.TheVariants as verdict
use Rattle.lt_term.specs.Scene.{Scene}
use Rattle.lt_call.specs.Due.{Answer, Contents, IsNoCampaign, Work}
use Rattle.lt_call.specs.Given as given
use Rattle.lt_call.specs.Given.{Gives, IsDone, status_of}
use Rattle.lt_call.specs.Laws.{IsGivenUp, IsGivenUpAt, IsUnbroken, SidesTell, WorkIsAffordable}
use Rattle.lt_call.specs.Run.{IsContinuationOf, RunIsAffordable, first_machine, oracle_of, plan_of, run_of}
use Rattle.lt_call.specs.declared.status.Ending.{Ending}
use Rattle.lt_call.specs.declared.status.Fate.{Fate}
use Rattle.lt_call.specs.declared.status.Status.{Status}
use Rattle.lt_call.specs.declared.status.Status.TheVariants as status

-- ---- the run itself never ends by a budget

instant_never : (m : State) (made : i.Instant) (need : ℕ) → instant_by (answered m made) ≢ over (scenario_end.Budget need)
instant_never m (i.values outputs locals next) need = λ is. cc is
instant_never m i.normal need = λ is. cc is
instant_never m (i.raise z) need = λ is. cc is
instant_never m i.deadlock need = λ is. cc is
instant_never m (i.fault f) need = λ is. cc is
instant_never m i.too_large need = λ is. cc is

step_never : (m : State) (p : step.Phase) (y : List Value) (need : ℕ) → instant_by (step_in m p y) ≢ over (scenario_end.Budget need)
step_never m (running c locals) y need = instant_never m (i.instant_of m.scene m.seed m.draw c y) need
step_never m finished y need = λ is. cc is

pub knows_no_budget : KnowNoBudget scenario_rules
knows_no_budget m y need = step_never m m.phase y need

pub never_ends : PlaysKeepToTheirRules State → (r : Request) (scene : Scene) (c o : Rest) (need : ℕ) → (run_of r scene None c o).stop ≢ ends (end.Budget need)
never_ends keep r scene c o need = keep scenario_rules (plan_of r scene) r.limit (first_machine r scene) (stream_of c) (stream_of o) knows_no_budget need

-- ---- what a run that is given up puts out

-- its text and its steps
pub text_of_cut : (plan : Plan) (e : End) (n : ℕ) (ps : List Piece) → text_to destination.Trace (pieces_then ps (ended plan e n)).pieces ≡ text_to destination.Trace ps ++ closing_text plan e n
text_of_cut plan e n ps =
    text_to-append destination.Trace ps (piece piece_kind.EndLine (closing_text plan e n) ∷ []) ∙ ap (λ (t : List ℕ). text_to destination.Trace ps ++ t) (append-nil (closing_text plan e n))

pub steps_of_cut : (plan : Plan) (e : End) (n : ℕ) (ps : List Piece) → step_count (pieces_then ps (ended plan e n)).pieces ≡ step_count ps
steps_of_cut plan e n ps = omega (arith, step_count-append ps (piece piece_kind.EndLine (closing_text plan e n) ∷ []))

-- ---- what the end of a run tells of it

pub over_driven : (k : Continuation) (old new : Outside Links) (core : CoreState State) (how : DriveEnd) (e : End) → IsDriven k old new core how → how ≡ drive_end.Ended e → core.phase ≡ phase.Over e
over_driven k old new core _ e (whole received ps f is interaction history counts stands) same = stands ∙ ap phase.Over (cc same)
over_driven k old new core _ e (failed received pieces w gives interaction history counts stands) same = stands ∙ ap phase.Over (cc same)
over_driven k old new core _ e (untraced received fault pieces kind prefix rest gives goes some interaction history counts) same = absurd (cc same)

over_played : (k : Continuation) (controller oracle : InputSource) (old new : Outside Programs) (core : CoreState State) (how : SessionEnd) (e : End) → IsPlayed k controller oracle old new core how → how ≡ session_end.Driven (drive_end.Ended e) → core.phase ≡ phase.Over e
over_played k controller oracle old new core _ e (session.driven c c' o o' p q r how opens opened drove closes closed_later) same = over_driven k _ _ core how e drove (cc same)
over_played k controller oracle old new core _ e (session.no_controller command why unstarted kept) same = absurd (cc same)
over_played k controller oracle old new core _ e (session.no_oracle command c p q why opens unstarted closes kept) same = absurd (cc same)
over_played k controller oracle old new core _ e (session.memory_at_first inputs kept) same = absurd (cc same)
over_played k controller oracle old new core _ e (session.memory_later c p q opens inputs closes kept) same = absurd (cc same)

pub none_told : (e : End) (k : ℕ) → IsUnbroken e → given_up e k ≡ None
none_told end.Normal k calm = refl
none_told end.Limit k calm = refl
none_told end.Oracle k calm = refl
none_told end.Deadlock k calm = refl
none_told (end.Raise x) k calm = refl
none_told (end.Fault f) k calm = refl
none_told end.TooLarge k calm = refl
none_told (end.Malformed w f place) k calm = refl
none_told (end.Ended w n) k calm = refl
none_told (end.Device w) k calm = absurd calm
none_told (end.Budget need) k calm = absurd calm

-- where it ended by itself, and not by a budget, nothing was given up
pub nothing_given_up : (k : Continuation) (controller oracle : InputSource) (old new : Outside Programs) (core : CoreState State) (e : End) (u : Option GivenUp) →
    IsPlayed k controller oracle old new core (session_end.Driven (drive_end.Ended e)) → IsAhead core u → IsUnbroken e → u ≡ None
nothing_given_up k controller oracle old new core e u is ahead calm =
    let stands : core.phase ≡ phase.Over e = over_played k controller oracle old new core (session_end.Driven (drive_end.Ended e)) e is refl in
    let told : IsAheadIn (phase.Over e) core.written u = subst (λ (p : Phase). IsAheadIn p core.written u) stands ahead in
    told ∙ none_told e core.written calm

-- ---- where the budget affords the searches

same_end : (a b : End) (n m : ℕ) → status.Ran (record { end = a; at = n }) ≡ status.Ran (record { end = b; at = m }) → a ≡ b
same_end a b n m is =
    let x : Ending = record { end = a; at = n } in
    let y : Ending = record { end = b; at = m } in
    let both : x ≡ y = cc is in
    ap (λ (ending : Ending). ending.end) both

ended_so : (how : SessionEnd) (steps need at : ℕ) → status_of how steps ≡ status.Ran (record { end = end.Budget need; at = at }) → how ≡ session_end.Driven (drive_end.Ended (end.Budget need))
ended_so (session_end.Driven (drive_end.Ended e)) steps need at is = ap (λ (x : End). session_end.Driven (drive_end.Ended x)) (same_end e (end.Budget need) (end_number e steps) at is)
ended_so (session_end.Driven (drive_end.TraceWriteFailed n)) steps need at is = absurd (cc is)
ended_so (session_end.StartFailed w) steps need at is = absurd (cc is)
ended_so session_end.Memory steps need at is = absurd (cc is)

-- a run has no verdict
never_checked : (how : SessionEnd) (steps : ℕ) (v : Verdict) → status_of how steps ≡ status.Checked v → ⊥
never_checked (session_end.Driven (drive_end.Ended e)) steps v is = cc is
never_checked (session_end.Driven (drive_end.TraceWriteFailed n)) steps v is = cc is
never_checked (session_end.StartFailed w) steps v is = cc is
never_checked session_end.Memory steps v is = cc is

-- nor is it a session
never_session : (how : SessionEnd) (steps number : ℕ) (its : Fate) → status_of how steps ≡ status.Session number its → ⊥
never_session (session_end.Driven (drive_end.Ended e)) steps number its is = cc is
never_session (session_end.Driven (drive_end.TraceWriteFailed n)) steps number its is = cc is
never_session (session_end.StartFailed w) steps number its is = cc is
never_session session_end.Memory steps number its is = cc is

-- an instant that can be afforded may not be given up
afforded : AffordableInstantsAreNotGivenUp → (m : State) (p : step.Phase) (y : List Value) → CanAffordIn m p y → (need : ℕ) → may_give_up_in m p y need ≡ false
afforded law m (running c locals) y within need = law m.scene m.seed m.draw m.budget c y within need
afforded law m finished y within need = refl

module _ (keep : PlaysKeepToTheirRules State) (alike : AffordableRunsAreTheSame State) (law : AffordableInstantsAreNotGivenUp) (sessions : UndisturbedSessionsAreWhole State) (r : Request) (trace c o : List ℕ) (old new : Outside Sources) (sides : SidesTell r (record { scenario = []; replay = trace }) old.inputs.programs c o) where
  never_so : (need : ℕ) (scene : Scene) → RunIsAffordable r scene (closed c) (closed o) → (u : Option GivenUp) → (run_of r scene u (closed c) (closed o)).stop ≢ ends (end.Budget need)
  never_so need scene within u stops =
      let same : run_of r scene u (closed c) (closed o) ≡ run_of r scene None (closed c) (closed o) =
      alike scenario_rules (plan_of r scene) r.limit (first_machine r scene) (stream_of (closed c)) (stream_of (closed o)) (λ n q less stands. afforded law q.machine q.machine.phase q.inputs (within n q less stands)) u in
      never_ends keep r scene (closed c) (closed o) need (sym (ap (λ (p : Play). p.stop) same) ∙ stops)

  never_played : (need : ℕ) (scene : Scene) → RunIsAffordable r scene (closed c) (closed o) → (k : Continuation) (core : CoreState State) (how : SessionEnd) (course : IsContinuationOf r scene k) →
      IsPlayed k (with_contents r.inputs trace) (oracle_of r.oracle) (without_files old) (without_files new) core how → how ≢ session_end.Driven (drive_end.Ended (end.Budget need))
  never_played need scene within k core how course is same =
      let so = subst (λ (h : SessionEnd). IsPlayed k (with_contents r.inputs trace) (oracle_of r.oracle) (without_files old) (without_files new) core h) same is in
      let all = sessions k (with_contents r.inputs trace) (oracle_of r.oracle) (without_files old) (without_files new) core (end.Budget need) c o so (λ w e. cc e) sides.0 sides.1 in
      never_so need scene within course.gives_up (sym (ap (λ (p : Play). p.stop) (course.plays (closed c) (closed o))) ∙ all.0)

  never_ran : (scene : Scene) → RunIsAffordable r scene (closed c) (closed o) → (k : Continuation) (core : CoreState State) (how : SessionEnd) (course : IsContinuationOf r scene k) →
      IsPlayed k (with_contents r.inputs trace) (oracle_of r.oracle) (without_files old) (without_files new) core how → (e : End) (at : ℕ) → status_of how core.written ≡ status.Ran (record { end = e; at = at }) → IsGivenUpAt e → ⊥
  never_ran scene within k core how course played (end.Budget need) at e given_up_at = never_played need scene within k core how course played (ended_so how core.written need at e)
  never_ran scene within k core how course played end.Normal at e given_up_at = given_up_at
  never_ran scene within k core how course played end.Limit at e given_up_at = given_up_at
  never_ran scene within k core how course played end.Oracle at e given_up_at = given_up_at
  never_ran scene within k core how course played end.Deadlock at e given_up_at = given_up_at
  never_ran scene within k core how course played (end.Raise x) at e given_up_at = given_up_at
  never_ran scene within k core how course played (end.Fault f) at e given_up_at = given_up_at
  never_ran scene within k core how course played end.TooLarge at e given_up_at = given_up_at
  never_ran scene within k core how course played (end.Malformed w f place) at e given_up_at = given_up_at
  never_ran scene within k core how course played (end.Ended w n) at e given_up_at = given_up_at
  never_ran scene within k core how course played (end.Device w) at e given_up_at = given_up_at

  -- what was played isn't given up
  never_by : (scene : Scene) → RunIsAffordable r scene (closed c) (closed o) → (k : Continuation) (core : CoreState State) (how : SessionEnd) (course : IsContinuationOf r scene k) →
      IsPlayed k (with_contents r.inputs trace) (oracle_of r.oracle) (without_files old) (without_files new) core how → (s : Status) → status_of how core.written ≡ s → IsGivenUp s → ⊥
  never_by scene within k core how course played (status.Ran ending) e given_up_at = never_ran scene within k core how course played ending.end ending.at e given_up_at
  never_by scene within k core how course played (status.Checked v) e given_up_at = never_checked how core.written v e
  never_by scene within k core how course played (status.Session number its) e given_up_at = never_session how core.written number its e
  never_by scene within k core how course played status.Done e given_up_at = given_up_at
  never_by scene within k core how course played (status.Usage kind) e given_up_at = given_up_at
  never_by scene within k core how course played (status.Refused reason) e given_up_at = given_up_at
  never_by scene within k core how course played (status.Device what at) e given_up_at = given_up_at
  never_by scene within k core how course played status.Memory e given_up_at = given_up_at

  never_done : (work : Work) (names : List (List ℕ)) (s : Status) → IsDone r trace (without_files old) (without_files new) work names s → IsNoCampaign work → WorkIsAffordable r c o work → IsGivenUp s → ⊥
  never_done _ _ _ (given.refused reason puts) alone within = λ e. e
  never_done _ _ _ (given.written text same all) alone within = λ e. e
  never_done _ _ _ (given.cut text same part) alone within = λ e. e
  never_done _ _ _ (given.ran scene k core how course ahead played) alone within = never_by scene within k core how course played (status_of how core.written) refl
  never_done _ _ _ (given.ran_many scene cores how blamed count first played) alone within = absurd alone
  never_done _ _ _ (given.checked scene told v is same all) alone within = undecided v is
    where
      undecided : (w : Verdict) → IsVerdict scene r.budget told w → IsGivenUp (status.Checked w) → ⊥
      undecided verdict.Legal it e = e
      undecided (verdict.Illegal step) it e = e
      undecided (verdict.TooMany step) it e = e
      undecided (verdict.Budget need step) it e = within need step it
  never_done _ _ _ (given.checked_in_part scene told v is same part) alone within = λ e. e
  never_done _ _ _ (given.told n scene ps run same all) alone within = λ e. e
  never_done _ _ _ (given.told_in_part n scene ps run same part) alone within = λ e. e

pub never_given_up : PlaysKeepToTheirRules State → AffordableRunsAreTheSame State → AffordableInstantsAreNotGivenUp → UndisturbedSessionsAreWhole State → (r : Request) (contents : Contents) (c o : List ℕ) (answer : Answer) (asked names : List (List ℕ)) (old new : Outside Sources) (s : Status) →
    SidesTell r contents old.inputs.programs c o → Gives r contents answer asked old new names s → IsNoCampaign answer.work → WorkIsAffordable r c o answer.work → IsGivenUp s → ⊥
never_given_up keep alike law sessions r contents c o answer asked names old new s sides (given.done ns t files is) alone within = never_done keep alike law sessions r contents.replay c o old new sides answer.work ns t is alone within
never_given_up keep alike law sessions r contents c o answer asked names old new _ sides (given.by_file k some inside files puts) alone within = λ e. e
never_given_up keep alike law sessions r contents c o answer asked names old new _ sides (given.by_memory k files puts) alone within = λ e. e
