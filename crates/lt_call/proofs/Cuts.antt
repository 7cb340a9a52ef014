-- What the trace grew by in a call that a device cut short.
use Rattle.std.proofs.Common.{◌≡◌, ℕ, List, [], ◌++◌, None, Some, refl, ap, sym, ◌∙◌, subst, append-nil, arith}
use Rattle.std.specs.Io.KnownBytes.{Appends}
use Rattle.std.specs.declared.option.Option.{Option}
use Rattle.lt_args.specs.Words.{Request}
use Rattle.lt_drive.specs.Drive.{Continuation}
use Rattle.lt_drive.specs.Interaction.{text_to}
use Rattle.lt_drive.specs.Told.{closed}
use Rattle.lt_drive.specs.declared.drive_end.DriveEnd.{DriveEnd}
use Rattle.lt_drive.specs.declared.drive_end.DriveEnd.TheVariants as drive_end
use Rattle.lt_io.specs.Outside.{Outside, Sources, without_files}
use Rattle.lt_io.specs.Programs.{Programs}
use Rattle.lt_io.specs.Sink.{Sink}
use Rattle.lt_loop.specs.CoreState.{CoreState}
use Rattle.lt_loop.specs.CoreView.{stream_of}
use Rattle.lt_loop.specs.InputSource.{InputSource, with_contents}
use Rattle.lt_loop.specs.GivingUp.{BudgetsHaveACause}
use Rattle.lt_loop.specs.Machine.{giving_up}
use Rattle.lt_loop.specs.Plan.{Plan, closing_text}
use Rattle.lt_loop.specs.Play.{Piece, Play, ended, step_count}
use Rattle.lt_loop.specs.Run.{pieces_then}
use Rattle.lt_loop.specs.declared.event.Destination.TheVariants as destination
use Rattle.lt_play.specs.Rules.{scenario_rules}
use Rattle.lt_rif.specs.Trace.{end_number}
use Rattle.lt_rif.specs.declared.end.End.{End}
use Rattle.lt_rif.specs.declared.end.End.TheVariants as end
use Rattle.lt_rif.specs.declared.end.Who.{Who}
use Rattle.lt_session.specs.Cut as session_cut
use Rattle.lt_session.specs.Cut.{CutSessionsAreFronts, IsCutBy, NeverBreaks, PlaysNeverBreak}
use Rattle.lt_session.specs.Session as session
use Rattle.lt_session.specs.Session.{IsPlayed}
use Rattle.lt_session.specs.Whole.{UndisturbedSessionsAreWhole}
use Rattle.lt_session.specs.declared.session_end.SessionEnd.{SessionEnd}
use Rattle.lt_session.specs.declared.session_end.SessionEnd.TheVariants as session_end
use Rattle.lt_step.specs.Machine.{State}
use Rattle.lt_term.specs.Scene.{Scene}
use Rattle.lt_call.specs.Cut as cut
use Rattle.lt_call.specs.Cut.{CutCallsAreFronts, IsCutShort, IsFront}
use Rattle.lt_call.specs.Due.{Answer, Contents, Work, plays}
use Rattle.lt_call.specs.Given as given
use Rattle.lt_call.specs.Given.{Gives, IsDone, status_of}
use Rattle.lt_call.specs.Laws.{ContentsHaveOneDueAnswer, SidesTell}
use Rattle.lt_call.specs.Run.{IsContinuationOf, first_machine, oracle_of, plan_of, run_of}
use Rattle.lt_call.specs.declared.status.Status.{Status}
use Rattle.lt_call.specs.declared.status.Status.TheVariants as status
use Rattle.lt_call.proofs.Budgets.{knows_no_budget, steps_of_cut, text_of_cut}
use Rattle.lt_call.proofs.Wholes.{gives_this, kept_appends}

-- nothing was appended to what stayed
none_appended : (o : Option (List ℕ)) → Appends o o []
none_appended None = tt
none_appended (Some xs) = sym (append-nil xs)

same_appends : (old new : Sink) → new ≡ old → Appends old.written new.written []
same_appends old new same = subst (λ (t : Sink). Appends old.written t.written []) (sym same) (none_appended old.written)

-- the trace of a run whose program could not be started stayed
unstarted_keeps : {State : Type 0} (k : Continuation) (controller oracle : InputSource) (old new : Outside Programs) (core : CoreState State) (how : SessionEnd) (w : Who) → IsPlayed k controller oracle old new core how → how ≡ session_end.StartFailed w → new.trace ≡ old.trace
unstarted_keeps k controller oracle old new core _ w (session.driven c c' o o' p q r how opens opened drove closes closed_later) is = absurd (cc is)
unstarted_keeps k controller oracle old new core _ w (session.no_controller command why unstarted same) is = same
unstarted_keeps k controller oracle old new core _ w (session.no_oracle command c p q why opens unstarted closes same) is = same
unstarted_keeps k controller oracle old new core _ w (session.memory_at_first inputs same) is = same
unstarted_keeps k controller oracle old new core _ w (session.memory_later c p q opens inputs closes same) is = same

same_scene : (a b : Scene) → plays a ≡ plays b → a ≡ b
same_scene a b e = cc e

module _ (law : CutSessionsAreFronts State) (calm : PlaysNeverBreak State) (whole : UndisturbedSessionsAreWhole State) (causes : BudgetsHaveACause State) (r : Request) (trace c o : List ℕ) (scene : Scene) (old new : Outside Sources) (sides : SidesTell r (record { scenario = []; replay = trace }) old.inputs.programs c o) where
  abbrev Fronts : Status → Type 0
  Fronts s = (text : List ℕ) × Appends old.trace.written new.trace.written text × IsFront r scene c o new.trace.gathers text s

  module _ (k : Continuation) (core : CoreState State) (course : IsContinuationOf r scene k) where
    never : NeverBreaks k
    never x y w h = calm (giving_up course.gives_up scenario_rules) (plan_of r scene) r.limit (first_machine r scene) (stream_of x) (stream_of y) w (sym (ap (λ (p : Play). p.stop) (course.plays x y)) ∙ h)

    begun : (how : DriveEnd) → IsPlayed k (with_contents r.inputs trace) (oracle_of r.oracle) (without_files old) (without_files new) core (session_end.Driven how) → IsCutBy how → Fronts (status_of (session_end.Driven how) core.written)
    begun how is cuts =
        let all = law k (with_contents r.inputs trace) (oracle_of r.oracle) (without_files old) (without_files new) core how c o never is cuts sides.0 sides.1 in
        (all.0, all.1, cut.begun k how core.written course cuts all.2)

    spent : (need : ℕ) → IsPlayed k (with_contents r.inputs trace) (oracle_of r.oracle) (without_files old) (without_files new) core (session_end.Driven (drive_end.Ended (end.Budget need))) →
        Fronts (status_of (session_end.Driven (drive_end.Ended (end.Budget need))) core.written)
    spent need is =
        let e : End = end.Budget need in
        let plan : Plan = plan_of r scene in
        let all = whole k (with_contents r.inputs trace) (oracle_of r.oracle) (without_files old) (without_files new) core e c o is (λ w same. cc same) sides.0 sides.1 in
        let same : k.play (closed c) (closed o) ≡ run_of r scene course.gives_up (closed c) (closed o) = course.plays (closed c) (closed o) in
        let front = causes scenario_rules plan r.limit (first_machine r scene) (stream_of (closed c)) (stream_of (closed o)) knows_no_budget course.gives_up need (sym (ap (λ (p : Play). p.stop) same) ∙ all.0) in
        let ps : List Piece = front.0 in
        let n : ℕ = end_number e (step_count ps) in
        let play : k.play (closed c) (closed o) ≡ pieces_then ps (ended plan e n) = same ∙ front.4 in
        let text : text_to destination.Trace (k.play (closed c) (closed o)).pieces ≡ text_to destination.Trace ps ++ closing_text plan e n = ap (λ (p : Play). text_to destination.Trace p.pieces) play ∙ text_of_cut plan e n ps in
        let steps : step_count (k.play (closed c) (closed o)).pieces ≡ step_count ps = ap (λ (p : Play). step_count p.pieces) play ∙ steps_of_cut plan e n ps in
        let counts : core.written ≡ step_count ps = (let a = all.2 in let b = course.unwritten in omega (arith, steps)) in (
          text_to destination.Trace ps ++ closing_text plan e n,
          subst (λ (t : List ℕ). Appends old.trace.written new.trace.written t) text all.1,
          subst (λ (m : ℕ). IsFront r scene c o new.trace.gathers (text_to destination.Trace ps ++ closing_text plan e n) (status.Ran (record { end = e; at = end_number e m }))) (sym counts)
              (cut.given_up need ps front.1 front.2 front.3 refl),
        )

    played : (how : SessionEnd) → IsPlayed k (with_contents r.inputs trace) (oracle_of r.oracle) (without_files old) (without_files new) core how → IsCutShort (status_of how core.written) → Fronts (status_of how core.written)
    played (session_end.Driven (drive_end.Ended (end.Device w))) is u = begun (drive_end.Ended (end.Device w)) is (session_cut.broken w)
    played (session_end.Driven (drive_end.Ended (end.Budget need))) is u = spent need is
    played (session_end.Driven (drive_end.Ended e)) is u = absurd u
    played (session_end.Driven (drive_end.TraceWriteFailed step)) is u = begun (drive_end.TraceWriteFailed step) is (session_cut.unwritten step)
    played (session_end.StartFailed w) is u =
        let same = unstarted_keeps k (with_contents r.inputs trace) (oracle_of r.oracle) (without_files old) (without_files new) core (session_end.StartFailed w) w is refl in
        ([], same_appends old.trace new.trace same, cut.unstarted w refl)
    played session_end.Memory is u = absurd u

  done : (work : Work) (names : List (List ℕ)) (s : Status) → IsDone r trace (without_files old) (without_files new) work names s → work ≡ plays scene → IsCutShort s → Fronts s
  done _ _ _ (given.refused reason puts) is u = absurd u
  done _ _ _ (given.written text same all) is u = absurd u
  done _ _ _ (given.cut text same part) is u = absurd (cc is)
  done _ _ _ (given.ran other k core how course ahead plays_so) is u = played k core (subst (λ (x : Scene). IsContinuationOf r x k) (same_scene other scene is) course) how plays_so u
  done _ _ _ (given.ran_many other cores how blamed count first plays_so) is u = absurd (cc is)
  done _ _ _ (given.checked other told v verdict_is same all) is u = absurd u
  done _ _ _ (given.checked_in_part other told v verdict_is same part) is u = absurd (cc is)
  done _ _ _ (given.told n other ps run same all) is u = absurd u
  done _ _ _ (given.told_in_part n other ps run same part) is u = absurd (cc is)

gives : CutSessionsAreFronts State → PlaysNeverBreak State → UndisturbedSessionsAreWhole State → BudgetsHaveACause State → (r : Request) (contents : Contents) (c o : List ℕ) (scene : Scene) (answer : Answer) (asked names : List (List ℕ)) (old new : Outside Sources) (s : Status) → Gives r contents answer asked old new names s →
    answer.work ≡ plays scene → IsCutShort s → SidesTell r contents old.inputs.programs c o → (text : List ℕ) × Appends old.trace.written new.trace.written text × IsFront r scene c o new.trace.gathers text s
gives law calm whole causes r contents c o scene answer asked names old new s (given.done ns t files is) work u sides = done law calm whole causes r contents.replay c o scene old new sides answer.work ns t is work u
gives law calm whole causes r contents c o scene answer asked names old new _ (given.by_file k some within files puts) work u sides = ([], kept_appends old.trace.written new.trace.written puts.trace, cut.unread refl)
gives law calm whole causes r contents c o scene answer asked names old new _ (given.by_memory k files puts) work u sides = absurd u

-- however a device cut it
pub fronts : ContentsHaveOneDueAnswer → CutSessionsAreFronts State → PlaysNeverBreak State → UndisturbedSessionsAreWhole State → BudgetsHaveACause State → CutCallsAreFronts
fronts due law calm whole causes r contents told names asked files old new s c o scene tell gives_due u sides is =
    gives law calm whole causes r contents c o scene (record { work = plays scene; files = files }) asked names old new s (gives_this due r contents told asked names old new s (record { work = plays scene; files = files }) tell gives_due is) refl u sides
