-- Each session of a whole campaign has the run that it would have alone.
use Rattle.std.proofs.Common.{◌≡◌, ◌≢◌, ℕ, zero, suc, ◌+◌, List, [], ◌∷◌, length, None, Some, refl, ap, sym, ◌∙◌, subst, arith}
use Rattle.std.specs.Prelude.{slice_get}
use Rattle.std.specs.Io.KnownBytes.{Appends}
use Rattle.std.specs.declared.option.Option.{Option}
use Rattle.lt_args.specs.Words.{Request}
use Rattle.lt_campaign.specs.Alone.{IsPartly, RunsAreAlone}
use Rattle.lt_campaign.specs.Alone as partly
use Rattle.lt_campaign.specs.Campaign as campaign
use Rattle.lt_campaign.specs.Campaign.{AllStart, Blamed, IsPlayed as IsCampaigned}
use Rattle.lt_campaign.specs.Parts.{SessionsAreAlone, SessionsBegin, column}
use Rattle.lt_campaign.specs.Rounds.{AreRounds, Parts}
use Rattle.lt_campaign.specs.Run.{Run, TakesParts}
use Rattle.lt_campaign.specs.Session.{Session, started}
use Rattle.lt_campaign.specs.Whole.{UndisturbedSessionsAreWhole}
use Rattle.lt_campaign.specs.declared.campaign_end.CampaignEnd.{CampaignEnd}
use Rattle.lt_drive.proofs.Ahead.{some_ahead}
use Rattle.lt_drive.specs.Drive.{Continuation}
use Rattle.lt_drive.specs.Interaction.{text_to}
use Rattle.lt_drive.specs.Told.{closed}
use Rattle.lt_drive.specs.declared.drive_end.DriveEnd.TheVariants as drive_end
use Rattle.lt_io.specs.Outside.{Links, Outside}
use Rattle.lt_io.specs.Programs.{Programs}
use Rattle.lt_loop.specs.CoreState.{CoreState, IsAhead, IsAheadIn, core_giving_up, resume}
use Rattle.lt_loop.specs.InputSource.{InputSource, with_contents}
use Rattle.lt_loop.specs.Machine.{GivenUp}
use Rattle.lt_loop.specs.Play.{Play}
use Rattle.lt_loop.specs.Run.{Answers}
use Rattle.lt_loop.specs.declared.event.Destination.TheVariants as destination
use Rattle.lt_loop.specs.declared.event.Wants.{Wants}
use Rattle.lt_loop.specs.declared.event.Wants.TheVariants as wants
use Rattle.lt_loop.specs.declared.phase.Phase.{Phase}
use Rattle.lt_loop.specs.declared.phase.Phase.TheVariants as phase
use Rattle.lt_rif.specs.declared.end.End.{End}
use Rattle.lt_rif.specs.declared.end.End.TheVariants as end
use Rattle.lt_rif.specs.declared.end.Who.{Who}
use Rattle.lt_step.specs.Machine.{State}
use Rattle.lt_term.specs.Scene.{Scene}
use Rattle.lt_call.specs.Campaigns.{AreTheirRuns, CampaignsAreTheirRuns, IsItsRun, run_of_session}
use Rattle.lt_call.specs.Due.{Work, plays_many}
use Rattle.lt_call.specs.Given as given
use Rattle.lt_call.specs.Given.{IsDone, campaign_status}
use Rattle.lt_call.specs.Laws.{IsUnbroken}
use Rattle.lt_call.specs.Run.{AreFirstCores, IsFirstCore, oracle_of, run_of, session_request}
use Rattle.lt_call.specs.declared.status.Device.TheVariants as device
use Rattle.lt_call.specs.declared.status.Status.{Status}
use Rattle.lt_call.specs.declared.status.Status.TheVariants as status
use Rattle.lt_call.proofs.Budgets.{none_told, over_driven}
use Rattle.lt_call.proofs.Campaigns.{all_want}

-- ---- how sessions begin

-- a session is started with each core
as_many : (c o : InputSource) (cores : List (CoreState State)) (old new : Programs) (ss : List (Session State)) → AllStart c o cores old new ss → length ss ≡ length cores
as_many c o [] old new [] starts = refl
as_many c o [] old new (s ∷ ss) starts = absurd starts
as_many c o (core ∷ cores) old new [] starts = absurd starts
as_many c o (core ∷ cores) old new (s ∷ ss) starts = omega (arith, as_many c o cores starts.0 new ss starts.2)

-- the core at a place is that of the run of the session of this number
own_core : (r : Request) (scene : Scene) (n i m : ℕ) (cores : List (CoreState State)) (core : CoreState State) → m ≡ n + i → AreFirstCores r scene n cores → slice_get cores i ≡ Some core → IsFirstCore (session_request r m) scene core
own_core r scene n i m [] core number all is = absurd (cc is)
own_core r scene n zero m (first ∷ cores) core number all is =
    let here : n ≡ m = omega (arith, number) in
    let same : first ≡ core = cc is in
    subst (λ (x : ℕ). IsFirstCore (session_request r x) scene core) here (subst (λ (x : CoreState State). IsFirstCore (session_request r n) scene x) same all.0)
own_core r scene n (suc i) m (first ∷ cores) core number all is = own_core r scene (n + 1) i m cores core (omega (arith, number)) all.1 is

-- ---- how they end

-- no fault of a side ends what is unbroken
never_side : (e : End) → IsUnbroken e → (w : Who) → e ≢ end.Device w
never_side e calm w is = subst (λ (x : End). IsUnbroken x) is calm

-- a run that wants nothing any more stands at its end
over_partly : (k : Continuation) (old new : Outside Links) (core : CoreState State) (w : Wants) (b : Option Who) (e : End) → IsPartly k old new core w b → b ≡ None → w ≡ wants.Nothing e → core.phase ≡ phase.Over e
over_partly k old new core _ _ e (partly.over f drove) sound is =
    let same : f ≡ e = cc is in
    over_driven k old new core (drive_end.Ended f) e drove (ap (λ (x : End). drive_end.Ended x) same)
over_partly k old new core _ _ e (partly.goes w received ps on begins interaction history counts) sound is = absurd (on e is)
over_partly k old new core _ _ e (partly.broken w v received ps kind prefix rest goes begins interaction history counts) sound is = absurd (cc sound)

-- and nothing of it was given up, where no budget ended it
none_given_up : (core : CoreState State) (u : Option GivenUp) (e : End) → core.phase ≡ phase.Over e → IsUnbroken e → IsAhead core u → u ≡ None
none_given_up core u e stands calm ahead =
    let told : IsAheadIn (phase.Over e) core.written u = subst (λ (p : Phase). IsAheadIn p core.written u) stands ahead in
    told ∙ none_told e core.written calm

-- ---- their runs

module _ (begin : SessionsBegin State) (apart : RunsAreAlone State) (alone : SessionsAreAlone State) (whole : UndisturbedSessionsAreWhole State) (request : Request) (scene : Scene) where
  its_run : (controller oracle : InputSource) (cores : List (CoreState State)) (old mid : Programs) (first last : List (Session State)) (rounds : List Parts) → AreFirstCores request scene 0 cores → AllStart controller oracle cores old mid first → AreRounds first rounds last →
      (i : ℕ) (r l : Run (CoreState State)) (e : End) (c o : List ℕ) → slice_get first i ≡ Some (started r) → slice_get last i ≡ Some (started l) → l.broken ≡ None → l.wanted ≡ wants.Nothing e → IsUnbroken e →
      r.standing.links.controller.left ≡ Some c → r.standing.links.oracle.left ≡ Some o → IsItsRun request scene i r l rounds c o e
  its_run controller oracle cores old mid first last rounds cores_are starts went i r l e c o at_first at_last sound is calm tells_c tells_o =
      let begins = begin controller oracle cores old mid first (all_want request scene 0 cores cores_are) starts i r at_first in
      let core_is : IsFirstCore (session_request request i) scene r.standing.core = own_core request scene 0 i i cores r.standing.core (omega arith) cores_are begins.own in
      let all = alone first last rounds went in
      let was = all.runs i r at_first in
      let stands : Some (started was.last_run) ≡ Some (started l) = sym was.stands ∙ at_last in
      let same : was.last_run ≡ l = cc stands in
      let took : TakesParts Answers r (column i rounds) l = subst (λ (x : Run (CoreState State)). TakesParts Answers r (column i rounds) x) same was.took in
      let ahead = some_ahead l.standing.core in
      let u = ahead.0 in
      let so_far = apart r l (column i rounds) begins.calm begins.turn begins.tells took u ahead.1 in
      let over : l.standing.core.phase ≡ phase.Over e = over_partly _ _ _ (core_giving_up u l.standing.core) l.wanted l.broken e so_far sound is in
      let none : u ≡ None = none_given_up l.standing.core u e over calm ahead.1 in
      let play_is : resume (core_giving_up u r.standing.core) (closed c) (closed o) ≡ run_of_session request scene i c o =
      core_is.plays u (closed c) (closed o) ∙ ap (λ (x : Option GivenUp). run_of (session_request request i) scene x (closed c) (closed o)) none in
      let own = whole r l (column i rounds) e c o begins.calm begins.turn begins.tells took sound is (never_side e calm) tells_c tells_o u ahead.1 in
      record {
        stop = sym (ap (λ (p : Play). p.stop) play_is) ∙ own.stop;
        traced = all.own i ∙ own.traced ∙ ap (λ (p : Play). text_to destination.Trace p.pieces) play_is;
        controller = subst (λ (p : Play). Appends r.standing.links.controller.sent l.standing.links.controller.sent (text_to destination.Controller p.pieces)) play_is own.controller;
        oracle = subst (λ (p : Play). Appends r.standing.links.oracle.sent l.standing.links.oracle.sent (text_to destination.Oracle p.pieces)) play_is own.oracle;
      }

  by_end : (replay : List ℕ) (cores : List (CoreState State)) (old new : Outside Programs) (how : CampaignEnd) (blamed : Option Blamed) → length cores ≡ request.count → AreFirstCores request scene 0 cores →
      IsCampaigned (with_contents request.inputs replay) (oracle_of request.oracle) cores old new how blamed → ((at : ℕ) → campaign_status how blamed ≢ status.Device device.Trace at) → campaign_status how blamed ≢ status.Memory →
      AreTheirRuns request replay scene old new
  by_end replay cores old new _ _ count cores_are (campaign.whole first last mid rounds starts went over closes grows calm) untorn lasts = record {
    cores = cores;
    own = cores_are;
    mid = mid;
    first = first;
    number = as_many (with_contents request.inputs replay) (oracle_of request.oracle) cores old.inputs mid first starts ∙ count;
    starts = starts;
    rounds = rounds;
    last = last;
    went = went;
    over = over;
    traced = grows;
    runs = its_run (with_contents request.inputs replay) (oracle_of request.oracle) cores old.inputs mid first last rounds cores_are starts went;
  }
  by_end replay cores old new _ _ count cores_are (campaign.cut first behind last mid rounds reached parts starts went round closes text) untorn lasts = absurd (untorn 0 refl)
  by_end replay cores old new _ _ count cores_are (campaign.cut_at_end first last mid rounds starts went over closes text) untorn lasts = absurd (untorn 0 refl)
  by_end replay cores old new _ _ count cores_are (campaign.memory_first same trace_is) untorn lasts = absurd (lasts refl)
  by_end replay cores old new _ _ count cores_are (campaign.memory_later before core behind first left mid later all starts starts_not closes trace_is) untorn lasts = absurd (lasts refl)

  by_work : (replay : List ℕ) (old new : Outside Programs) (work : Work) (names : List (List ℕ)) (s : Status) → IsDone request replay old new work names s → work ≡ plays_many scene → ((at : ℕ) → s ≢ status.Device device.Trace at) → s ≢ status.Memory →
      AreTheirRuns request replay scene old new
  by_work replay old new _ _ _ (given.refused reason puts) is untorn lasts = absurd (cc is)
  by_work replay old new _ _ _ (given.written text same all) is untorn lasts = absurd (cc is)
  by_work replay old new _ _ _ (given.cut text same part) is untorn lasts = absurd (cc is)
  by_work replay old new _ _ _ (given.ran other k core how course ahead played) is untorn lasts = absurd (cc is)
  by_work replay old new _ _ _ (given.ran_many other cores how blamed count cores_are played) is untorn lasts =
      let same : other ≡ scene = cc is in
      by_end replay cores old new how blamed count (subst (λ (x : Scene). AreFirstCores request x 0 cores) same cores_are) played untorn lasts
  by_work replay old new _ _ _ (given.checked other told v verdict_is same all) is untorn lasts = absurd (cc is)
  by_work replay old new _ _ _ (given.checked_in_part other told v verdict_is same part) is untorn lasts = absurd (cc is)
  by_work replay old new _ _ _ (given.told n other ps run same all) is untorn lasts = absurd (cc is)
  by_work replay old new _ _ _ (given.told_in_part n other ps run same part) is untorn lasts = absurd (cc is)

-- A campaign whose trace was written whole is the runs of its sessions.
pub campaigns_are_their_runs : SessionsBegin State → RunsAreAlone State → SessionsAreAlone State → UndisturbedSessionsAreWhole State → CampaignsAreTheirRuns
campaigns_are_their_runs begin apart alone whole request replay scene names old new s done untorn lasts =
    by_work begin apart alone whole request scene replay old new (plays_many scene) names s done refl untorn lasts
