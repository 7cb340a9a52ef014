-- What a session is blamed for was counted: where its program was to be started, or where its link was given back.
use Rattle.std.proofs.Common.{◌≡◌, ◌<◌, ◌≤◌, ◌+◌, ◌⊎◌, inl, inr, ℕ, Bool, true, false, List, [], ◌∷◌, ◌++◌, None, Some, if◌then◌else◌, refl, ap, subst, arith}
use Rattle.std.specs.declared.option.Option.{Option}
use Rattle.lt_io.specs.Causes.{Rose}
use Rattle.lt_io.specs.Link.{Link}
use Rattle.lt_io.specs.Outside.{Links, Outside}
use Rattle.lt_io.specs.Programs.{Programs}
use Rattle.lt_rif.specs.declared.end.End.{End}
use Rattle.lt_rif.specs.declared.end.End.TheVariants as end
use Rattle.lt_rif.specs.declared.end.Who.{Who}
use Rattle.lt_rif.specs.declared.end.Who.TheVariants as who
use Rattle.lt_loop.specs.CoreState.{CoreState, core_giving_up}
use Rattle.lt_loop.specs.Event.{WantsTell}
use Rattle.lt_loop.specs.InputSource.{InputSource}
use Rattle.lt_loop.specs.Run.{Answers}
use Rattle.lt_loop.specs.declared.event.Wants.{Wants}
use Rattle.lt_loop.specs.declared.event.Wants.TheVariants as wants
use Rattle.lt_drive.specs.Drive.{continuation_of}
use Rattle.lt_drive.specs.Interaction.{faults_of, side}
use Rattle.lt_drive.specs.Served.{outside}
use Rattle.lt_drive.specs.declared.drive_end.DriveEnd.TheVariants as drive_end
use Rattle.lt_drive.proofs.Ahead.{some_ahead, wants_alike}
use Rattle.lt_session.specs.Session.{Closes, Opens}
use Rattle.lt_session.proofs.Drives.{failed_rose}
use Rattle.lt_session.proofs.Links.{closed_later, closed_rose, faultless, opened_calm}
use Rattle.lt_session.proofs.Unbroken.{turns_unbroken}
use Rattle.lt_campaign.specs.Alone.{own_trace}
use Rattle.lt_campaign.specs.Campaign.{AllClose, AllStart, AllWantTurns, Blamed, IsPlayed, blame, blamed_from, first_of}
use Rattle.lt_campaign.specs.Campaign as campaign
use Rattle.lt_campaign.specs.Cause.{BlameHasACause, Blames}
use Rattle.lt_campaign.specs.Cause as cause
use Rattle.lt_campaign.specs.Run.{Run, TakesParts, text_of}
use Rattle.lt_campaign.specs.Session.{IsClosed, Session, Starts, first_run, is_well, names_of, outcome_of, run_outcome, started, unstarted}
use Rattle.lt_campaign.specs.Session as session
use Rattle.lt_campaign.specs.declared.campaign_end.CampaignEnd.{CampaignEnd}
use Rattle.lt_campaign.specs.declared.campaign_end.Outcome.{Outcome}
use Rattle.lt_campaign.specs.declared.campaign_end.Outcome.TheVariants as outcome
use Rattle.lt_campaign.proofs.Alone.{run_ended}
use Rattle.lt_campaign.proofs.Counts.{all_closed_later, all_started_later, session_later, started_later, started_not_later, unstarted_rose}
use Rattle.lt_campaign.proofs.Took.{AllTook, Took, all_took}

-- ---- counts that rose

rose_between : (a b c d : ℕ) → a ≤ b → Rose b c → c ≤ d → Rose a d
rose_between a b c d later rose then_later = omega arith

some_fault : (before now : ℕ) → before ≡ 0 → Rose before now → 0 < now
some_fault before now none rose = omega arith

-- ---- what blames a program

-- a run that ended so is blamed on a side that failed
device : (how : Outcome) (e : End) (steps : ℕ) → Blames how → outcome.Ended e steps ≡ how → (w : Who) × (e ≡ end.Device w)
device _ e steps (cause.unstarted w) is = absurd (cc is)
device _ e steps (cause.broken w n) is = (w, cc is)

ended_by : (b : Option Who) (wanted : Wants) (steps : ℕ) (how : Outcome) → run_outcome b wanted steps ≡ Some how → Blames how → (w : Who) × (b ≡ None) × (wanted ≡ wants.Nothing (end.Device w))
ended_by None wants.Turn steps how is blames = absurd (cc is)
ended_by None wants.Controller steps how is blames = absurd (cc is)
ended_by None wants.Oracle steps how is blames = absurd (cc is)
ended_by None (wants.Nothing e) steps how is blames =
    let d = device how e steps blames (cc is) in
    (d.0, refl, ap (λ (x : End). wants.Nothing x) d.1)
ended_by (Some v) wanted steps how is blames = absurd (cc is)

-- a blamed session ended as is told of it
blamed_well : (well : Bool) (x it : Blamed) → (if well then None else Some x) ≡ Some it → x ≡ it
blamed_well true x it is = absurd (cc is)
blamed_well false x it is = cc is

blamed_so : (n : ℕ) (o : Option Outcome) (names : List (List ℕ)) (it : Blamed) → blame n o names ≡ Some it → o ≡ Some it.outcome
blamed_so n None names it is = absurd (cc is)
blamed_so n (Some how) names it is =
    ap (λ (x : Blamed). Some x.outcome) (blamed_well (is_well how) (record { session = n; outcome = how; names = names }) it is)

-- what is told first is the first, or of the others
either : (a b : Option Blamed) (it : Blamed) → first_of a b ≡ Some it → (a ≡ Some it) ⊎ (b ≡ Some it)
either None b it is = inr is
either (Some x) b it is = inl is

module _ {State : Type 0} (controller oracle : InputSource) where
  -- ---- how a session was started and closed

  -- where its run stands first, if it was started, and else that this was counted
  abbrev StartedBy : CoreState State → Programs → Programs → Session State → Type 0
  StartedBy core old new (started r) = (c : Link) × (o : Link) × (mid : Programs) × (r ≡ first_run core c o) × Opens controller old mid c × Opens oracle mid new o
  StartedBy core old new (unstarted w c) = Rose old.faults new.faults

  started_by : (core : CoreState State) (old new : Programs) (s : Session State) → Starts controller oracle core old new s → StartedBy core old new s
  started_by core old new _ (session.both c o mid opens opened) = (c, o, mid, refl, opens, opened)
  started_by core old new _ (session.no_controller is) = unstarted_rose controller old new is
  started_by core old new _ (session.no_oracle c mid opens is) =
      rose_between old.faults mid.faults new.faults new.faults (omega (arith, opened_calm controller old mid c opens)) (unstarted_rose oracle mid new is) (omega arith)

  abbrev ClosedBy : Programs → Programs → Session State → Type 0
  ClosedBy old new (started r) = (mid : Programs) × Closes controller old mid r.standing.links.controller × Closes oracle mid new r.standing.links.oracle
  ClosedBy old new (unstarted w c) = Unit {0}

  closed_by : (old new : Programs) (s : Session State) → IsClosed controller oracle old new s → ClosedBy old new s
  closed_by old new _ (session.of_run r mid closes closed) = (mid, closes, closed)
  closed_by old new _ (session.of_one w c closes) = tt
  closed_by old new _ (session.of_none w same) = tt

  -- ---- a session

  -- a fault of a side is counted where both sides are closed
  closing_counts : (w : Who) (p m q r n s : Programs) (c o : Link) (links : Links) → Opens controller p m c → Opens oracle m q o → q.faults ≤ r.faults →
      Closes controller r n links.controller → Closes oracle n s links.oracle → (core last : CoreState State) (before now : List ℕ) →
      Rose (faults_of (side w) (outside (record { core = core; links = record { controller = c; oracle = o } }) (own_trace before)))
      (faults_of (side w) (outside (record { core = last; links = links }) (own_trace now))) → Rose p.faults s.faults
  closing_counts who.Controller p m q r n s c o links opens opened later closes closed core last before now rose =
      rose_between p.faults r.faults n.faults s.faults (omega (arith, opened_calm controller p m c opens, opened_calm oracle m q o opened))
      (closed_rose controller r n links.controller closes (some_fault c.faults links.controller.faults (faultless controller p m c opens) rose)) (closed_later oracle n s links.oracle closed)
  closing_counts who.Oracle p m q r n s c o links opens opened later closes closed core last before now rose =
      rose_between p.faults n.faults s.faults s.faults (omega (arith, opened_calm controller p m c opens, opened_calm oracle m q o opened, closed_later controller r n links.controller closes))
      (closed_rose oracle n s links.oracle closed (some_fault o.faults links.oracle.faults (faultless oracle m q o opened) rose)) (omega arith)

  -- a run that is blamed has a side whose fault was counted
  run_caused : (core : CoreState State) (p m q r n s : Programs) (c o : Link) (last : Run (CoreState State)) (parts : List (Option (List ℕ))) (how : Outcome) → WantsTell core wants.Turn →
      Opens controller p m c → Opens oracle m q o → q.faults ≤ r.faults → Closes controller r n last.standing.links.controller → Closes oracle n s last.standing.links.oracle →
      TakesParts Answers (first_run core c o) parts last → run_outcome last.broken last.wanted last.standing.core.written ≡ Some how → Blames how → Rose p.faults s.faults
  run_caused core p m q r n s c o last parts how turn opens opened later closes closed took is blames =
      let ended = ended_by last.broken last.wanted last.standing.core.written how is blames in
      let ahead = some_ahead last.standing.core in
      let u = ahead.0 in
      let first = first_run core c o in
      let driven = run_ended first last parts refl refl turn took u ahead.1 (end.Device ended.0) ended.1 ended.2 in
      let rose = failed_rose (continuation_of (core_giving_up u core)) (outside first.standing (own_trace [])) (outside last.standing (own_trace (text_of parts))) (core_giving_up u last.standing.core)
      (drive_end.Ended (end.Device ended.0)) ended.0 driven refl (turns_unbroken (core_giving_up u core) (wants_alike u core wants.Turn turn)) in
      closing_counts ended.0 p m q r n s c o last.standing.links opens opened later closes closed core last.standing.core [] (text_of parts) rose

  -- a session that is blamed on a program has a fault that was counted at its start or its end
  caused_by : (core : CoreState State) (p q r s : Programs) (f l : Session State) (how : Outcome) → WantsTell core wants.Turn → StartedBy core p q f → Took f l → q.faults ≤ r.faults → r.faults ≤ s.faults →
      ClosedBy r s l → outcome_of l ≡ Some how → Blames how → Rose p.faults s.faults
  caused_by core p q r s (unstarted w c) l how turn starts took later closed_later closes is blames = rose_between p.faults p.faults q.faults s.faults (omega arith) starts (omega arith)
  caused_by core p q r s (started first) (unstarted w c) how turn starts took later closed_later closes is blames = absurd took
  caused_by core p q r s (started first) (started last) how turn starts took later closed_later closes is blames =
      run_caused core p starts.2 q r closes.0 s starts.0 starts.1 last took.0 how turn starts.4 starts.5 later closes.1 closes.2
      (subst (λ (x : Run (CoreState State)). TakesParts Answers x took.0 last) starts.3 took.1) is blames

  -- ---- all sessions

  some_caused : (last first : List (Session State)) (cores : List (CoreState State)) (p q r s : Programs) (n : ℕ) (it : Blamed) → AllWantTurns cores → AllStart controller oracle cores p q first →
      AllTook first last → q.faults ≤ r.faults → AllClose controller oracle r s last → blamed_from n last ≡ Some it → Blames it.outcome → Rose p.faults s.faults
  some_caused [] first cores p q r s n it turns starts took later closes is blames = absurd (cc is)
  some_caused (l ∷ ls) [] cores p q r s n it turns starts took later closes is blames = absurd took
  some_caused (l ∷ ls) (f ∷ fs) [] p q r s n it turns starts took later closes is blames = absurd starts
  some_caused (l ∷ ls) (f ∷ fs) (core ∷ cores) p q r s n it turns starts took later closes is blames =
      let begun = started_later controller oracle core p starts.0 f starts.1 in
      let others = all_started_later controller oracle cores starts.0 q fs starts.2 in
      let ended = session_later controller oracle r closes.0 l closes.1 in
      let behind = all_closed_later controller oracle closes.0 s ls closes.2 in
      elim (either (blame n (outcome_of l) (names_of l)) (blamed_from (n + 1) ls) it is) as (λ _. Rose p.faults s.faults) [
        | inl here ↦
            rose_between p.faults p.faults closes.0.faults s.faults (omega arith)
            (caused_by core p starts.0 r closes.0 f l it.outcome turns.0 (started_by core p starts.0 f starts.1) took.0 (omega (arith, others, later)) ended (closed_by r closes.0 l closes.1)
            (blamed_so n (outcome_of l) (names_of l) it here) blames) behind
        | inr there ↦
            rose_between p.faults starts.0.faults s.faults s.faults begun
            (some_caused ls fs cores starts.0 q closes.0 s (n + 1) it turns.1 starts.2 took.1 (omega (arith, later, ended)) closes.2 there blames) (omega arith)
      ]

  -- ---- a campaign

  pub all_caused : (cores : List (CoreState State)) (old new : Outside Programs) (how : CampaignEnd) (blamed : Option Blamed) → AllWantTurns cores → IsPlayed controller oracle cores old new how blamed →
      (old.inputs.faults ≤ new.inputs.faults) × ((it : Blamed) → blamed ≡ Some it → Blames it.outcome → Rose old.inputs.faults new.inputs.faults)
  all_caused cores old new _ _ turns (campaign.whole first last mid rounds starts went over closes appends calm) = (
    omega (arith, all_started_later controller oracle cores old.inputs mid first starts, all_closed_later controller oracle mid new.inputs last closes),
    λ it is blames. some_caused last first cores old.inputs mid mid new.inputs 0 it turns starts (all_took first rounds last went) (omega arith) closes is blames,
  )
  all_caused cores old new _ _ turns (campaign.cut first behind last mid rounds count parts starts went round closes cut) =
      (omega (arith, all_started_later controller oracle cores old.inputs mid first starts, all_closed_later controller oracle mid new.inputs last closes), λ it is blames. absurd (cc is))
  all_caused cores old new _ _ turns (campaign.cut_at_end first last mid rounds starts went over closes cut) =
      (omega (arith, all_started_later controller oracle cores old.inputs mid first starts, all_closed_later controller oracle mid new.inputs last closes), λ it is blames. absurd (cc is))
  all_caused cores old new _ _ turns (campaign.memory_first same trace_is) = (omega (arith, same.faults), λ it is blames. absurd (cc is))
  all_caused cores old new _ _ turns (campaign.memory_later before core behind first left mid later cores_are starts starts_not closes trace_is) = (
    omega (
      arith,
      all_started_later controller oracle before old.inputs mid first starts,
      started_not_later controller oracle mid later left starts_not,
      all_closed_later controller oracle later new.inputs (first ++ left) closes,
    ),
    λ it is blames. absurd (cc is),
  )

-- what is blamed in a campaign has a cause
pub blames_have_causes : {State : Type 0} → BlameHasACause State
blames_have_causes controller oracle cores old new how blamed turns played = all_caused controller oracle cores old new how blamed turns played
