-- What comes of one event of a run.
use Rattle.std.proofs.Common.{◌≡◌, ℕ, zero, suc, ◌+◌, ◌<◌, true, false, List, [], ◌∷◌, length, take, None, Some, Ok, Err, refl, ap, sym, subst, ◌∙◌, arith}
use Rattle.std.specs.declared.option.Option.{Option}
use Rattle.std.specs.declared.result.Result.{Result}
use Rattle.lt_io.specs.Causes.{Rose}
use Rattle.lt_io.specs.Link.{fails_to_receive, fails_to_send, sends}
use Rattle.lt_io.specs.Outside.{Links, Outside, linked}
use Rattle.lt_io.specs.Sending.{AppendsProperPrefix}
use Rattle.lt_io.specs.Sink.{Sink}
use Rattle.lt_io.specs.declared.sink.Failed.{Failed}
use Rattle.lt_rif.specs.Trace.{step_at_hand}
use Rattle.lt_rif.specs.declared.end.End.TheVariants as end
use Rattle.lt_rif.specs.declared.end.Who.{Who}
use Rattle.lt_rif.specs.declared.end.Who.TheVariants as who
use Rattle.lt_loop.specs.CoreState.{CoreState, IsAhead, PutsOut, StaysAhead, core_giving_up}
use Rattle.lt_loop.specs.Event.{IsAwaited, IsWanted, Told, WantsTell, failed, listens, play_due, steps_in, taken_of, turn}
use Rattle.lt_loop.specs.Machine.{GivenUp}
use Rattle.lt_loop.specs.Play.{destination_of, steps_of}
use Rattle.lt_loop.specs.Run.{Answer, Answers}
use Rattle.lt_loop.specs.Work.{work_left}
use Rattle.lt_loop.specs.declared.event.Destination.{Destination}
use Rattle.lt_loop.specs.declared.event.Destination.TheVariants as destination
use Rattle.lt_loop.specs.declared.event.PieceKind.{PieceKind}
use Rattle.lt_loop.specs.declared.event.PieceKind.TheVariants as piece_kind
use Rattle.lt_loop.specs.declared.event.Wants.{Wants}
use Rattle.lt_loop.specs.declared.event.Wants.TheVariants as wants
use Rattle.lt_drive.specs.Drive.{Continuation, IsDriven, continuation_of, failed_step}
use Rattle.lt_drive.specs.Interaction.{Interaction, side, silence}
use Rattle.lt_drive.specs.Served.{BreaksOff, IsGiven, IsGivenPiece, IsGivenTo, IsSending, IsServed, IsTold, IsTraced, Standing, of_controller, of_oracle, of_turn, outside, served_by, told_of, traced_of}
use Rattle.lt_drive.specs.declared.drive_end.DriveEnd.{DriveEnd}
use Rattle.lt_drive.specs.declared.drive_end.DriveEnd.TheVariants as drive_end
use Rattle.lt_drive.specs.declared.served.Served.{Served}
use Rattle.lt_drive.specs.declared.served.Served.TheVariants as served
use Rattle.lt_drive.specs.inner.Steps.{Fails, Goes, IsDoneTo, Proceeds, continuation_due, fault_text, progress_of}
use Rattle.lt_drive.proofs.Ahead.{fails_alike, listens_alike, some_ahead, taken_alike, wants_alike}
use Rattle.lt_drive.proofs.Drives.{driven_by, over_by}
use Rattle.lt_drive.proofs.LinkSends.{controller_sent, done_there, done_to_controller, done_to_oracle, done_to_trace, oracle_sent, trace_written}
use Rattle.lt_drive.proofs.Histories.{history_none}
use Rattle.lt_drive.proofs.Interactions.{nothing_happens}
use Rattle.lt_drive.proofs.Receipts.{IsHeard, Receives, controller_hears, goes_both, heard_so, oracle_hears, unheard_so}
use Rattle.lt_drive.proofs.Sides.{listens_where_put}
use Rattle.lt_drive.proofs.Telling.{IsFaultTold, breaks_driven, breaks_with, fault_told, goes_with, goes_without, unheard_driven, untraced_with}
use Rattle.lt_drive.proofs.Unended.{awaited_stops, awaited_unended}
use Rattle.lt_drive.proofs.Ways.{breaks_both, driven_both}

-- links and a trace
abbrev around : Links → Sink → Outside Links
around links trace = record { inputs = links; trace = trace }

-- ---- what was put out, and given

module _ {State : Type 0} (s new : CoreState State) (e : Told) (n : ℕ) (taken : n ≡ taken_of s e) (plan : new.plan ≡ s.plan) (text : List ℕ) (wanted : Wants) (old mid : Links) (trace trace' : Sink) where
  -- a piece was put out
  module _ (k : PieceKind) (out : PutsOut (play_due e n s) (Some k) text new) (written : new.written ≡ s.written + steps_of k) where
    -- it was given to where it goes
    module _ (next : Wants) (kind : Option PieceKind) (traced : IsTraced kind text trace trace') where
      goes_controller : destination_of k ≡ destination.Controller → (result : Result (Unit {0}) Failed) → IsSending old.controller mid.controller result text → mid.oracle ≡ old.oracle → served.Goes next kind ≡ served_by who.Controller wanted result →
          Goes (continuation_due s e) (around old trace) (around mid trace') new × (next ≡ wanted)
      goes_controller goes (Ok u) sent same is =
          let quiet : trace' ≡ trace = subst (λ (x : Option PieceKind). IsTraced x text trace trace') (ap traced_of is) traced in
          let after : Outside Links = linked mid.controller old.oracle trace in
          let same_outside : after ≡ around mid trace' = λ i. record { inputs = record { controller = mid.controller; oracle = sym same i }; trace = sym quiet i } in (
            subst (λ (o : Outside Links). Goes (continuation_due s e) (around old trace) o new) same_outside
                (goes_with s new e n text taken k out plan written (around old trace) after (controller_sent k text false (around old trace) mid.controller goes sent.stays sent.all sent.cause.calm)
                (done_there k destination.Controller goes (sends text) (around old trace) after (done_to_controller (sends text) (around old trace) mid.controller sent.fitting))),
            cc is,
          )
      goes_controller goes (Err f) sent same is = absurd (cc is)

      goes_oracle : destination_of k ≡ destination.Oracle → (result : Result (Unit {0}) Failed) → IsSending old.oracle mid.oracle result text → mid.controller ≡ old.controller → served.Goes next kind ≡ served_by who.Oracle wanted result →
          Goes (continuation_due s e) (around old trace) (around mid trace') new × (next ≡ wanted)
      goes_oracle goes (Ok u) sent same is =
          let quiet : trace' ≡ trace = subst (λ (x : Option PieceKind). IsTraced x text trace trace') (ap traced_of is) traced in
          let after : Outside Links = linked old.controller mid.oracle trace in
          let same_outside : after ≡ around mid trace' = λ i. record { inputs = record { controller = sym same i; oracle = mid.oracle }; trace = sym quiet i } in (
            subst (λ (o : Outside Links). Goes (continuation_due s e) (around old trace) o new) same_outside
                (goes_with s new e n text taken k out plan written (around old trace) after (oracle_sent k text false (around old trace) mid.oracle goes sent.stays sent.all sent.cause.calm)
                (done_there k destination.Oracle goes (sends text) (around old trace) after (done_to_oracle (sends text) (around old trace) mid.oracle sent.fitting))),
            cc is,
          )
      goes_oracle goes (Err f) sent same is = absurd (cc is)

      goes_to : (d : Destination) → destination_of k ≡ d → IsGivenTo d k text wanted old mid (served.Goes next kind) → Goes (continuation_due s e) (around old trace) (around mid trace') new × (next ≡ wanted)
      goes_to destination.Controller goes given = goes_controller goes given.0 given.1 given.2 given.3
      goes_to destination.Oracle goes given = goes_oracle goes given.0 given.1 given.2 given.3
      goes_to destination.Trace goes given =
          let wrote : IsTraced (Some k) text trace trace' = subst (λ (x : Option PieceKind). IsTraced x text trace trace') (ap traced_of given.1) traced in (
            subst (λ (l : Links). Goes (continuation_due s e) (around old trace) (around l trace') new) (sym given.0)
                (goes_with s new e n text taken k out plan written (around old trace) (around old trace') (trace_written k text false (around old trace) trace' goes wrote.0 wrote.1)
                (done_there k destination.Trace goes (sends text) (around old trace) (around old trace') (done_to_trace (sends text) (around old trace) trace'))),
            cc given.1,
          )

    -- it could not be sent to its side
    module _ (v : Who) where
      breaks_controller : destination_of k ≡ destination.Controller → (result : Result (Unit {0}) Failed) → IsSending old.controller mid.controller result text → mid.oracle ≡ old.oracle → served.Broken v ≡ served_by who.Controller wanted result →
          BreaksOff (continuation_due s e) (around old trace) (around mid trace) new v
      breaks_controller goes (Ok u) sent same is = absurd (cc is)
      breaks_controller goes (Err f) sent same is =
          let part = sent.prefix in
          let after : Outside Links = linked mid.controller old.oracle trace in
          let same_outside : after ≡ around mid trace = λ i. record { inputs = record { controller = mid.controller; oracle = sym same i }; trace = trace } in
          let that : who.Controller ≡ v = cc is in
          subst (λ (x : Who). BreaksOff (continuation_due s e) (around old trace) (around mid trace) new x) that
          (subst (λ (o : Outside Links). BreaksOff (continuation_due s e) (around old trace) o new who.Controller) same_outside
          (breaks_with s new e n text taken k out plan written (around old trace) after who.Controller part.0 part.1 goes part.2
          (controller_sent k part.0 true (around old trace) mid.controller goes sent.stays part.3 sent.cause.failed)
          (done_there k destination.Controller goes (fails_to_send text) (around old trace) after (done_to_controller (fails_to_send text) (around old trace) mid.controller sent.fitting))))

      breaks_oracle : destination_of k ≡ destination.Oracle → (result : Result (Unit {0}) Failed) → IsSending old.oracle mid.oracle result text → mid.controller ≡ old.controller → served.Broken v ≡ served_by who.Oracle wanted result →
          BreaksOff (continuation_due s e) (around old trace) (around mid trace) new v
      breaks_oracle goes (Ok u) sent same is = absurd (cc is)
      breaks_oracle goes (Err f) sent same is =
          let part = sent.prefix in
          let after : Outside Links = linked old.controller mid.oracle trace in
          let same_outside : after ≡ around mid trace = λ i. record { inputs = record { controller = sym same i; oracle = mid.oracle }; trace = trace } in
          let that : who.Oracle ≡ v = cc is in
          subst (λ (x : Who). BreaksOff (continuation_due s e) (around old trace) (around mid trace) new x) that
          (subst (λ (o : Outside Links). BreaksOff (continuation_due s e) (around old trace) o new who.Oracle) same_outside
          (breaks_with s new e n text taken k out plan written (around old trace) after who.Oracle part.0 part.1 goes part.2
          (oracle_sent k part.0 true (around old trace) mid.oracle goes sent.stays part.3 sent.cause.failed)
          (done_there k destination.Oracle goes (fails_to_send text) (around old trace) after (done_to_oracle (fails_to_send text) (around old trace) mid.oracle sent.fitting))))

      breaks_to : (d : Destination) → destination_of k ≡ d → IsGivenTo d k text wanted old mid (served.Broken v) → BreaksOff (continuation_due s e) (around old trace) (around mid trace) new v
      breaks_to destination.Controller goes given = breaks_controller goes given.0 given.1 given.2 given.3
      breaks_to destination.Oracle goes given = breaks_oracle goes given.0 given.1 given.2 given.3
      breaks_to destination.Trace goes given = absurd (cc given.1)

    -- it is for the trace, and could not be written whole
    module _ (next : Wants) (kind : PieceKind) (step : ℕ) (part : AppendsProperPrefix trace.written trace'.written text) (rose : Rose trace.faults trace'.faults) (number : (m : ℕ) → new.written ≡ m + steps_of kind → step ≡ failed_step kind m) where
      kept_none : (w : Who) (result : Result (Unit {0}) Failed) → served.Goes next (Some kind) ≡ served_by w wanted result → ⊥
      kept_none w (Ok u) is = cc is
      kept_none w (Err f) is = cc is

      untraced_to : (d : Destination) → destination_of k ≡ d → IsGivenTo d k text wanted old mid (served.Goes next (Some kind)) → IsDriven (continuation_due s e) (around old trace) (around mid trace') new (drive_end.TraceWriteFailed step)
      untraced_to destination.Controller goes given = absurd (kept_none who.Controller given.0 given.3)
      untraced_to destination.Oracle goes given = absurd (kept_none who.Oracle given.0 given.3)
      untraced_to destination.Trace goes given =
          let same : kind ≡ k = cc given.1 in
          let counted : step ≡ failed_step k (s.written + 0) = subst (λ (x : PieceKind). (m : ℕ) → new.written ≡ m + steps_of x → step ≡ failed_step x m) same number (s.written + 0) (omega (arith, written)) in
          subst (λ (l : Links). IsDriven (continuation_due s e) (around old trace) (around l trace') new (drive_end.TraceWriteFailed step)) (sym given.0)
          (untraced_with s new e n text taken k out plan written (around old trace) (around old trace') (drive_end.TraceWriteFailed step) part.0 part.1 goes part.2 part.3
          (trace_written k part.0 true (around old trace) trace' goes part.4 rose)
          (done_there k destination.Trace goes (fails_to_send text) (around old trace) (around old trace') (done_to_trace (fails_to_send text) (around old trace) trace')) (ap drive_end.TraceWriteFailed counted))

  goes_given : (p : Option PieceKind) → PutsOut (play_due e n s) p text new → new.written ≡ s.written + steps_in p → (next : Wants) (kind : Option PieceKind) → IsTraced kind text trace trace' → IsGivenPiece p text wanted old mid (served.Goes next kind) →
      Goes (continuation_due s e) (around old trace) (around mid trace') new × (next ≡ wanted)
  goes_given None out written next kind traced given =
      let quiet : trace' ≡ trace = subst (λ (x : Option PieceKind). IsTraced x text trace trace') (ap traced_of given.1) traced in
      let same_outside : around old trace ≡ around mid trace' = λ i. record { inputs = sym given.0 i; trace = sym quiet i } in
      (subst (λ (o : Outside Links). Goes (continuation_due s e) (around old trace) o new) same_outside (goes_without s new e n text taken (around old trace) out plan written), cc given.1)
  goes_given (Some k) out written next kind traced given = goes_to k out written next kind traced (destination_of k) refl given

  breaks_given : (p : Option PieceKind) → PutsOut (play_due e n s) p text new → new.written ≡ s.written + steps_in p → (v : Who) → IsGivenPiece p text wanted old mid (served.Broken v) → BreaksOff (continuation_due s e) (around old trace) (around mid trace) new v
  breaks_given None out written v given = absurd (cc given.1)
  breaks_given (Some k) out written v given = breaks_to k out written v (destination_of k) refl given

  untraced_given : (p : Option PieceKind) → PutsOut (play_due e n s) p text new → new.written ≡ s.written + steps_in p → (next : Wants) (kind : PieceKind) (step : ℕ) → AppendsProperPrefix trace.written trace'.written text → Rose trace.faults trace'.faults →
      ((m : ℕ) → new.written ≡ m + steps_of kind → step ≡ failed_step kind m) → IsGivenPiece p text wanted old mid (served.Goes next (Some kind)) → IsDriven (continuation_due s e) (around old trace) (around mid trace') new (drive_end.TraceWriteFailed step)
  untraced_given None out written next kind step part rose number given = absurd (cc given.1)
  untraced_given (Some k) out written next kind step part rose number given = untraced_to k out written next kind step part rose number (destination_of k) refl given

-- ---- one event

module _ {State : Type 0} where
  -- nothing was received where a turn was told
  turned : (s : CoreState State) (old : Outside Links) → Receives (continuation_of s) (continuation_due s turn) old old
  turned s old = record {
    received = silence;
    leads = record { way = λ c o. refl; counts = (refl, omega arith) };
    interaction = nothing_happens old;
    history = history_none (continuation_of s) old;
  }

  -- the same of a run in which one instant is given up
  module _ (s new : CoreState State) (e : Told) (a : Answer) (told : Answers s e a new) (old mid : Links) (trace trace' : Sink) (u : Option GivenUp) (ahead : IsAhead new u) where
    goes_told : (next : Wants) (kind : Option PieceKind) → IsTraced kind a.text trace trace' → IsGiven a old mid (served.Goes next kind) →
        Goes (continuation_due (core_giving_up u s) e) (around old trace) (around mid trace') (core_giving_up u new) × (next ≡ a.wanted)
    goes_told next kind traced given =
        goes_given (core_giving_up u s) (core_giving_up u new) e a.taken (taken_alike u s e a.taken told.taken) told.plan a.text a.wanted old mid trace trace' a.piece (told.out u ahead) told.counts next kind traced given

    breaks_told : (v : Who) → IsGiven a old mid (served.Broken v) → BreaksOff (continuation_due (core_giving_up u s) e) (around old trace) (around mid trace) (core_giving_up u new) v
    breaks_told v given =
        breaks_given (core_giving_up u s) (core_giving_up u new) e a.taken (taken_alike u s e a.taken told.taken) told.plan a.text a.wanted old mid trace trace a.piece (told.out u ahead) told.counts v given

    untraced_told : (next : Wants) (kind : PieceKind) (step : ℕ) → AppendsProperPrefix trace.written trace'.written a.text → Rose trace.faults trace'.faults →
        ((m : ℕ) → new.written ≡ m + steps_of kind → step ≡ failed_step kind m) → IsGiven a old mid (served.Goes next (Some kind)) →
        IsDriven (continuation_due (core_giving_up u s) e) (around old trace) (around mid trace') (core_giving_up u new) (drive_end.TraceWriteFailed step)
    untraced_told next kind step part rose number given =
        untraced_given (core_giving_up u s) (core_giving_up u new) e a.taken (taken_alike u s e a.taken told.taken) told.plan a.text a.wanted old mid trace trace' a.piece (told.out u ahead) told.counts next kind step part rose number given

-- some bytes are not none
some_bytes : (n : ℕ) (into : List ℕ) → 0 < length into → take (suc n) into ≡ [] → ⊥
some_bytes n [] room none = absurd (omega arith)
some_bytes n (x ∷ into) room none = cc none

-- the piece that could not be sent to a side goes there
broken_by : (w v : Who) (wanted : Wants) (result : Result (Unit {0}) Failed) → served.Broken v ≡ served_by w wanted result → w ≡ v
broken_by w v wanted (Ok u) is = absurd (cc is)
broken_by w v wanted (Err f) is = cc is

broken_to : (d : Destination) (kind : PieceKind) (text : List ℕ) (wanted : Wants) (old mid : Links) (v : Who) → IsGivenTo d kind text wanted old mid (served.Broken v) → d ≡ side v
broken_to destination.Controller kind text wanted old mid v given = ap side (broken_by who.Controller v wanted given.0 given.3)
broken_to destination.Oracle kind text wanted old mid v given = ap side (broken_by who.Oracle v wanted given.0 given.3)
broken_to destination.Trace kind text wanted old mid v given = absurd (cc given.1)

broken_piece : (p : Option PieceKind) (text : List ℕ) (wanted : Wants) (old mid : Links) (v : Who) → IsGivenPiece p text wanted old mid (served.Broken v) → (kind : PieceKind) × (p ≡ Some kind) × (destination_of kind ≡ side v)
broken_piece None text wanted old mid v given = absurd (cc given.1)
broken_piece (Some kind) text wanted old mid v given = (kind, refl, broken_to (destination_of kind) kind text wanted old mid v given)

module _ {State : Type 0} where
  -- where a piece could not be sent to a side, the run has that side and goes on
  pub listens_told : (s new : CoreState State) (e : Told) (a : Answer) → Answers s e a new → (old mid : Links) (v : Who) → IsGiven a old mid (served.Broken v) → listens new v ≡ true
  listens_told s new e a told old mid v given =
      let p = broken_piece a.piece a.text a.wanted old mid v given in
      let u = some_ahead new in
      let out = subst (λ (x : Option PieceKind). PutsOut (play_due e a.taken (core_giving_up u.0 s)) x a.text (core_giving_up u.0 new)) p.1 (told.out u.0 u.1) in
      listens_alike u.0 new v (listens_where_put (core_giving_up u.0 s) (core_giving_up u.0 new) e a.taken p.0 a.text v out told.plan p.2)

  awaited_listens : (s : CoreState State) (w : Who) → IsAwaited s w → listens s w ≡ true
  awaited_listens s who.Controller waits = waits.2
  awaited_listens s who.Oracle waits = waits.2

  -- the end line of a side's fault was put out, which is for the trace
  pub fault_given : (old new : Standing (CoreState State)) (text : List ℕ) (v : Who) (r : Served) → listens old.core v ≡ true → (told : IsTold Answers old new text (failed v) r) →
      (r ≡ served.Goes (wants.Nothing (end.Device v)) (Some piece_kind.EndLine)) × (new.links ≡ old.links) × (text ≡ fault_text old.core v) × IsFaultTold old.core new.core v told.answer
  fault_given old new text v r hears told =
      let f = fault_told old.core new.core v told.answer hears told.answered in
      let given = subst (λ (p : Option PieceKind). IsGivenPiece p told.answer.text told.answer.wanted old.links new.links r) f.line told.given in
      (given.1 ∙ ap (λ (w : Wants). served.Goes w (Some piece_kind.EndLine)) f.wanted, given.0, sym told.shown ∙ f.text, f)

  -- One event was told, after what was received of a side, if one was waited for.
  record Tells (old new : Standing (CoreState State)) (text : List ℕ) (r : Served) : Type 0 where
    links : Links
    event : Told
    heard_first : (u : Option GivenUp) (trace : Sink) → IsHeard (core_giving_up u old.core) (around old.links trace) (around links trace) event
    told : IsTold Answers (record { core = old.core; links = links }) new text event r
    wanted : IsWanted old.core event

  -- what was received where a side is waited for is wanted
  heard_wanted : (s : CoreState State) (w : Who) (into : List ℕ) → IsAwaited s w → listens s w ≡ true → 0 < length into → (result : Result ℕ Failed) → IsWanted s (told_of w result into)
  heard_wanted s w into awaited hears room (Ok zero) = awaited
  heard_wanted s w into awaited hears room (Ok (suc n)) = (some_bytes n into room, awaited)
  heard_wanted s w into awaited hears room (Err f) = hears

  tells : (old new : Standing (CoreState State)) (text : List ℕ) (w : Wants) (r : Served) → WantsTell old.core w → IsServed Answers old new text w r → Tells old new text r
  tells old new text _ _ wanted (of_turn r told) =
      record { links = old.links; event = turn; heard_first = λ u trace. heard_so turn (turned (core_giving_up u old.core) (around old.links trace)); told = told; wanted = wanted }
  tells old new text _ _ wanted (of_controller mid e r hears told) = record {
    links = record { controller = mid; oracle = old.links.oracle };
    event = e;
    heard_first = λ u trace.
        subst (IsHeard (core_giving_up u old.core) (around old.links trace) (linked mid old.links.oracle trace)) (sym hears.told)
        (controller_hears (core_giving_up u old.core) (around old.links trace) mid hears.into hears.room hears.short (wants_alike u old.core wants.Controller wanted) hears.result hears.receiving);
    told = told;
    wanted = subst (IsWanted old.core) (sym hears.told) (heard_wanted old.core who.Controller hears.into wanted wanted.2 hears.room hears.result);
  }
  tells old new text _ _ wanted (of_oracle mid e r hears told) = record {
    links = record { controller = old.links.controller; oracle = mid };
    event = e;
    heard_first = λ u trace.
        subst (IsHeard (core_giving_up u old.core) (around old.links trace) (linked old.links.controller mid trace)) (sym hears.told)
        (oracle_hears (core_giving_up u old.core) (around old.links trace) mid hears.into hears.room hears.short (wants_alike u old.core wants.Oracle wanted) hears.result hears.receiving);
    told = told;
    wanted = subst (IsWanted old.core) (sym hears.told) (heard_wanted old.core who.Oracle hears.into wanted wanted.2 hears.room hears.result);
  }

  -- it goes on, or is over where nothing is wanted
  proceeds_by : (k : Continuation) (old new : Outside Links) (core : CoreState State) (next : Wants) → Goes k old new core → WantsTell core next → Proceeds k old new core (progress_of next)
  proceeds_by k old new core wants.Turn goes wanted = (goes, wanted)
  proceeds_by k old new core wants.Controller goes wanted = (goes, wanted)
  proceeds_by k old new core wants.Oracle goes wanted = (goes, wanted)
  proceeds_by k old new core (wants.Nothing e) goes wanted = driven_by k old new new core core (drive_end.Ended e) goes (over_by core new e wanted)

  module _ (old new : Standing (CoreState State)) (links : Links) (text : List ℕ) (trace trace' : Sink) (u : Option GivenUp) (ahead : IsAhead new.core u) where
    -- nothing could be received of a side, and that was told
    unheard_by : (v : Who) (d : DriveEnd) → IsAwaited (core_giving_up u old.core) v → Interaction (around old.links trace) (around links trace) silence [] (Some v) false → IsDoneTo (side v) fails_to_receive (around old.links trace) (around links trace) →
        new.links ≡ links → Fails old.core v trace trace' new.core d → IsDriven (continuation_of (core_giving_up u old.core)) (around old.links trace) (around new.links trace') (core_giving_up u new.core) d
    unheard_by v d awaited interaction done same fails =
        let su = core_giving_up u old.core in
        let newu = core_giving_up u new.core in
        subst (λ (l : Links). IsDriven (continuation_of su) (around old.links trace) (around l trace') newu d) (sym same)
        (unheard_driven su newu (around old.links trace) (around links trace) trace' v d (awaited_unended su v awaited) (awaited_stops su v awaited) interaction done (fails_alike u old.core new.core v trace trace' d fails))

    proceeds_so : (e : Told) (next : Wants) (kind : Option PieceKind) → IsHeard (core_giving_up u old.core) (around old.links trace) (around links trace) e → IsTold Answers (record { core = old.core; links = links }) new text e (served.Goes next kind) → IsTraced kind text trace trace' →
        Proceeds (continuation_of (core_giving_up u old.core)) (around old.links trace) (around new.links trace') (core_giving_up u new.core) (progress_of next)
    proceeds_so _ next kind (heard_so e got) told traced =
        let su = core_giving_up u old.core in
        let newu = core_giving_up u new.core in
        let lent = subst (λ (t : List ℕ). IsTraced kind t trace trace') (sym told.shown) traced in
        let step = goes_told old.core new.core e told.answer told.answered links new.links trace trace' u ahead next kind lent told.given in
        proceeds_by (continuation_of su) (around old.links trace) (around new.links trace') newu next
        (goes_both (continuation_of su) (continuation_due su e) got.received [] got.leads (around old.links trace) (around links trace) (around new.links trace') newu got.interaction got.history step.0)
        (wants_alike u new.core next (subst (WantsTell new.core) (sym step.1) told.answered.wanted))
    proceeds_so _ next kind (unheard_so v awaited interaction done) told traced =
        let f = fault_given (record { core = old.core; links = links }) new text v (served.Goes next kind) (listens_alike u old.core v (awaited_listens (core_giving_up u old.core) v awaited)) told in
        let wrote : IsTraced (Some piece_kind.EndLine) (fault_text old.core v) trace trace' = subst (λ (t : List ℕ). IsTraced (Some piece_kind.EndLine) t trace trace') f.2 (subst (λ (x : Option PieceKind). IsTraced x text trace trace') (ap traced_of f.0) traced) in
        let over : next ≡ wants.Nothing (end.Device v) = cc f.0 in
        subst (λ (w : Wants). Proceeds (continuation_of (core_giving_up u old.core)) (around old.links trace) (around new.links trace') (core_giving_up u new.core) (progress_of w)) (sym over)
        (unheard_by v (drive_end.Ended (end.Device v)) awaited interaction done f.1 (refl, f.3.over, f.3.same, wrote.0, wrote.1))

    untraced_so : (e : Told) (next : Wants) (kind : PieceKind) (step : ℕ) → IsHeard (core_giving_up u old.core) (around old.links trace) (around links trace) e → IsTold Answers (record { core = old.core; links = links }) new text e (served.Goes next (Some kind)) →
        AppendsProperPrefix trace.written trace'.written text → Rose trace.faults trace'.faults → ((m : ℕ) → new.core.written ≡ m + steps_of kind → step ≡ failed_step kind m) →
        IsDriven (continuation_of (core_giving_up u old.core)) (around old.links trace) (around new.links trace') (core_giving_up u new.core) (drive_end.TraceWriteFailed step)
    untraced_so _ next kind step (heard_so e got) told part rose number =
        let su = core_giving_up u old.core in
        let newu = core_giving_up u new.core in
        let lent = subst (λ (t : List ℕ). AppendsProperPrefix trace.written trace'.written t) (sym told.shown) part in
        driven_both (continuation_of su) (continuation_due su e) got.received [] got.leads (around old.links trace) (around links trace) (around new.links trace') newu (drive_end.TraceWriteFailed step) got.interaction got.history
        (untraced_told old.core new.core e told.answer told.answered links new.links trace trace' u ahead next kind step lent rose number told.given)
    untraced_so _ next kind step (unheard_so v awaited interaction done) told part rose number =
        let f = fault_given (record { core = old.core; links = links }) new text v (served.Goes next (Some kind)) (listens_alike u old.core v (awaited_listens (core_giving_up u old.core) v awaited)) told in
        let line : kind ≡ piece_kind.EndLine = cc f.0 in
        let counted : step ≡ step_at_hand old.core.written = subst (λ (x : PieceKind). (m : ℕ) → new.core.written ≡ m + steps_of x → step ≡ failed_step x m) line number old.core.written (omega (arith, f.3.same.1)) in
        unheard_by v (drive_end.TraceWriteFailed step) awaited interaction done f.1 (counted, f.3.same, subst (λ (t : List ℕ). AppendsProperPrefix trace.written trace'.written t) f.2 part, rose)

    broken_so : (e : Told) (v : Who) → IsHeard (core_giving_up u old.core) (around old.links trace) (around links trace) e → IsTold Answers (record { core = old.core; links = links }) new text e (served.Broken v) →
        BreaksOff (continuation_of (core_giving_up u old.core)) (around old.links trace) (around new.links trace) (core_giving_up u new.core) v
    broken_so _ v (heard_so e got) told =
        let su = core_giving_up u old.core in
        let newu = core_giving_up u new.core in
        breaks_both (continuation_of su) (continuation_due su e) got.received [] got.leads (around old.links trace) (around links trace) (around new.links trace) newu v got.interaction got.history
        (breaks_told old.core new.core e told.answer told.answered links new.links trace trace u ahead v told.given)
    broken_so _ v (unheard_so w awaited interaction done) told =
        let f = fault_given (record { core = old.core; links = links }) new text w (served.Broken v) (listens_alike u old.core w (awaited_listens (core_giving_up u old.core) w awaited)) told in
        absurd (cc f.0)

  -- ---- what may be cited

  -- One event was served, and what is for the trace was written: so it proceeds.
  pub served_proceeds : (old new : Standing (CoreState State)) (text : List ℕ) (w next : Wants) (kind : Option PieceKind) (trace trace' : Sink) → WantsTell old.core w → IsServed Answers old new text w (served.Goes next kind) → IsTraced kind text trace trace' →
      (u : Option GivenUp) → IsAhead new.core u → Proceeds (continuation_of (core_giving_up u old.core)) (outside old trace) (outside new trace') (core_giving_up u new.core) (progress_of next)
  served_proceeds old new text w next kind trace trace' wanted is traced u ahead =
      let t = tells old new text w (served.Goes next kind) wanted is in
      proceeds_so old new t.links text trace trace' u ahead t.event next kind (t.heard_first u trace) t.told traced

  -- It could not be written whole: so the driving ended.
  pub served_untraced : (old new : Standing (CoreState State)) (text : List ℕ) (w next : Wants) (kind : PieceKind) (step : ℕ) (trace trace' : Sink) → WantsTell old.core w → IsServed Answers old new text w (served.Goes next (Some kind)) →
      AppendsProperPrefix trace.written trace'.written text → Rose trace.faults trace'.faults → ((m : ℕ) → new.core.written ≡ m + steps_of kind → step ≡ failed_step kind m) →
      (u : Option GivenUp) → IsAhead new.core u → IsDriven (continuation_of (core_giving_up u old.core)) (outside old trace) (outside new trace') (core_giving_up u new.core) (drive_end.TraceWriteFailed step)
  served_untraced old new text w next kind step trace trace' wanted is part rose number u ahead =
      let t = tells old new text w (served.Goes next (Some kind)) wanted is in
      untraced_so old new t.links text trace trace' u ahead t.event next kind step (t.heard_first u trace) t.told part rose number

  -- What may be given up is ahead, the plan is the same, and less is left to do.
  pub served_moves : (old new : Standing (CoreState State)) (text : List ℕ) (w : Wants) (r : Served) → WantsTell old.core w → IsServed Answers old new text w r → StaysAhead old.core new.core × (new.core.plan ≡ old.core.plan) × (work_left new.core < work_left old.core)
  served_moves old new text w r wanted is =
      let t = tells old new text w r wanted is in
      let answered = t.told.answered in
      (answered.ahead, answered.plan, answered.falls t.wanted)

  -- The piece that was put out could not be sent to its side: so it stands before that is told.
  pub served_broken : (old mid : Standing (CoreState State)) (text : List ℕ) (w : Wants) (v : Who) (trace : Sink) → WantsTell old.core w → IsServed Answers old mid text w (served.Broken v) →
      (u : Option GivenUp) → IsAhead mid.core u → BreaksOff (continuation_of (core_giving_up u old.core)) (outside old trace) (outside mid trace) (core_giving_up u mid.core) v
  served_broken old mid text w v trace wanted is u ahead =
      let t = tells old mid text w (served.Broken v) wanted is in
      broken_so old mid t.links text trace trace u ahead t.event v (t.heard_first u trace) t.told

  -- The run has that side, and goes on.
  pub broken_listens : (old mid : Standing (CoreState State)) (text : List ℕ) (w : Wants) (v : Who) → WantsTell old.core w → IsServed Answers old mid text w (served.Broken v) → listens mid.core v ≡ true
  broken_listens old mid text w v wanted is =
      let t = tells old mid text w (served.Broken v) wanted is in
      listens_told old.core mid.core t.event t.told.answer t.told.answered t.links mid.links v t.told.given

  -- Where that is told then, it has ended, and the end line is for the trace.
  pub fault_served : (old mid new : Standing (CoreState State)) (text text' : List ℕ) (w : Wants) (v : Who) (r : Served) → WantsTell old.core w → IsServed Answers old mid text w (served.Broken v) → IsTold Answers mid new text' (failed v) r →
      r ≡ served.Goes (wants.Nothing (end.Device v)) (Some piece_kind.EndLine)
  fault_served old mid new text text' w v r wanted is told = (fault_given mid new text' v r (broken_listens old mid text w v wanted is) told).0

  module _ (old mid new : Standing (CoreState State)) (text text' : List ℕ) (w : Wants) (v : Who) (r : Served) (trace trace' : Sink) (wanted : WantsTell old.core w) (is : IsServed Answers old mid text w (served.Broken v)) (told : IsTold Answers mid new text' (failed v) r) where
    -- the run was driven as its fault says
    broken_driven : (u : Option GivenUp) → IsAhead new.core u → (d : DriveEnd) → Fails mid.core v trace trace' new.core d →
        IsDriven (continuation_of (core_giving_up u old.core)) (outside old trace) (outside new trace') (core_giving_up u new.core) d
    broken_driven u ahead d fails =
        let f = fault_given mid new text' v r (broken_listens old mid text w v wanted is) told in
        let b = served_broken old mid text w v trace wanted is u (told.answered.ahead u ahead) in
        subst (λ (l : Links). IsDriven (continuation_of (core_giving_up u old.core)) (outside old trace) (around l trace') (core_giving_up u new.core) d) (sym f.1)
        (breaks_driven (continuation_of (core_giving_up u old.core)) (outside old trace) (outside mid trace) (core_giving_up u mid.core) (core_giving_up u new.core) trace' v d b (fails_alike u mid.core new.core v trace trace' d fails))

    -- Where that was written, the run ended by the fault of that side.
    pub served_breaks : IsTraced (traced_of r) text' trace trace' → (u : Option GivenUp) → IsAhead new.core u →
        (r ≡ served.Goes (wants.Nothing (end.Device v)) (Some piece_kind.EndLine)) × IsDriven (continuation_of (core_giving_up u old.core)) (outside old trace) (outside new trace') (core_giving_up u new.core) (drive_end.Ended (end.Device v))
    served_breaks traced u ahead =
        let f = fault_given mid new text' v r (broken_listens old mid text w v wanted is) told in
        let wrote : IsTraced (Some piece_kind.EndLine) (fault_text mid.core v) trace trace' = subst (λ (t : List ℕ). IsTraced (Some piece_kind.EndLine) t trace trace') f.2 (subst (λ (x : Option PieceKind). IsTraced x text' trace trace') (ap traced_of f.0) traced) in
        (f.0, broken_driven u ahead (drive_end.Ended (end.Device v)) (refl, f.3.over, f.3.same, wrote.0, wrote.1))

    -- Where it could not be written whole, the driving ended by that.
    pub breaks_untraced : (step : ℕ) → AppendsProperPrefix trace.written trace'.written text' → Rose trace.faults trace'.faults → ((m : ℕ) → new.core.written ≡ m + steps_of piece_kind.EndLine → step ≡ failed_step piece_kind.EndLine m) →
        (u : Option GivenUp) → IsAhead new.core u → IsDriven (continuation_of (core_giving_up u old.core)) (outside old trace) (outside new trace') (core_giving_up u new.core) (drive_end.TraceWriteFailed step)
    breaks_untraced step part rose number u ahead =
        let f = fault_given mid new text' v r (broken_listens old mid text w v wanted is) told in
        broken_driven u ahead (drive_end.TraceWriteFailed step) (number mid.core.written (omega (arith, f.3.same.1)), f.3.same, subst (λ (t : List ℕ). AppendsProperPrefix trace.written trace'.written t) f.2 part, rose)
