-- Each run of a campaign is driven as one that is alone.
use Rattle.std.proofs.Common.{◌≡◌, ◌≢◌, ℕ, List, [], ◌∷◌, ◌++◌, None, Some, refl, ap, sym, subst, append_assoc, append-nil}
use Rattle.std.specs.declared.option.Option.{Option}
use Rattle.lt_rif.specs.declared.end.End.{End}
use Rattle.lt_rif.specs.declared.end.End.TheVariants as end
use Rattle.lt_rif.specs.declared.end.Who.{Who}
use Rattle.lt_io.specs.Outside.{Links, Outside}
use Rattle.lt_io.specs.Sink.{Sink}
use Rattle.lt_loop.specs.CoreState.{CoreState, IsAhead, core_giving_up, resume}
use Rattle.lt_loop.specs.Event.{WantsTell, failed}
use Rattle.lt_loop.specs.Machine.{GivenUp}
use Rattle.lt_loop.specs.Run.{Answers}
use Rattle.lt_loop.specs.declared.event.PieceKind.{PieceKind}
use Rattle.lt_loop.specs.declared.event.Wants.{Wants}
use Rattle.lt_loop.specs.declared.event.Wants.TheVariants as wants
use Rattle.lt_drive.specs.Drive.{Continuation, IsDriven, continuation_of}
use Rattle.lt_drive.specs.Served.{IsServed, IsTold, IsTraced, Standing, of_controller, of_oracle, of_turn, outside}
use Rattle.lt_drive.specs.declared.drive_end.DriveEnd.TheVariants as drive_end
use Rattle.lt_drive.specs.declared.served.Served.{Served}
use Rattle.lt_drive.specs.declared.served.Served.TheVariants as served
use Rattle.lt_drive.specs.inner.Steps.{Goes, Proceeds, progress_of}
use Rattle.lt_drive.proofs.Public.{wants_back}
use Rattle.lt_drive.proofs.Public.{driven_by, goes_on_by, starts}
use Rattle.lt_drive.proofs.Public.{served_breaks, served_broken, served_proceeds}
use Rattle.lt_drive.proofs.Public.{breaks_both}
use Rattle.lt_campaign.specs.Alone.{IsPartly, own_trace}
use Rattle.lt_campaign.specs.Alone as partly
use Rattle.lt_campaign.specs.Run.{Run, TakesPart, TakesParts, broken_after, run_after, text_of, traced, traced_of, wants_after}
use Rattle.lt_campaign.specs.Run as part

-- ---- the trace

-- what a trace has after an event
abbrev put_on : List ℕ → Option PieceKind → List ℕ → List ℕ
put_on done None text = done
put_on done (Some kind) text = done ++ text

traces : (done : List ℕ) (kind : Option PieceKind) (text : List ℕ) → IsTraced kind text (own_trace done) (own_trace (put_on done kind text))
traces done None text = refl
traces done (Some kind) text = (refl, refl, refl)

texts : (done : List ℕ) (kind : Option PieceKind) (text : List ℕ) (parts : List (Option (List ℕ))) → put_on done kind text ++ text_of parts ≡ done ++ text_of (traced kind text ∷ parts)
texts done None text parts = refl
texts done (Some kind) text parts = append_assoc done text (text_of parts)

module _ {State : Type 0} (u : Option GivenUp) where
  -- ---- what may still be given up

  back_served : (old new : Standing (CoreState State)) (text : List ℕ) (w : Wants) (r : Served) → IsServed Answers old new text w r → IsAhead new.core u → IsAhead old.core u
  back_served old new text _ _ (of_turn r is_told) ahead = is_told.answered.ahead u ahead
  back_served old new text _ _ (of_controller mid e r hears is_told) ahead = is_told.answered.ahead u ahead
  back_served old new text _ _ (of_oracle mid e r hears is_told) ahead = is_told.answered.ahead u ahead

  back_part : (s mid : Run (CoreState State)) (text : List ℕ) (kind : Option PieceKind) → TakesPart Answers s mid text kind → IsAhead mid.standing.core u → IsAhead s.standing.core u
  back_part s mid text _ (part.over e calm is same) ahead = subst (λ (x : Run (CoreState State)). IsAhead x.standing.core u) same ahead
  back_part s mid text _ (part.fails w t r is is_told same) ahead = is_told.answered.ahead u (subst (λ (x : Run (CoreState State)). IsAhead x.standing.core u) same ahead)
  back_part s mid text _ (part.goes_on t r calm goes is_served same) ahead = back_served s.standing t text s.wanted r is_served (subst (λ (x : Run (CoreState State)). IsAhead x.standing.core u) same ahead)

  back : (s last : Run (CoreState State)) (parts : List (Option (List ℕ))) → TakesParts Answers s parts last → IsAhead last.standing.core u → IsAhead s.standing.core u
  back _ _ _ (part.none s) ahead = ahead
  back _ _ _ (part.more s mid last text kind parts took rest) ahead = back_part s mid text kind took (back mid last parts rest ahead)

  module _ (k : Continuation) (before : Outside Links) where
    -- ---- how far a run was driven

    -- A run was driven so far over its own links and a trace. A row a way.
    data Stands (trace : Sink) (run : Run (CoreState State)) : Type 0 where
      -- it goes on
      goes : run.broken ≡ None → ((e : End) → run.wanted ≢ wants.Nothing e) → WantsTell run.standing.core run.wanted → Goes k before (outside run.standing trace) (core_giving_up u run.standing.core) → Stands trace run
      -- it is over
      over : (e : End) → run.broken ≡ None → run.wanted ≡ wants.Nothing e → IsDriven k before (outside run.standing trace) (core_giving_up u run.standing.core) (drive_end.Ended e) → Stands trace run
      -- it went on up to an event whose piece could not be sent to its side
      broken : (v : Who) (old : Standing (CoreState State)) (text : List ℕ) (w : Wants) → run.broken ≡ Some v → WantsTell old.core w → IsServed Answers old run.standing text w (served.Broken v) →
          Goes k before (outside old trace) (core_giving_up u old.core) → Stands trace run

    -- after an event
    proceeds : (trace : Sink) (s : Standing (CoreState State)) (kind : Option PieceKind) (old : Standing (CoreState State)) (old_trace : Sink) (wanted next : Wants) → Goes k before (outside old old_trace) (core_giving_up u old.core) →
        Proceeds (continuation_of (core_giving_up u old.core)) (outside old old_trace) (outside s trace) (core_giving_up u s.core) (progress_of next) → Stands trace (run_after s (served.Goes next kind) wanted)
    proceeds trace s kind old old_trace wanted wants.Turn h p =
        goes refl (λ e x. cc x) (wants_back u s.core wants.Turn p.1) (goes_on_by k before (outside old old_trace) (outside s trace) (core_giving_up u old.core) (core_giving_up u s.core) h p.0)
    proceeds trace s kind old old_trace wanted wants.Controller h p =
        goes refl (λ e x. cc x) (wants_back u s.core wants.Controller p.1) (goes_on_by k before (outside old old_trace) (outside s trace) (core_giving_up u old.core) (core_giving_up u s.core) h p.0)
    proceeds trace s kind old old_trace wanted wants.Oracle h p =
        goes refl (λ e x. cc x) (wants_back u s.core wants.Oracle p.1) (goes_on_by k before (outside old old_trace) (outside s trace) (core_giving_up u old.core) (core_giving_up u s.core) h p.0)
    proceeds trace s kind old old_trace wanted (wants.Nothing e) h p =
        over e refl refl (driven_by k before (outside old old_trace) (outside s trace) (core_giving_up u old.core) (core_giving_up u s.core) (drive_end.Ended e) h p)

    served_on : (done : List ℕ) (s : Run (CoreState State)) (t : Standing (CoreState State)) (text : List ℕ) (r : Served) → WantsTell s.standing.core s.wanted → Goes k before (outside s.standing (own_trace done)) (core_giving_up u s.standing.core) →
        IsServed Answers s.standing t text s.wanted r → IsAhead t.core u → Stands (own_trace (put_on done (traced_of r) text)) (run_after t r s.wanted)
    served_on done s t text (served.Goes next kind) wanted h is_served ahead =
        proceeds (own_trace (put_on done kind text)) t kind s.standing (own_trace done) s.wanted next h
        (served_proceeds s.standing t text s.wanted next kind (own_trace done) (own_trace (put_on done kind text)) wanted is_served (traces done kind text) u ahead)
    served_on done s t text (served.Broken v) wanted h is_served ahead = broken v s.standing text s.wanted refl wanted is_served h

    stays : (done : List ℕ) (s mid : Run (CoreState State)) (text : List ℕ) (kind : Option PieceKind) → Stands (own_trace done) s → TakesPart Answers s mid text kind → IsAhead mid.standing.core u → Stands (own_trace (put_on done kind text)) mid
    stays done s mid text _ stands (part.over e calm is same) ahead = subst (Stands (own_trace done)) (sym same) stands
    stays done s mid text _ (goes calm on wanted h) (part.fails w t r is is_told same) ahead = absurd (cc (calm, is))
    stays done s mid text _ (over e calm ends h) (part.fails w t r is is_told same) ahead = absurd (cc (calm, is))
    stays done s mid text _ (broken v old before_text wanted_by is_broken wanted is_served h) (part.fails w t r is is_told same) ahead =
        let same_side : w ≡ v = cc (is_broken, is) in
        let ahead_there : IsAhead t.core u = subst (λ (x : Run (CoreState State)). IsAhead x.standing.core u) same ahead in
        let ended = served_breaks old s.standing t before_text text wanted_by v r (own_trace done) (own_trace (put_on done (traced_of r) text)) wanted is_served
        (subst (λ (x : Who). IsTold Answers s.standing t text (failed x) r) same_side is_told) (traces done (traced_of r) text) u ahead_there in
        subst (Stands (own_trace (put_on done (traced_of r) text))) (sym same)
        (over (end.Device v) (ap broken_after ended.0) (ap (λ (x : Served). wants_after x s.wanted) ended.0)
        (driven_by k before (outside old (own_trace done)) (outside t (own_trace (put_on done (traced_of r) text))) (core_giving_up u old.core) (core_giving_up u t.core) (drive_end.Ended (end.Device v)) h ended.1))
    stays done s mid text _ (goes calm on wanted h) (part.goes_on t r none more is_served same) ahead =
        subst (Stands (own_trace (put_on done (traced_of r) text))) (sym same)
        (served_on done s t text r wanted h is_served (subst (λ (x : Run (CoreState State)). IsAhead x.standing.core u) same ahead))
    stays done s mid text _ (over e calm ends h) (part.goes_on t r none more is_served same) ahead = absurd (more e ends)
    stays done s mid text _ (broken v old before_text wanted_by is_broken wanted was_served h) (part.goes_on t r none more is_served same) ahead = absurd (cc (is_broken, none))

    stays_all : (s last : Run (CoreState State)) (parts : List (Option (List ℕ))) (done : List ℕ) → TakesParts Answers s parts last → Stands (own_trace done) s → IsAhead last.standing.core u → Stands (own_trace (done ++ text_of parts)) last
    stays_all _ _ _ done (part.none s) stands ahead = subst (λ (t : List ℕ). Stands (own_trace t) s) (sym (append-nil done)) stands
    stays_all _ _ _ done (part.more s mid last text kind parts took rest) stands ahead =
        subst (λ (t : List ℕ). Stands (own_trace t) last) (texts done kind text parts)
        (stays_all mid last parts (put_on done kind text) rest (stays done s mid text kind stands took (back mid last parts rest ahead)) ahead)

    -- so it was driven partly, or to its end
    is_partly : (trace : Sink) (run : Run (CoreState State)) → Stands trace run → IsAhead run.standing.core u → IsPartly k before (outside run.standing trace) (core_giving_up u run.standing.core) run.wanted run.broken
    is_partly trace run (goes calm on wanted h) ahead =
        subst (IsPartly k before (outside run.standing trace) (core_giving_up u run.standing.core) run.wanted) (sym calm)
        (partly.goes run.wanted h.received h.pieces on (λ c o. (resume (core_giving_up u run.standing.core) c o, h.way c o)) h.interaction h.history h.counts)
    is_partly trace run (over e calm ends h) ahead =
        subst (IsPartly k before (outside run.standing trace) (core_giving_up u run.standing.core) run.wanted) (sym calm)
        (subst (λ (w : Wants). IsPartly k before (outside run.standing trace) (core_giving_up u run.standing.core) w None) (sym ends) (partly.over e h))
    is_partly trace run (broken v old text w is wanted is_served h) ahead =
        let b = breaks_both k (continuation_of (core_giving_up u old.core)) h.received h.pieces (record { way = h.way; counts = h.counts })
        before (outside old trace) (outside run.standing trace) (core_giving_up u run.standing.core) v h.interaction h.history
        (served_broken old run.standing text w v trace wanted is_served u ahead) in
        subst (IsPartly k before (outside run.standing trace) (core_giving_up u run.standing.core) run.wanted) (sym is)
        (partly.broken run.wanted v b.received b.given b.kind b.prefix b.rest b.goes b.begins b.interaction b.history b.counts)

    -- and where it wants nothing any more, to that end
    is_driven : (trace : Sink) (run : Run (CoreState State)) (e : End) → Stands trace run → run.broken ≡ None → run.wanted ≡ wants.Nothing e → IsDriven k before (outside run.standing trace) (core_giving_up u run.standing.core) (drive_end.Ended e)
    is_driven trace run e (goes calm on wanted h) sound ends = absurd (on e ends)
    is_driven trace run e (over f calm over_is h) sound ends =
        let same : f ≡ e = cc (over_is, ends) in
        subst (λ (x : End). IsDriven k before (outside run.standing trace) (core_giving_up u run.standing.core) (drive_end.Ended x)) same h
    is_driven trace run e (broken v old text w is wanted is_served h) sound ends = absurd (cc (is, sound))

-- However often a run took its part, it stands where one does that is alone.
stood : {State : Type 0} (s last : Run (CoreState State)) (parts : List (Option (List ℕ))) → s.broken ≡ None → s.wanted ≡ wants.Turn → WantsTell s.standing.core wants.Turn → TakesParts Answers s parts last →
    (u : Option GivenUp) → IsAhead last.standing.core u → Stands u (continuation_of (core_giving_up u s.standing.core)) (outside s.standing (own_trace [])) (own_trace (text_of parts)) last
stood s last parts calm turn wanted took u ahead =
    let k = continuation_of (core_giving_up u s.standing.core) in
    let before = outside s.standing (own_trace []) in
    let more : (e : End) → s.wanted ≢ wants.Nothing e = λ e x. cc (turn, x) in
    let first : Stands u k before (own_trace []) s = goes calm more (subst (λ (w : Wants). WantsTell s.standing.core w) (sym turn) wanted) (starts (core_giving_up u s.standing.core) before) in
    stays_all u k before s last parts [] took first ahead

-- However often a run took its part, it was driven so far as one that is alone.
pub run_alone : {State : Type 0} (s last : Run (CoreState State)) (parts : List (Option (List ℕ))) → s.broken ≡ None → s.wanted ≡ wants.Turn → WantsTell s.standing.core wants.Turn → TakesParts Answers s parts last →
    (u : Option GivenUp) → IsAhead last.standing.core u →
    IsPartly (continuation_of (core_giving_up u s.standing.core)) (outside s.standing (own_trace [])) (outside last.standing (own_trace (text_of parts))) (core_giving_up u last.standing.core) last.wanted last.broken
run_alone s last parts calm turn wanted took u ahead =
    is_partly u (continuation_of (core_giving_up u s.standing.core)) (outside s.standing (own_trace [])) (own_trace (text_of parts)) last (stood s last parts calm turn wanted took u ahead) ahead

-- And where it wants nothing any more, it was driven to that end.
pub run_ended : {State : Type 0} (s last : Run (CoreState State)) (parts : List (Option (List ℕ))) → s.broken ≡ None → s.wanted ≡ wants.Turn → WantsTell s.standing.core wants.Turn → TakesParts Answers s parts last →
    (u : Option GivenUp) → IsAhead last.standing.core u → (e : End) → last.broken ≡ None → last.wanted ≡ wants.Nothing e →
    IsDriven (continuation_of (core_giving_up u s.standing.core)) (outside s.standing (own_trace [])) (outside last.standing (own_trace (text_of parts))) (core_giving_up u last.standing.core) (drive_end.Ended e)
run_ended s last parts calm turn wanted took u ahead e sound ends =
    is_driven u (continuation_of (core_giving_up u s.standing.core)) (outside s.standing (own_trace [])) (own_trace (text_of parts)) last e (stood s last parts calm turn wanted took u ahead) sound ends
