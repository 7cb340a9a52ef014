-- What is left of an event for the trace, and what comes of it.
use Rattle.std.proofs.Common.{◌≡◌, ℕ, ◌+◌, ◌<◌, List, length, take, drop, None, Some, refl, subst, sym, arith, length-drop}
use Rattle.std.proofs.lemmas.List.{take-append-drop}
use Rattle.std.specs.Io.KnownBytes.{Appends}
use Rattle.std.specs.declared.option.Option.{Option}
use Rattle.lt_io.specs.Causes.{Rose}
use Rattle.lt_io.specs.Sending.{AppendsProperPrefix}
use Rattle.lt_io.specs.Sink.{Sink}
use Rattle.lt_rif.specs.declared.end.End.{End}
use Rattle.lt_rif.specs.declared.end.End.TheVariants as end
use Rattle.lt_rif.specs.declared.end.Who.{Who}
use Rattle.lt_loop.specs.CoreState.{CoreState, IsAhead, core_giving_up}
use Rattle.lt_loop.specs.Event.{WantsTell, failed}
use Rattle.lt_loop.specs.Machine.{GivenUp}
use Rattle.lt_loop.specs.Play.{steps_of}
use Rattle.lt_loop.specs.Run.{Answers}
use Rattle.lt_loop.specs.Work.{work_left}
use Rattle.lt_loop.specs.declared.event.PieceKind.{PieceKind}
use Rattle.lt_loop.specs.declared.event.PieceKind.TheVariants as piece_kind
use Rattle.lt_loop.specs.declared.event.Wants.{Wants}
use Rattle.lt_loop.specs.declared.event.Wants.TheVariants as wants
use Rattle.lt_drive.specs.Drive.{continuation_of, failed_step}
use Rattle.lt_drive.specs.Served.{IsServed, IsTold, Standing, outside}
use Rattle.lt_drive.specs.declared.drive_end.DriveEnd.TheVariants as drive_end
use Rattle.lt_drive.specs.declared.progress.Progress.{Progress}
use Rattle.lt_drive.specs.declared.progress.Progress.TheVariants as progress
use Rattle.lt_drive.specs.declared.served.Served.TheVariants as served
use Rattle.lt_drive.specs.inner.Steps.{Falls, IfGoes, IsPutOut, Proceeds, progress_of, put_part, put_whole}
use Rattle.lt_drive.proofs.Events.{breaks_untraced, fault_served, served_breaks, served_proceeds, served_untraced}

-- all but an end of a text was written
all_but_an_end : (n : ℕ) (text : List ℕ) (old new : Option (List ℕ)) → n < length text → Appends old new (take n text) → AppendsProperPrefix old new text
all_but_an_end n text old new part wrote = (take n text, drop n text, sym (take-append-drop n text), omega (arith, length-drop n text), wrote)

module _ (count : ℕ) (next : Wants) (shown text : List ℕ) (lent : shown ≡ text) (old new : Sink) (traced : Option PieceKind) where
  -- nothing is for the trace
  pub put_nothing : (p : Progress) → traced ≡ None → p ≡ progress_of next → IsPutOut count next text old old traced p
  put_nothing p is far =
      subst (λ (x : Option PieceKind). IsPutOut count next text old old x p) (sym is) (subst (IsPutOut count next text old old None) (sym far) (put_whole None refl))

  -- what is for the trace was written
  pub put_all : (kind : PieceKind) (p : Progress) → traced ≡ Some kind → Appends old.written new.written shown → new.faults ≡ old.faults → new.gathers ≡ old.gathers → p ≡ progress_of next → IsPutOut count next text old new traced p
  put_all kind p is wrote calm still far =
      subst (λ (x : Option PieceKind). IsPutOut count next text old new x p) (sym is)
      (subst (IsPutOut count next text old new (Some kind)) (sym far) (put_whole (Some kind) (subst (λ (t : List ℕ). Appends old.written new.written t) lent wrote, calm, still)))

  -- it could not be written whole
  pub put_some : (kind : PieceKind) (n step : ℕ) → traced ≡ Some kind → n < length shown → Appends old.written new.written (take n shown) → Rose old.faults new.faults → ((m : ℕ) → count ≡ m + steps_of kind → step ≡ failed_step kind m) →
      IsPutOut count next text old new traced (progress.Over (drive_end.TraceWriteFailed step))
  put_some kind n step is part wrote rose number =
      subst (λ (x : Option PieceKind). IsPutOut count next text old new x (progress.Over (drive_end.TraceWriteFailed step))) (sym is)
      (put_part kind step (subst (λ (t : List ℕ). AppendsProperPrefix old.written new.written t) lent (all_but_an_end n shown old.written new.written part wrote)) rose number)

-- where nothing is wanted, it doesn't go on
pub over_not : (count : ℕ) (next : Wants) (text : List ℕ) (old new : Sink) (kind : Option PieceKind) (p : Progress) (e : End) (P : Type 0) → next ≡ wants.Nothing e → IsPutOut count next text old new kind p → IfGoes p P
over_not count next text old new _ _ e P over (put_whole kind traced) = subst (λ (w : Wants). IfGoes (progress_of w) P) (sym over) tt
over_not count next text old new _ _ e P over (put_part kind step part rose number) = tt

module _ {State : Type 0} where
  -- where it goes on after an event with the same core, less is left to do
  pub falls_on : {C : Type 0} (at : C → CoreState State) (s : CoreState State) (mid new : C) (p : Progress) → work_left (at mid) < work_left s → IfGoes p (new ≡ mid) → Falls s (at new) p
  falls_on at s mid new (progress.Goes w) less same = subst (λ x. work_left (at x) < work_left s) (sym same) less
  falls_on at s mid new (progress.Over d) less same = tt

  -- one event was served
  pub puts_proceed : (old new : Standing (CoreState State)) (text : List ℕ) (w next : Wants) (kind : Option PieceKind) (trace trace' : Sink) (p : Progress) → WantsTell old.core w → IsServed Answers old new text w (served.Goes next kind) → IsPutOut new.core.written next text trace trace' kind p →
      (u : Option GivenUp) → IsAhead new.core u → Proceeds (continuation_of (core_giving_up u old.core)) (outside old trace) (outside new trace') (core_giving_up u new.core) p
  puts_proceed old new text w next _ trace trace' _ wanted is (put_whole kind traced) u ahead = served_proceeds old new text w next kind trace trace' wanted is traced u ahead
  puts_proceed old new text w next _ trace trace' _ wanted is (put_part kind step part rose number) u ahead = served_untraced old new text w next kind step trace trace' wanted is part rose number u ahead

  -- a side could not be sent to, and that was told
  pub puts_fault : (old mid new : Standing (CoreState State)) (text text' : List ℕ) (w : Wants) (v : Who) (next : Wants) (kind : Option PieceKind) (trace trace' : Sink) (p : Progress) → WantsTell old.core w → IsServed Answers old mid text w (served.Broken v) →
      IsTold Answers mid new text' (failed v) (served.Goes next kind) → IsPutOut new.core.written next text' trace trace' kind p →
      (u : Option GivenUp) → IsAhead new.core u → Proceeds (continuation_of (core_giving_up u old.core)) (outside old trace) (outside new trace') (core_giving_up u new.core) p
  puts_fault old mid new text text' w v next _ trace trace' _ wanted is told (put_whole kind traced) u ahead =
      let b = served_breaks old mid new text text' w v (served.Goes next kind) trace trace' wanted is told traced u ahead in
      let over : next ≡ wants.Nothing (end.Device v) = cc b.0 in
      subst (λ (x : Wants). Proceeds (continuation_of (core_giving_up u old.core)) (outside old trace) (outside new trace') (core_giving_up u new.core) (progress_of x)) (sym over) b.1
  puts_fault old mid new text text' w v next _ trace trace' _ wanted is told (put_part kind step part rose number) u ahead =
      let r = fault_served old mid new text text' w v (served.Goes next (Some kind)) wanted is told in
      let line : kind ≡ piece_kind.EndLine = cc r in
      breaks_untraced old mid new text text' w v (served.Goes next (Some kind)) trace trace' wanted is told step part rose
      (subst (λ (x : PieceKind). (m : ℕ) → new.core.written ≡ m + steps_of x → step ≡ failed_step x m) line number) u ahead
