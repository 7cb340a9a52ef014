-- What a look tells of the end of a run.
use Rattle.std.proofs.Common.{◌≡◌, ◌∙◌, ℕ, true, false, ap, if◌then◌else◌, not, refl, sym}
use Rattle.lt_term.specs.Process.{Process}
use Rattle.lt_term.specs.View.{process}
use Rattle.lt_term.specs.declared.term.Term.{Term}
use Rattle.lt_trace.specs.declared.recorded.RecordedEnd.{RecordedEnd}
use Rattle.lt_trace.specs.declared.recorded.RecordedEnd.TheVariants as recorded
use Rattle.lt_legal.specs.declared.halt.Halt.{Halt}
use Rattle.lt_legal.specs.declared.halt.Halt.TheVariants as halt
use Rattle.lt_instant.specs.inner.DrawContextView.{scene_of}
use Rattle.lt_check.specs.declared.looking.Look.{Look}
use Rattle.lt_check.specs.declared.moment.Moment.{Moment}
use Rattle.lt_check.specs.inner.LookView.{IsLookEndHalt, look_ends, look_finds}
use Rattle.lt_check.specs.inner.MomentView.{IsEndingHalt, ends_at, finds_some, is_large, moment_scene, small_ends}
use Rattle.lt_check.specs.inner.Some.{is_some_of}
use Rattle.lt_check.specs.inner.Wanted.{Wanted, for_fault, for_normal, for_raise}
use Rattle.lt_check.proofs.FollowingLooks.{IsLookAt, found_is, halt_is, live_is, need_is, scene_is}

-- want of memory halts any look at the end
pub memory_ends : (m : Moment) (p : Process ℕ) (end : RecordedEnd) → IsEndingHalt m p end halt.Memory
memory_ends m p recorded.Normal = tt
memory_ends m p (recorded.Raise z) = tt
memory_ends m p (recorded.Fault f) = tt
memory_ends m p recorded.Deadlock = tt
memory_ends m p recorded.Cut = tt

-- a run doesn't end where too much is offered, unless it is cut
pub large_ends : (m : Moment) (p : Process ℕ) (end : RecordedEnd) → is_large m p ≡ true → (end ≡ recorded.Cut → ⊥) → ends_at m p end ≡ false
large_ends m p recorded.Normal large other = ap (λ b. if b then false else small_ends m p recorded.Normal) large
large_ends m p (recorded.Raise z) large other = ap (λ b. if b then false else small_ends m p (recorded.Raise z)) large
large_ends m p (recorded.Fault f) large other = ap (λ b. if b then false else small_ends m p (recorded.Fault f)) large
large_ends m p recorded.Deadlock large other = ap (λ b. if b then false else small_ends m p recorded.Deadlock) large
large_ends m p recorded.Cut large other = absurd (other refl)

module _ (m : Moment) (term : Term) (look : Look) (at : IsLookAt m term look) (small : is_large m (process term) ≡ false) where
  some_is : (v w : Wanted) → v ≡ w → look_finds look v ≡ finds_some m (process term) w
  some_is v w e = ap is_some_of (found_is m term look at v w e)

  raises : (z : ℕ) → for_raise (scene_of look.context) z ≡ for_raise (moment_scene m) z
  raises z = ap (λ s. for_raise s z) (scene_is m term look at)

  -- where it isn't too much, a look tells whether it ends
  pub ends_is : (end : RecordedEnd) → look_ends look end ≡ ends_at m (process term) end
  ends_is recorded.Normal = some_is for_normal for_normal refl ∙ sym (ap (λ b. if b then false else small_ends m (process term) recorded.Normal) small)
  ends_is (recorded.Raise z) = some_is (for_raise (scene_of look.context) z) (for_raise (moment_scene m) z) (raises z) ∙ sym (ap (λ b. if b then false else small_ends m (process term) (recorded.Raise z)) small)
  ends_is (recorded.Fault f) = some_is (for_fault f) (for_fault f) refl ∙ sym (ap (λ b. if b then false else small_ends m (process term) (recorded.Fault f)) small)
  ends_is recorded.Deadlock = ap not (live_is m term look at) ∙ sym (ap (λ b. if b then false else small_ends m (process term) recorded.Deadlock) small)
  ends_is recorded.Cut = refl

  -- and what halts it halts a look at the end
  pub end_halt_is : (end : RecordedEnd) (halted : Halt) → IsLookEndHalt look end halted → IsEndingHalt m (process term) end halted
  end_halt_is recorded.Normal halted h = halt_is m term look at for_normal for_normal refl small halted h
  end_halt_is (recorded.Raise z) halted h = halt_is m term look at (for_raise (scene_of look.context) z) (for_raise (moment_scene m) z) (raises z) small halted h
  end_halt_is (recorded.Fault f) halted h = halt_is m term look at (for_fault f) (for_fault f) refl small halted h
  end_halt_is recorded.Deadlock halt.Memory h = tt
  end_halt_is recorded.Deadlock (halt.Over need) h = (small, need_is m term look at need h)
  end_halt_is recorded.Cut halted h = absurd h
