-- A run takes its part of a round.
use Rattle.std.proofs.Common.{◌≡◌, ◌≢◌, ℕ, List, None, Some, sym, subst}
use Rattle.std.specs.declared.option.Option.{Option}
use Rattle.lt_drive.specs.Served.{IsServed, IsTold, Standing}
use Rattle.lt_drive.specs.declared.served.Served.{Served}
use Rattle.lt_loop.specs.Event.{Told, failed}
use Rattle.lt_loop.specs.Run.{Answer}
use Rattle.lt_loop.specs.declared.event.PieceKind.{PieceKind}
use Rattle.lt_loop.specs.declared.event.Wants.{Wants}
use Rattle.lt_loop.specs.declared.event.Wants.TheVariants as wants
use Rattle.lt_rif.specs.declared.end.End.{End}
use Rattle.lt_rif.specs.declared.end.Who.{Who}
use Rattle.lt_campaign.specs.Run.{Run, TakesPart, broken_after, run_after, traced_of, wants_after}
use Rattle.lt_campaign.specs.Run as part

module _ {State : Type 0} (answers : State → Told → Answer → State → Type 0) (old : Run State) (s : Standing State) (text : List ℕ) (r : Served) (wanted : Wants) (broken : Option Who) (kind : Option PieceKind)
    (wants_is : wanted ≡ wants_after r old.wanted) (broken_is : broken ≡ broken_after r) (traced_is : kind ≡ traced_of r) where
  -- where it stands afterwards
  abbrev now : Run State
  now = record { standing = s; wanted = wanted; broken = broken }

  same : now ≡ run_after s r old.wanted
  same = λ i. record { standing = s; wanted = wants_is i; broken = broken_is i }

  -- it was told a fault
  pub told_fault : (w : Who) → old.broken ≡ Some w → IsTold answers old.standing s text (failed w) r → TakesPart answers old now text kind
  told_fault w is told = subst (TakesPart answers old now text) (sym traced_is) (part.fails w s r is told same)

  -- it was told what it waits for
  pub told_wanted : old.broken ≡ None → ((e : End) → old.wanted ≢ wants.Nothing e) → IsServed answers old.standing s text old.wanted r → TakesPart answers old now text kind
  told_wanted none more served = subst (TakesPart answers old now text) (sym traced_is) (part.goes_on s r none more served same)
