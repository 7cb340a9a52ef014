-- What happens where a piece is sent over a link, or written to the trace.
use Rattle.std.proofs.Common.{◌≡◌, ℕ, Bool, List, [], ◌∷◌, None, MatchBool, false, refl, sym, subst, append-nil}
use Rattle.std.proofs.KnownBytes.{Appends-nil}
use Rattle.std.specs.Io.KnownBytes.{Appends, Keeps}
use Rattle.std.specs.declared.option.Option.{Option}
use Rattle.lt_io.specs.Causes.{Rose}
use Rattle.lt_io.specs.Link.{Act, FitsAfter, Link}
use Rattle.lt_io.specs.Outside.{Links, Outside, linked}
use Rattle.lt_io.specs.Sink.{Sink}
use Rattle.lt_rif.specs.declared.end.Who.TheVariants as who
use Rattle.lt_loop.specs.Play.{destination_of}
use Rattle.lt_loop.specs.declared.event.Destination.{Destination}
use Rattle.lt_loop.specs.declared.event.Destination.TheVariants as destination
use Rattle.lt_loop.specs.declared.event.PieceKind.{PieceKind}
use Rattle.lt_drive.specs.Interaction.{Interaction, bytes_to, piece, silence, text_to}
use Rattle.lt_drive.specs.inner.Steps.{IsDoneTo}
use Rattle.lt_drive.proofs.Histories.{fits_none}
use Rattle.lt_drive.proofs.Interactions.{nothing_received}
use Rattle.lt_drive.proofs.LinkReads.{blamed_controller, blamed_oracle, failing, kept_received, spared_controller, spared_oracle}

-- a piece of this kind goes there
module _ (kind : PieceKind) (there : Destination) (goes : destination_of kind ≡ there) where
  -- what a destination is given of it
  one_to : (d : Destination) (text : List ℕ) (a b : Option (List ℕ)) → Appends a b (bytes_to d there text) → Appends a b (text_to d (piece kind text ∷ []))
  one_to d text a b given =
      subst (λ (t : List ℕ). Appends a b t) (sym (append-nil (bytes_to d (destination_of kind) text))) (subst (λ (x : Destination). Appends a b (bytes_to d x text)) (sym goes) given)

  -- what was done there
  pub done_there : (act : Act) (old new : Outside Links) → IsDoneTo there act old new → IsDoneTo (destination_of kind) act old new
  done_there act old new done = subst (λ (x : Destination). IsDoneTo x act old new) (sym goes) done

module _ (kind : PieceKind) (text : List ℕ) (b : Bool) (old : Outside Links) where
  -- a piece was sent to the controller, or a prefix of it
  pub controller_sent : (l : Link) → destination_of kind ≡ destination.Controller → Keeps old.inputs.controller.left l.left → Appends old.inputs.controller.sent l.sent text →
      MatchBool b (Rose old.inputs.controller.faults l.faults) (l.faults ≡ old.inputs.controller.faults) → Interaction old (linked l old.inputs.oracle old.trace) silence (piece kind text ∷ []) (failing b who.Controller) false
  controller_sent l goes left sent blames = record {
    controller = kept_received old.inputs.controller.left l.left left;
    oracle = nothing_received old.inputs.oracle.left;
    gives = elim [
      | destination.Controller ↦ one_to kind destination.Controller goes destination.Controller text old.inputs.controller.sent l.sent sent
      | destination.Oracle ↦ one_to kind destination.Controller goes destination.Oracle text old.inputs.oracle.sent old.inputs.oracle.sent (Appends-nil old.inputs.oracle.sent)
      | destination.Trace ↦ one_to kind destination.Controller goes destination.Trace text old.trace.written old.trace.written (Appends-nil old.trace.written)
    ];
    blames = elim [ destination.Controller ↦ blamed_controller b old.inputs.controller.faults l.faults blames | destination.Oracle ↦ spared_oracle b old.inputs.oracle.faults | destination.Trace ↦ refl ];
  }

  -- to the oracle
  pub oracle_sent : (l : Link) → destination_of kind ≡ destination.Oracle → Keeps old.inputs.oracle.left l.left → Appends old.inputs.oracle.sent l.sent text →
      MatchBool b (Rose old.inputs.oracle.faults l.faults) (l.faults ≡ old.inputs.oracle.faults) → Interaction old (linked old.inputs.controller l old.trace) silence (piece kind text ∷ []) (failing b who.Oracle) false
  oracle_sent l goes left sent blames = record {
    controller = nothing_received old.inputs.controller.left;
    oracle = kept_received old.inputs.oracle.left l.left left;
    gives = elim [
      | destination.Controller ↦ one_to kind destination.Oracle goes destination.Controller text old.inputs.controller.sent old.inputs.controller.sent (Appends-nil old.inputs.controller.sent)
      | destination.Oracle ↦ one_to kind destination.Oracle goes destination.Oracle text old.inputs.oracle.sent l.sent sent
      | destination.Trace ↦ one_to kind destination.Oracle goes destination.Trace text old.trace.written old.trace.written (Appends-nil old.trace.written)
    ];
    blames = elim [ destination.Controller ↦ spared_controller b old.inputs.controller.faults | destination.Oracle ↦ blamed_oracle b old.inputs.oracle.faults l.faults blames | destination.Trace ↦ refl ];
  }

  -- to the trace
  pub trace_written : (t : Sink) → destination_of kind ≡ destination.Trace → Appends old.trace.written t.written text →
      MatchBool b (Rose old.trace.faults t.faults) (t.faults ≡ old.trace.faults) → Interaction old (record old { trace = t }) silence (piece kind text ∷ []) None b
  trace_written t goes written blames = record {
    controller = nothing_received old.inputs.controller.left;
    oracle = nothing_received old.inputs.oracle.left;
    gives = elim [
      | destination.Controller ↦ one_to kind destination.Trace goes destination.Controller text old.inputs.controller.sent old.inputs.controller.sent (Appends-nil old.inputs.controller.sent)
      | destination.Oracle ↦ one_to kind destination.Trace goes destination.Oracle text old.inputs.oracle.sent old.inputs.oracle.sent (Appends-nil old.inputs.oracle.sent)
      | destination.Trace ↦ one_to kind destination.Trace goes destination.Trace text old.trace.written t.written written
    ];
    blames = elim [ destination.Controller ↦ refl | destination.Oracle ↦ refl | destination.Trace ↦ blames ];
  }

-- what was done where something was done with the link of the controller
pub done_to_controller : (act : Act) (old : Outside Links) (l : Link) → FitsAfter old.inputs.controller.fits l.fits (act ∷ []) → IsDoneTo destination.Controller act old (linked l old.inputs.oracle old.trace)
done_to_controller act old l fits = (fits, fits_none old.inputs.oracle.fits)

-- with that of the oracle
pub done_to_oracle : (act : Act) (old : Outside Links) (l : Link) → FitsAfter old.inputs.oracle.fits l.fits (act ∷ []) → IsDoneTo destination.Oracle act old (linked old.inputs.controller l old.trace)
done_to_oracle act old l fits = (fits_none old.inputs.controller.fits, fits)

-- with neither
pub done_to_trace : (act : Act) (old : Outside Links) (t : Sink) → IsDoneTo destination.Trace act old (record old { trace = t })
done_to_trace act old t = (fits_none old.inputs.controller.fits, fits_none old.inputs.oracle.fits)
