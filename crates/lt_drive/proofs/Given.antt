-- Pieces that are given.
use Rattle.std.proofs.Common.{◌≡◌, ℕ, List, Some, sym, subst}
use Rattle.std.specs.declared.option.Option.{Option}
use Rattle.std.specs.declared.result.Result.{Result}
use Rattle.lt_io.specs.declared.sink.Failed.{Failed}
use Rattle.lt_loop.specs.Play.{destination_of}
use Rattle.lt_loop.specs.declared.event.Destination.{Destination}
use Rattle.lt_loop.specs.declared.event.Destination.TheVariants as destination
use Rattle.lt_loop.specs.declared.event.PieceKind.{PieceKind}
use Rattle.lt_loop.specs.declared.event.Wants.{Wants}
use Rattle.lt_rif.specs.declared.end.Who.TheVariants as who
use Rattle.lt_io.specs.Outside.{Links}
use Rattle.lt_drive.specs.Served.{IsGivenPiece, IsGivenTo, IsSending, served_by}
use Rattle.lt_drive.specs.declared.served.Served.{Served}

given_to : (piece : Option PieceKind) (kind : PieceKind) (d : Destination) (text : List ℕ) (next : Wants) (old new : Links) (r : Served) → piece ≡ Some kind → destination_of kind ≡ d → IsGivenTo d kind text next old new r → IsGivenPiece piece text next old new r
given_to piece kind d text next old new r e f g =
    subst (λ p. IsGivenPiece p text next old new r) (sym e) (subst (λ x. IsGivenTo x kind text next old new r) (sym f) g)

pub to_controller : (piece : Option PieceKind) (kind : PieceKind) (text : List ℕ) (next : Wants) (old new : Links) (result : Result (Unit {0}) Failed) (r : Served) → piece ≡ Some kind → destination_of kind ≡ destination.Controller
    → IsSending old.controller new.controller result text → new.oracle ≡ old.oracle → r ≡ served_by who.Controller next result → IsGivenPiece piece text next old new r
to_controller piece kind text next old new result r e f s o h = given_to piece kind destination.Controller text next old new r e f (result, s, o, h)

pub to_oracle : (piece : Option PieceKind) (kind : PieceKind) (text : List ℕ) (next : Wants) (old new : Links) (result : Result (Unit {0}) Failed) (r : Served) → piece ≡ Some kind → destination_of kind ≡ destination.Oracle
    → IsSending old.oracle new.oracle result text → new.controller ≡ old.controller → r ≡ served_by who.Oracle next result → IsGivenPiece piece text next old new r
to_oracle piece kind text next old new result r e f s o h = given_to piece kind destination.Oracle text next old new r e f (result, s, o, h)
