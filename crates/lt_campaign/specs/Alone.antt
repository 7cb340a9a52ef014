-- Each run of a campaign is driven as one that is alone, over its own links and a trace of its own.
use Rattle.std.specs.Prelude.{◌≡◌, ◌≢◌, ℕ, false, List, [], ◌∷◌, ◌++◌, None, Some}
use Rattle.std.specs.declared.option.Option.{Option}
use Rattle.lt_drive.specs.Drive.{Begins, Continuation, HasPutOut, IsDriven, continuation_of}
use Rattle.lt_drive.specs.History.{History}
use Rattle.lt_drive.specs.Interaction.{Interaction, Received, piece, side}
use Rattle.lt_drive.specs.Served.{outside}
use Rattle.lt_drive.specs.declared.drive_end.DriveEnd.TheVariants as drive_end
use Rattle.lt_io.specs.Outside.{Links, Outside}
use Rattle.lt_io.specs.Sink.{Sink}
use Rattle.lt_loop.specs.CoreState.{CoreState, IsAhead, core_giving_up}
use Rattle.lt_loop.specs.Event.{WantsTell}
use Rattle.lt_loop.specs.Machine.{GivenUp}
use Rattle.lt_loop.specs.Play.{Piece, destination_of}
use Rattle.lt_loop.specs.Run.{Answers}
use Rattle.lt_loop.specs.declared.event.PieceKind.{PieceKind}
use Rattle.lt_loop.specs.declared.event.Wants.{Wants}
use Rattle.lt_loop.specs.declared.event.Wants.TheVariants as wants
use Rattle.lt_rif.specs.declared.end.End.{End}
use Rattle.lt_rif.specs.declared.end.Who.{Who}
use Rattle.lt_campaign.specs.Run.{Run, TakesParts, text_of}

-- a trace of its own: it tells what was written, and never fails
abbrev pub own_trace : List ℕ → Sink
own_trace text = record { written = Some text; faults = 0; gathers = false }

-- What is left of a run was driven from one moment to another, to its end or not. A row a way.
pub data IsPartly {State : Type 0} (k : Continuation) (old new : Outside Links)
    (core : CoreState State) : Wants → Option Who → Type 0 where
  -- it is over: it was driven to its end
  over : (e : End) → IsDriven k old new core (drive_end.Ended e) →
      IsPartly k old new core (wants.Nothing e) None
  -- it goes on: what was given out are the first pieces of its play on what was received
  goes : (w : Wants) (received : Received) (ps : List Piece) →
      ((e : End) → w ≢ wants.Nothing e) → Begins k received ps →
      Interaction old new received ps None false → History k old new received ps None false →
      HasPutOut k ps core → IsPartly k old new core w None
  -- the last piece could not be sent to its side, but for a prefix, and that isn't told yet
  broken : (w : Wants) (v : Who) (received : Received) (ps : List Piece) (kind : PieceKind)
      (prefix rest : List ℕ) → destination_of kind ≡ side v →
      Begins k received (ps ++ piece kind (prefix ++ rest) ∷ []) →
      Interaction old new received (ps ++ piece kind prefix ∷ []) (Some v) false →
      History k old new received (ps ++ piece kind prefix ∷ []) (Some v) false →
      HasPutOut k (ps ++ piece kind prefix ∷ []) core → IsPartly k old new core w (Some v)

-- However often a run took its part, it was driven so far as one that is alone, over its own links
-- and a trace of its own, to which all was written that was for the trace.
abbrev pub RunsAreAlone : Type 0 → Type 0
RunsAreAlone State =
    (s last : Run (CoreState State)) (parts : List (Option (List ℕ))) →
    s.broken ≡ None → s.wanted ≡ wants.Turn → WantsTell s.standing.core wants.Turn →
    TakesParts Answers s parts last →
    (u : Option GivenUp) → IsAhead last.standing.core u →
    IsPartly (continuation_of (core_giving_up u s.standing.core))
    (outside s.standing (own_trace [])) (outside last.standing (own_trace (text_of parts)))
    (core_giving_up u last.standing.core) last.wanted last.broken
