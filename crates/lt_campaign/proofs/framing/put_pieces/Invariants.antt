-- The pieces so far were put.
use Rattle.std.proofs.Common.{ℕ, List, ◌++◌, take}
use Rattle.std.specs.List.{flat_map}
use Rattle.lt_io.specs.Sink.{Sink}
use Rattle.lt_campaign.specs.inner.Writing.{HasText}
use Rattle.lt_campaign.proofs.framing.put_pieces.Given as goal

abbrev pub invariant-loop-piece : goal.invariant-loop-piece
invariant-loop-piece g l =
    (start : Sink) (before : List ℕ) → HasText start (g.S.Sink.state l.fn.trace) l.fn.waiting.items before →
    HasText start (g.S.Sink.state l.trace) l.waiting.items (before ++ flat_map (λ piece. piece.now) (take l.piece-index l.pieces))
