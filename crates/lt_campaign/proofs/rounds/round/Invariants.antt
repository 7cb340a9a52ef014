-- The sessions so far took their parts, and their frames were put.
use Rattle.std.proofs.Common.{◌≡◌, ◌≤◌, ◌-◌, ℕ, List, length, map}
use Rattle.lt_io.specs.Sink.{Sink}
use Rattle.lt_loop.specs.InputSource.{InputSource}
use Rattle.lt_campaign.specs.RunView.{AllHaveKinds, session_view}
use Rattle.lt_campaign.specs.inner.Writing.{HasText}
use Rattle.lt_campaign.proofs.Places.{BegunTo}
use Rattle.lt_campaign.proofs.rounds.round.Given as goal

abbrev pub invariant-loop-number : goal.invariant-loop-number
invariant-loop-number g l = record {
  begun : (start : Sink) (before : List ℕ) → HasText start (g.S.Sink.state l.fn.trace) l.fn.waiting.items before →
      BegunTo l.number (map (session_view g.L.Link.state) l.fn.sessions.items) (map (session_view g.L.Link.state) l.sessions.items) start (g.S.Sink.state l.trace) l.waiting.items before;
  kinds : (c o : InputSource) → AllHaveKinds c o l.fn.sessions.items → AllHaveKinds c o l.sessions.items;
  many : length l.sessions.items ≡ l.count;
  all : length l.fn.sessions.items ≡ l.count;
  within : l.number ≤ l.count;
}

abbrev pub decreases-loop-number : goal.decreases-loop-number
decreases-loop-number g l = l.count - l.number
