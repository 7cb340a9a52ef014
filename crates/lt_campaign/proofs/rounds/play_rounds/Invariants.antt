-- Sessions went through rounds so far, fit their cores, and have less left to do.
use Rattle.std.proofs.Common.{◌≡◌, ℕ, false, List, [], map}
use Rattle.lt_io.specs.Sink.{Sink}
use Rattle.lt_loop.specs.InputSource.{InputSource}
use Rattle.lt_campaign.specs.RunView.{AllHaveKinds, session_view}
use Rattle.lt_campaign.specs.inner.Fitting.{AllFit, total_work}
use Rattle.lt_campaign.specs.inner.Writing.{HasText}
use Rattle.lt_campaign.proofs.Playing.{Going}
use Rattle.lt_campaign.proofs.rounds.play_rounds.Given as goal

abbrev pub invariant-loop-sessions : goal.invariant-loop-sessions
invariant-loop-sessions g l = record {
  fit : AllFit (map (session_view g.L.Link.state) l.sessions.items);
  prompt : (g.S.Sink.state l.trace).gathers ≡ false → l.waiting.items ≡ [];
  goes : (start : Sink) (before : List ℕ) → HasText start (g.S.Sink.state l.fn.trace) l.fn.waiting.items before →
      Going (map (session_view g.L.Link.state) l.fn.sessions.items) (map (session_view g.L.Link.state) l.sessions.items) start (g.S.Sink.state l.trace) l.waiting.items before;
  kinds : (c o : InputSource) → AllHaveKinds c o l.fn.sessions.items → AllHaveKinds c o l.sessions.items;
}

abbrev pub decreases-loop-sessions : goal.decreases-loop-sessions
decreases-loop-sessions g l = total_work (map (session_view g.L.Link.state) l.sessions.items)
