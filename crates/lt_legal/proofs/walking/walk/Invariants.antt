use Rattle.std.proofs.Common.{◌≡◌, ℕ, map}
use Rattle.lt_legal.proofs.Walks.{Left}
use Rattle.lt_legal.specs.Back.{back, total}
use Rattle.lt_legal.specs.NodeView.{node_view}
use Rattle.lt_legal.proofs.walking.walk.Given as goal

-- what is put down, and what is left to do, is all
abbrev pub invariant-loop-number : goal.invariant-loop-number
invariant-loop-number g l = record {
  left : Left (g.A.Alive.live l.fn.alive) (map node_view l.nodes) l.stack.items l.out.items (back (g.A.Alive.live l.fn.alive) l.from g.tree) l.from g.tree;
  ready : g.A.Alive.ready l.alive;
  live : g.A.Alive.live l.alive ≡ g.A.Alive.live l.fn.alive;
  needs : (k need : ℕ) → g.A.Alive.may_give_up l.alive k need → g.A.Alive.may_give_up l.fn.alive k need;
}

abbrev pub decreases-loop-number : goal.decreases-loop-number
decreases-loop-number g l = total l.found l.stack.items
