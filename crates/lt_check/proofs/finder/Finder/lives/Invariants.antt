use Rattle.lt_check.specs.inner.FinderView.{tree_in, waiting_in}
use Rattle.lt_check.specs.inner.JudgeView.{context_of, scenario_of}
use Rattle.lt_check.specs.inner.SearcherView.{IsSearcherOf}
use Rattle.lt_check.specs.inner.Visited.{all_work, tree_work}
use Rattle.lt_check.proofs.FinderLives.{Waits}
use Rattle.lt_check.proofs.finder.Finder.lives.Given as goal

-- the tree lives if one of those that wait does
abbrev pub invariant-loop-later : goal.invariant-loop-later
invariant-loop-later l = record {
  searcher : IsSearcherOf (scenario_of l.question) l.searcher;
  waits : Waits (context_of l.question) l.fn.self l.self (tree_in (context_of l.question) l.fn.self.unfolded l.tree);
}

abbrev pub decreases-loop-later : goal.decreases-loop-later
decreases-loop-later l = all_work tree_work (waiting_in (context_of l.question) l.self)
