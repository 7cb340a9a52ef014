use Rattle.lt_term.specs.Offers.{offers_of}
use Rattle.lt_term.specs.View.{process}
use Rattle.lt_check.specs.inner.FinderView.{work_left}
use Rattle.lt_check.specs.inner.JudgeView.{context_of, scenario_of, step_of}
use Rattle.lt_check.specs.inner.QuestionView.{kinds_in, step_leaves}
use Rattle.lt_check.specs.inner.SearcherView.{IsSearcherOf}
use Rattle.lt_check.proofs.FinderSeeks.{Seeks}
use Rattle.lt_check.proofs.finder.Finder.find.Given as goal

-- what will be found is all that is to be found
abbrev pub invariant-loop-task : goal.invariant-loop-task
invariant-loop-task l = record {
  searcher : IsSearcherOf (scenario_of l.question) l.searcher;
  seeks : Seeks (context_of l.question) (step_of l.question) l.self (step_leaves (context_of l.question) (step_of l.question) (offers_of (kinds_in (context_of l.question)) (process l.term)));
}

abbrev pub decreases-loop-task : goal.decreases-loop-task
decreases-loop-task l = work_left (context_of l.question) l.self
