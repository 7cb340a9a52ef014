use Rattle.std.proofs.Common.{◌≡◌, take, true}
use Rattle.std.specs.List.{list_all}
use Rattle.lt_check.specs.inner.JudgeView.{context_of, scenario_of, step_of}
use Rattle.lt_check.specs.inner.MemoView.{Tells}
use Rattle.lt_check.specs.inner.QuestionView.{constraint_holds}
use Rattle.lt_check.specs.inner.SearcherView.{IsSearcherOf}
use Rattle.lt_check.proofs.judge.all_hold.Given as goal

-- those so far hold
abbrev pub invariant-loop-constraint : goal.invariant-loop-constraint
invariant-loop-constraint l = record {
  searcher : IsSearcherOf (scenario_of l.question) l.searcher;
  tells : Tells (constraint_holds (context_of l.question) (step_of l.question)) l.memo;
  lasts : l.memo.lasts.items ≡ l.lasts;
  holds : list_all (constraint_holds (context_of l.question) (step_of l.question) l.lasts) (take l.constraint-index l.constraints) ≡ true;
}
