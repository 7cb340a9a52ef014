use Rattle.std.proofs.Common.{◌≡◌, drop}
use Rattle.std.specs.List.{list_any}
use Rattle.lt_check.specs.inner.AskingView.{is_leaf_alive}
use Rattle.lt_check.specs.inner.SearcherView.{IsSearcherOf}
use Rattle.lt_check.proofs.asking.AskingAlive.is_live.Given as goal

-- none of the instants so far is live
abbrev pub invariant-loop-instant : goal.invariant-loop-instant
invariant-loop-instant l = record {
  left : list_any (is_leaf_alive l.self) l.instant-items ≡ list_any (is_leaf_alive l.self) (drop l.instant-index l.instant-items);
  searcher : IsSearcherOf l.self.context.now.scenario.now l.searcher;
}
