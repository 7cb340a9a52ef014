use Rattle.std.proofs.Common.{◌≡◌, take}
use Rattle.std.specs.List.{flat_map}
use Rattle.lt_check.specs.inner.MemoView.{Tells}
use Rattle.lt_check.specs.inner.MomentHolds.{moment_holds}
use Rattle.lt_check.specs.inner.MomentView.{followers}
use Rattle.lt_check.specs.inner.SearcherView.{IsSearcherOf}
use Rattle.lt_check.specs.inner.TermSet.{terms_of}
use Rattle.lt_check.specs.inner.Terms.{with_each}
use Rattle.lt_check.proofs.progress.follow_each.Given as goal

-- the terms that follow those so far
abbrev pub invariant-loop-key : goal.invariant-loop-key
invariant-loop-key l = record {
  searcher : IsSearcherOf l.moment.scenario.now l.all.searcher;
  tells : Tells (moment_holds l.moment l.shown) l.all.finder.judge.memo;
  terms : terms_of l.all.terms.keys ≡ with_each (terms_of l.fn.following.terms.keys) (flat_map (followers l.moment l.shown) (take l.key-index (terms_of l.keys)));
}
