use Rattle.std.proofs.Common.{◌≡◌, ℕ, false, take}
use Rattle.lt_term.specs.Process.{Process}
use Rattle.lt_check.specs.inner.Members.{Has}
use Rattle.lt_check.specs.inner.MomentView.{ends_at}
use Rattle.lt_check.specs.inner.SearcherView.{IsSearcherOf}
use Rattle.lt_check.specs.inner.TermSet.{terms_of}
use Rattle.lt_check.proofs.checking.ends_somewhere.Given as goal

-- none of the terms so far may end
abbrev pub invariant-loop-key : goal.invariant-loop-key
invariant-loop-key l = record {
  searcher : IsSearcherOf l.fn.progress.moment.scenario.now l.searcher;
  none : (p : Process ℕ) → Has (take l.key-index (terms_of l.fn.progress.terms.keys)) p → ends_at l.fn.progress.moment p l.end ≡ false;
}
