use Rattle.std.proofs.Common.{◌≡◌, take}
use Rattle.std.specs.List.{flat_map}
use Rattle.lt_check.specs.inner.FinderView.{leaves_in}
use Rattle.lt_check.specs.inner.JudgeView.{context_of, step_of}
use Rattle.lt_check.specs.inner.TermSet.{terms_of}
use Rattle.lt_check.specs.inner.Terms.{with_each}
use Rattle.lt_check.proofs.FollowingFinds.{next_of}
use Rattle.lt_check.proofs.following.put_nexts.Given as goal

-- the terms so far
abbrev pub invariant-loop-instant : goal.invariant-loop-instant
invariant-loop-instant l =
    terms_of l.terms.keys ≡ with_each (terms_of l.fn.terms.keys)
    (flat_map (next_of (step_of l.question).locals.items) (leaves_in (context_of l.question) l.finder.unfolded (take l.instant-index l.instant-items)))
