use Rattle.std.proofs.Common.{◌≡◌, map, take}
use Rattle.lt_term.specs.TreeView.{tree_node}
use Rattle.lt_check.specs.inner.Followers.{nexts_by}
use Rattle.lt_check.specs.inner.TermSet.{terms_of}
use Rattle.lt_check.specs.inner.Terms.{with_each}
use Rattle.lt_check.proofs.following.follow_by_look.Given as goal

-- the terms so far
abbrev pub invariant-loop-leaf : goal.invariant-loop-leaf
invariant-loop-leaf l = terms_of l.terms.keys ≡ with_each (terms_of l.fn.following.terms.keys) (nexts_by l.step.locals.items (map tree_node l.look.tree.nodes.items) (take l.leaf-index l.leaf-items))
