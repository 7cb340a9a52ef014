use Rattle.std.proofs.Common.{◌≡◌, ◌++◌, map, take}
use Rattle.lt_check.specs.inner.TaskView.{visit_task}
use Rattle.lt_check.proofs.finder.push_visits.Given as goal

-- the trees so far
abbrev pub invariant-loop-tree : goal.invariant-loop-tree
invariant-loop-tree l = l.tasks.items ≡ l.fn.tasks.items ++ map visit_task (take l.tree-index l.trees)
