use Rattle.std.proofs.Common.{◌≡◌, ◌+◌, ◌++◌, true, length, map, drop, replicate, vec_capacity}
use Rattle.lt_term.specs.SceneView.{variable}
use Rattle.lt_instant.specs.Solved.{marks_from}
use Rattle.lt_check.proofs.scopes.put_scope.Given as goal

-- the marks so far, and those that are left to add, are all of them
abbrev pub invariant-loop-number : goal.invariant-loop-number
invariant-loop-number l = record {
  items : l.marks.items ++ marks_from l.lasts l.number (map variable (drop l.number l.locals)) ≡ replicate l.outputs true ++ marks_from l.lasts 0 (map variable l.locals);
  len : length l.marks.items ≡ l.outputs + l.number;
  room : vec_capacity l.marks ≡ vec_capacity l.fn.marks;
}
