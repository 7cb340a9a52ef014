use Rattle.std.proofs.Common.{◌≡◌, ◌++◌, map, take}
use Rattle.lt_macros.specs.Tree.{declared}
use Rattle.lt_expand.proofs.kinds.put_declared_kinds.Given as goal

abbrev pub invariant-loop-variable : goal.invariant-loop-variable
invariant-loop-variable l = l.found.items ≡ l.initial.found.items ++ map (λ d. d.kind) (map declared (take l.variable-index l.variables))
