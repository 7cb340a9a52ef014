use Rattle.std.proofs.Common.{◌≡◌, ◌≤◌, drop, length, map}
use Rattle.lt_ast.specs.View.{run}
use Rattle.lt_types.specs.Environment.{with_runs}
use Rattle.lt_types.specs.Refusals.{runs_refusals}
use Rattle.lt_types.specs.inner.Scoping.{declared_since}
use Rattle.lt_types.proofs.runs.check_runs.Given as goal

-- what is left breaks the rules that all of it does, and after it stands the scope that stands after all of it
abbrev pub invariant-loop-declared : goal.invariant-loop-declared
invariant-loop-declared l =
    record {
      refusals :
          runs_refusals l.fn.scope (declared_since l.from l.fn.scope) (map run l.runs)
          ≡ runs_refusals l.scope (declared_since l.from l.scope) (map run (drop l.declared-index l.runs));
      declared : with_runs l.fn.scope (map run l.runs) ≡ with_runs l.scope (map run (drop l.declared-index l.runs));
      from : l.from ≤ length l.scope.names;
    }
