use Rattle.std.proofs.Common.{◌≡◌, ◌≤◌, ◌-◌, length, map}
use Rattle.lt_macros.specs.inner.Built.{in_all}
use Rattle.lt_macros.specs.Tree.{declared, expanded}
use Rattle.lt_macros.proofs.build.put_locals.Given as goal

-- the other locals are still to be put around the trace
abbrev pub invariant-loop-local : goal.invariant-loop-local
invariant-loop-local l =
    record {
      tree : in_all (l.number - length l.left.items) (map declared l.left.items) (expanded l.expanded.value) ≡ in_all (l.fn.next - length l.fn.declared.items) (map declared l.fn.declared.items) (expanded l.fn.body.expanded.value);
      few : length l.left.items ≤ l.number;
    }

abbrev pub decreases-loop-local : goal.decreases-loop-local
decreases-loop-local l = length l.left.items
