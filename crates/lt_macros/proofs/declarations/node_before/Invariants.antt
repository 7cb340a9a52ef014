use Rattle.std.proofs.Common.{◌≡◌, ◌≤◌, length, reverse, take}
use Rattle.std.specs.List.{find}
use Rattle.lt_macros.proofs.Runs.{has_name}
use Rattle.lt_macros.proofs.declarations.node_before.Given as goal

-- the newest one is among those that are left
abbrev pub invariant-nodes : goal.invariant-nodes
invariant-nodes l =
    record {
      few : l.left ≤ length l.before;
      same : find (has_name l.name) (reverse (take l.left l.before)) ≡ find (has_name l.name) (reverse l.before);
    }

abbrev pub decreases-nodes : goal.decreases-nodes
decreases-nodes l = l.left
