use Rattle.std.proofs.Common.{◌≡◌, ◌≤◌, length, map, take, vec_capacity}
use Rattle.lt_legal.specs.Follows.{value_before_all}
use Rattle.lt_term.specs.SceneView.{variable}
use Rattle.lt_check.proofs.moment.inputs_before_all.Given as goal

-- the values so far
abbrev pub invariant-loop-input : goal.invariant-loop-input
invariant-loop-input l = record {
  items : l.values.items ≡ map value_before_all (map variable (take l.input-index l.inputs));
  len : length l.values.items ≡ l.input-index;
  room : length l.inputs ≤ vec_capacity l.values;
}
