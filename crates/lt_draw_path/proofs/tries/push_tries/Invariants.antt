use Rattle.std.proofs.Common.{◌≡◌, ◌+◌, ◌<◌, ◌≤◌, ◌++◌, All, length, map, reverse, vec_capacity, vec_len}
use Rattle.lt_draw_path.specs.Going.{part_entry}
use Rattle.lt_draw_path.proofs.tries.push_tries.Given as goal

-- the places that are left, before what is on the stack, are all
abbrev pub invariant-loop-choice : goal.invariant-loop-choice
invariant-loop-choice l = record {
  room : length l.stack.items + length l.places.items ≤ vec_capacity l.stack;
  capacity : vec_capacity l.stack ≡ vec_capacity l.fn.stack;
  places : vec_capacity l.places ≡ vec_capacity l.fn.places;
  within : All (λ k. k < length l.before) l.places.items;
  puts : map (part_entry l.position l.depth l.before) l.places.items ++ reverse l.stack.items ≡ map (part_entry l.position l.depth l.before) l.fn.places.items ++ reverse l.fn.stack.items;
}

abbrev pub decreases-loop-choice : goal.decreases-loop-choice
decreases-loop-choice l = vec_len l.places
