use Rattle.std.proofs.Common.{◌≡◌, ◌+◌, ◌-◌, ◌*◌, ◌<◌, ◌≤◌, ◌++◌, All, length, vec_capacity}
use Rattle.lt_draw.specs.Word.{word_at}
use Rattle.lt_draw_path.specs.Order.{picks, tries}
use Rattle.lt_draw_path.proofs.tries.find_tries.Given as goal

-- the places so far, and those that the tries left would find, are all of them
abbrev pub invariant-loop-weights : goal.invariant-loop-weights
invariant-loop-weights l = record {
  len : length l.weights ≡ length l.fn.weights;
  count : length l.places.items ≤ length l.fn.weights;
  within : All (λ k. k < length l.fn.weights) l.places.items;
  room : vec_capacity l.places ≡ vec_capacity l.fn.places;
  drawn : l.drawn ≡ record { seed = l.words.seed; step = l.words.step; slot = 64 * l.position + length l.places.items };
  finds : l.places.items ++ picks (word_at l.words.seed l.words.step) l.position (length l.fn.weights - length l.places.items) (length l.places.items) l.weights ≡ tries (word_at l.words.seed l.words.step) l.position l.fn.weights;
}

abbrev pub decreases-loop-weights : goal.decreases-loop-weights
decreases-loop-weights l = length l.fn.weights - length l.places.items
