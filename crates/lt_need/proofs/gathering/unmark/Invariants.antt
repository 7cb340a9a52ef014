use Rattle.std.proofs.Common.{◌≡◌, ℕ, drop, false, length, slice_index_or, true}
use Rattle.lt_need.specs.inner.Reached.{IsIn}
use Rattle.lt_need.proofs.gathering.unmark.Given as goal

-- the marks that are set are those of what is left
abbrev pub invariant-loop-place : goal.invariant-loop-place
invariant-loop-place l = record {
  left : (n : ℕ) → slice_index_or l.marks.items n false ≡ true → IsIn (drop l.place l.reached) n;
  len : length l.marks.items ≡ length l.fn.marks.items;
}
