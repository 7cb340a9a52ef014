use Rattle.std.proofs.Common.{◌≡◌, ◌≤◌, ◌+◌, IsTrue, length, vec_len, vec_capacity}
use Rattle.lt_linear.specs.Form.{merged}
use Rattle.lt_linear.specs.inner.Merging.{are_usable, combined}
use Rattle.lt_linear.proofs.Fronts.{written_before}
use Rattle.lt_linear.proofs.merging.merge.Given as goal

-- what is written, and what the lists that are left give, is all
abbrev pub invariant-loop-front : goal.invariant-loop-front
invariant-loop-front l =
    record {
      told : merged (combined l.operation) l.left l.right ≡ written_before l.into.items (merged (combined l.operation) l.rest l.others);
      rest : IsTrue (are_usable l.operation l.rest);
      others : IsTrue (are_usable l.operation l.others);
      room : vec_len l.into + (length l.rest + length l.others) ≤ vec_capacity l.into;
      kept : vec_capacity l.initial.into ≤ vec_capacity l.into;
    }

abbrev pub decreases-loop-front : goal.decreases-loop-front
decreases-loop-front l = length l.rest + length l.others
