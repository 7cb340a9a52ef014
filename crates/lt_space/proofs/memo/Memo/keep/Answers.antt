use Rattle.std.proofs.Common.{arith, ap, ◌∙◌}
use Rattle.std.specs.Prelude.{slice_set}
use Rattle.std.proofs.lemmas.List.{map-set}
use Rattle.lt_space.specs.inner.Cell.{number_in}
use Rattle.lt_space.specs.inner.Memo.{memo_numbers}
use Rattle.lt_space.proofs.Circuits.{le_true}
use Rattle.lt_space.proofs.Memos.{now_number, past_set}
use Rattle.lt_space.proofs.memo.Memo.keep.Goals as goal

pub invariant_of-self : goal.invariant_of-self
invariant_of-self c =
    let s = c.args.self.now in
    record { past = past_set s.stamp s.cells.items c.args.exp (record { stamp = s.stamp; number = c.args.number }) s.past (le_true s.stamp s.stamp (omega arith)) }

pub returns : goal.returns
returns c =
    let s = c.args.self.now in
    map-set (number_in s.stamp) s.cells.items c.args.exp (record { stamp = s.stamp; number = c.args.number })
    ∙ ap (slice_set (memo_numbers s) c.args.exp) (now_number s.stamp c.args.number)
