use Rattle.std.proofs.Common.{suc, take, drop, get_or, arith, length-drop}
use Rattle.lt_io.proofs.Gathering.{split_at}
use Rattle.lt_io.proofs.gathered.behind.Goals as goal

pub returns-then-place-length : goal.returns-then-place-length
returns-then-place-length c =
    let i = c.loop-length.length-index in
    let ns = c.args.lengths.now in
    let sum_is = c.loop-length.invariant.place in
    let left = c.loop-length.invariant.left in
    let within = c.loop-length-test.true in
    let inside = c.if-place-length.true in
    (take i ns, get_or ns i 0, drop (suc i) ns, split_at ns i within, omega (arith, sum_is), omega (arith, sum_is, inside), omega (arith, left, length-drop (suc i) ns))
