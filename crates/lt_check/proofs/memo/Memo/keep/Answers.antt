use Rattle.std.proofs.Common.{◌<◌, ◌≤◌, arith, length}
use Rattle.std.proofs.lemmas.List.Elements.{All-set}
use Rattle.lt_check.proofs.Memos.{all_kept}
use Rattle.lt_check.proofs.memo.Memo.keep.Goals as goal

pub invariant_of-self : goal.invariant_of-self
invariant_of-self c =
    let m = c.args.self.now in
    record { past = All-set (λ e. e.0 ≤ m.time) m.told.items c.args.constraint (m.time, c.args.holds) (omega arith) m.past }

pub returns-then-number-len-clause-tells : goal.returns-then-number-len-clause-tells
returns-then-number-len-clause-tells c =
    let m = c.args.self.now in
    let there : c.args.constraint < length m.told.items = omega (arith, c.len.ensures, m.told.ok.0, c.if-number-len.true) in
    λ are is were k b e. all_kept (are m.lasts.items) m.told.items m.time c.args.constraint c.args.holds there is were k b e
