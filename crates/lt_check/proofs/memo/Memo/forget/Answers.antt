use Rattle.std.proofs.Common.{◌≤◌, ◌+◌, arith}
use Rattle.std.proofs.lemmas.List.Elements.{All-weaker}
use Rattle.lt_check.proofs.Memos.{all_forgotten}
use Rattle.lt_check.proofs.memo.Memo.forget.Goals as goal

pub invariant_of-self : goal.invariant_of-self
invariant_of-self c =
    let m = c.args.self.now in
    record { past = All-weaker (λ e. e.0 ≤ m.time) (λ e. e.0 ≤ m.time + 1) (λ e h. omega (arith, h)) m.told.items m.past }

pub returns : goal.returns
returns c =
    let m = c.args.self.now in
    λ holds n b e. all_forgotten holds m.lasts.items m.told.items m.time m.past n b e
