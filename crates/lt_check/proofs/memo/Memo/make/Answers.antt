use Rattle.std.proofs.Common.{◌≡◌, ◌≤◌, ℕ, Bool, List, arith, false, replicate, rules, subst, sym}
use Rattle.std.specs.Prelude.{All}
use Rattle.std.proofs.lemmas.List.Elements.{All-replicate}
use Rattle.lt_check.proofs.memo.Memo.make.Goals as goal

pub invariant_of-result : goal.invariant_of-result
invariant_of-result c =
    let items : c.in_ok-vec.field-0.items ≡ replicate c.args.count (0, false) = search rules in
    record { past = subst (λ (xs : List (ℕ × Bool)). All (λ e. e.0 ≤ 1) xs) (sym items) (All-replicate (λ e. e.0 ≤ 1) c.args.count (0, false) (omega arith)) }
