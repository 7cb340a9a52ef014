use Rattle.std.proofs.Common.{rules, ◌≡◌, ◌≢◌, ◌+ℤ◌, ◌<ℤ◌, ℤ, to_z, of_z, sym, subst}
use Rattle.std.specs.Int.{w64}
use Rattle.lt_diff.specs.Bounds.{no_bound}
use Rattle.lt_diff.specs.inner.Pivots.{IsRelaxed}
use Rattle.lt_diff.proofs.Cells.{sum_taken}
use Rattle.lt_diff.proofs.relaxing.relaxed.Goals as goal

pub returns-then-sum-cell : goal.returns-then-sum-cell
returns-then-sum-cell c =
    let first : c.args.first ≢ no_bound = search rules in
    let second : c.args.second ≢ no_bound = search rules in
    let sum : to_z w64 (of_z w64 (to_z w64 (of_z w64 c.args.first) +ℤ to_z w64 (of_z w64 c.args.second))) ≡ c.args.first +ℤ c.args.second = search rules in
    let less : (c.args.first +ℤ c.args.second) <ℤ c.args.cell = search rules in
    subst (λ (s : ℤ). IsRelaxed c.args.cell c.args.first c.args.second s) (sym sum) (sum_taken c.args.cell c.args.first c.args.second first second less)
