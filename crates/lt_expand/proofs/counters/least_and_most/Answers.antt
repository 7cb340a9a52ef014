use Rattle.std.proofs.Common.{◌≤◌, ◌≤ℤ◌, arith, pos, sym, to_z, of_z}
use mir.Syntax.{w128}
use Rattle.std.specs.Prelude.{unsigned_abs}
use Rattle.std.proofs.lemmas.Int.{ints}
use Rattle.lt_formula.specs.Limits.{most_turns}
use Rattle.lt_macros.specs.Tree.{bounds}
use Rattle.lt_expand.specs.inner.Worth.{turns}
use Rattle.lt_expand.proofs.Turning.{do_fit, small_size}
use Rattle.lt_expand.proofs.counters.least_and_most.Goals as goal

pub overflow_cast-result : goal.overflow_cast-result
overflow_cast-result c =
    let fit = do_fit c.args.decimals (bounds c.args.bounds.now) (turns c.in-Some.turns) c.requires.fit (sym c.in-Some.ensures) in
    let least = to_z w128 (of_z w128 c.in-Some.turns.least) in
    let natural : pos 0 ≤ℤ least = omega (arith, ints, fit.natural, fit.ordered, fit.few) in
    let few : least ≤ℤ pos most_turns = omega (arith, ints, fit.natural, fit.ordered, fit.few) in
    let size : unsigned_abs least ≤ most_turns = small_size least most_turns natural few in
    omega (arith, c.unsigned_abs.ensures.value, size)

pub overflow_cast-result-in-Some : goal.overflow_cast-result-in-Some
overflow_cast-result-in-Some c =
    let fit = do_fit c.args.decimals (bounds c.args.bounds.now) (turns c.in-Some.turns) c.requires.fit (sym c.in-Some.ensures) in
    let most = to_z w128 (of_z w128 c.in-Some.turns.most) in
    let natural : pos 0 ≤ℤ most = omega (arith, ints, fit.natural, fit.ordered, fit.few) in
    let few : most ≤ℤ pos most_turns = omega (arith, ints, fit.natural, fit.ordered, fit.few) in
    let size : unsigned_abs most ≤ most_turns = small_size most most_turns natural few in
    omega (arith, c.unsigned_abs-in-Some.ensures.value, size)
