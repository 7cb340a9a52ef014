use Rattle.std.proofs.Common.{◌≡◌, ◌++◌, Some, ap, sym, ◌∙◌, arith, rules, to_z, of_z, w64, Option, List, ℤ}
use Rattle.lt_linear.specs.Form.{Term, before, merged, one}
use Rattle.lt_linear.specs.inner.Merging.{IsFront, combined, is_usable}
use Rattle.lt_linear.proofs.Fronts.{one_written, written_before}
use Rattle.lt_linear.proofs.Mergings.{usable_zero}
use Rattle.lt_linear.proofs.merging.merge.Goals as goal

-- one more term is written
pub loop-front-preserved : goal.loop-front-preserved
loop-front-preserved c =
    let f = combined c.args.operation in
    let front = c.in-Some.front in
    let is : IsFront c.loop-front.rest.now c.loop-front.others.now front.variable front.first front.second front.left.now front.right.now = c.in-Some.ensures in
    let passed = is.pass (is_usable c.args.operation) (usable_zero c.args.operation) c.loop-front.invariant.rest c.loop-front.invariant.others in
    let first : to_z w64 (of_z w64 front.first) ≡ front.first = search rules in
    let second : to_z w64 (of_z w64 front.second) ≡ front.second = search rules in
    let raw : to_z w64 (of_z w64 c.in_ok-coefficient.coefficient) ≡ c.in_ok-coefficient.coefficient = search rules in
    let there : f front.first front.second ≡ Some c.in_ok-coefficient.coefficient = sym (λ i. f (first i) (second i)) ∙ sym c.combined.ensures ∙ c.in_ok-coefficient.was in
    let rest : Option (List Term) = merged f front.left.now front.right.now in
    record {
      told = c.loop-front.invariant.told
          ∙ ap (written_before c.loop-front.into.items) (is.merges f)
          ∙ ap (λ (o : Option ℤ). written_before c.loop-front.into.items (before front.variable o rest)) there
          ∙ one_written c.loop-front.into.items front.variable c.in_ok-coefficient.coefficient rest
          ∙ ap (λ (items : List Term). written_before items rest) (ap (λ (z : ℤ). c.loop-front.into.items ++ one front.variable z) (sym raw) ∙ sym c.put.ensures.items);
      rest = passed.2;
      others = passed.3;
      room = omega (arith, is.fewer, c.put.ensures.len, c.put.ensures.capacity, c.loop-front.invariant.room);
      kept = omega (arith, c.put.ensures.capacity, c.loop-front.invariant.kept);
    }
