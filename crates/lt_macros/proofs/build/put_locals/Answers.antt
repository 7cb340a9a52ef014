use Rattle.std.proofs.Common.{◌≡◌, ◌+◌, ◌-◌, [], ◌∷◌, ◌++◌, length, ap, ◌∙◌, arith, length-append, rules}
use Rattle.lt_macros.proofs.Exists.{local_put}
use Rattle.lt_macros.proofs.build.put_locals.Goals as goal

pub loop-local-preserved : goal.loop-local-preserved
loop-local-preserved c =
    let is : c.loop-local.left.items ≡ c.pop.new.self.items ++ c.in-Some.local ∷ [] = search rules in
    let some : length c.loop-local.left.items ≡ length c.pop.new.self.items + 1 = ap length is ∙ length-append c.pop.new.self.items (c.in-Some.local ∷ []) in
    record {
      tree =
          local_put c.loop-local.number (c.loop-local.number - 1) c.loop-local.left.items c.pop.new.self.items c.in-Some.local c.loop-local.expanded c.in_ok-expanded.expanded _ is c.loop-local.invariant.few (omega (arith, some, c.loop-local.invariant.few)) (search rules)
          c.loop-local.invariant.tree;
      few = omega (arith, some, c.loop-local.invariant.few);
    }
