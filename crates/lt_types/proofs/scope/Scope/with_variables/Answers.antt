use Rattle.std.proofs.Common.{length, reverse, arith}
use Rattle.std.proofs.lemmas.Grind.{common_steps}
use Rattle.std.proofs.lemmas.Iterator.Adapters.{YieldsList-from_rev_slice}
use Rattle.std.proofs.lemmas.Iterator.Consumers.{YieldsList-turn}
use Rattle.std.proofs.lemmas.List.{length_push}
use Rattle.lt_types.proofs.Declaring.{variable_next}
use Rattle.lt_types.proofs.scope.Scope.with_variables.Goals as goal

pub loop-name-preserved : goal.loop-name-preserved
loop-name-preserved c =
    let t = YieldsList-turn (YieldsList-from_rev_slice c.args.variables.now (cc)) c.loop-name.yielded _ c.loop-name.yielded_by _ _ c.in-Some.field-0 c.in-Some.is c.next.ensures.steps in
    let e = variable_next (reverse c.args.variables.now) (length c.loop-name.yielded) c.in-Some.field-0.now t.0 t.1 in
    let n = length_push c.loop-name.yielded c.in-Some.field-0 in
    grind (arith, common_steps)
