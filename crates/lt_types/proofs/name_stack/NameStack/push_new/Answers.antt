use Rattle.std.proofs.Common.{arith}
use Rattle.lt_types.proofs.Leading.{leads}
use Rattle.lt_types.proofs.Stacks.{new_steps}
use Rattle.lt_types.proofs.name_stack.NameStack.push_new.Goals as goal

pub returns-then-is_since : goal.returns-then-is_since
returns-then-is_since c = grind (arith, leads, new_steps)

pub returns-in_err-push : goal.returns-in_err-push
returns-in_err-push c = grind (arith, leads)

pub loop-name-preserved : goal.loop-name-preserved
loop-name-preserved c = grind (arith, new_steps)
