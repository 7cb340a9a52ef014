use Rattle.std.proofs.Common.{arith}
use Rattle.lt_macros.proofs.Plain.{traces}
use Rattle.lt_macros.proofs.constructors.trace_at.Goals as goal

pub returns-in-Loop : goal.returns-in-Loop
returns-in-Loop c = grind (arith, traces)

pub returns-in-Raise : goal.returns-in-Raise
returns-in-Raise c = grind (arith, traces)

pub returns-in-Assert : goal.returns-in-Assert
returns-in-Assert c = grind (arith, traces)

pub returns-in-Exist : goal.returns-in-Exist
returns-in-Exist c = grind (arith, traces)

pub returns-in-Catch : goal.returns-in-Catch
returns-in-Catch c = grind (arith, traces)

pub returns-in-Try : goal.returns-in-Try
returns-in-Try c = grind (arith, traces)
