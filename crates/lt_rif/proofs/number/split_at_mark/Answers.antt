use Rattle.std.proofs.Common.{arith}
use Rattle.std.proofs.lemmas.Grind.{common_steps}
use Rattle.lt_rif.specs.Number.{is_mark}
use Rattle.lt_rif.proofs.NumberLemmas.{position-some, position-none}
use Rattle.lt_rif.proofs.number.split_at_mark.Goals as goal

pub returns-in-Some-clause-before : goal.returns-in-Some-clause-before
returns-in-Some-clause-before c = let h = position-some is_mark c.args.number.now _ c.in-Some.ensures in let e = h.0 in grind (arith, common_steps)

pub returns-in-Some-clause-after : goal.returns-in-Some-clause-after
returns-in-Some-clause-after c = let h = position-some is_mark c.args.number.now _ c.in-Some.ensures in let e = h.0 in grind (arith, common_steps)

pub returns-in-None-clause-before : goal.returns-in-None-clause-before
returns-in-None-clause-before c = let h = position-none is_mark c.args.number.now c.in-None.ensures in grind (arith, common_steps)

pub returns-in-None-clause-after : goal.returns-in-None-clause-after
returns-in-None-clause-after c = let h = position-none is_mark c.args.number.now c.in-None.ensures in grind (arith, common_steps)
