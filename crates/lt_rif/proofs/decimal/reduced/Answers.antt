use Rattle.std.proofs.Common.{sym, arith}
use Rattle.lt_rif.proofs.NumberLemmas.{ten-rising, ten-positive, quotient-none}
use Rattle.lt_rif.proofs.decimal.reduced.Goals as goal

pub returns-then-digits-gt36 : goal.returns-then-digits-gt36
returns-then-digits-gt36 c = sym (quotient-none c.args.size c.args.digits c.requires (omega arith))

pub pow-unit-requires : goal.pow-unit-requires
pow-unit-requires c = let most = ten-rising c.args.digits 36 (omega arith) in omega arith

pub overflow_add-result : goal.overflow_add-result
overflow_add-result c = let most = ten-rising c.args.digits 36 (omega arith) in omega (arith, c.pow-unit.ensures)

pub overflow_mul-result-2 : goal.overflow_mul-result-2
overflow_mul-result-2 c = let most = ten-rising c.args.digits 36 (omega arith) in omega (arith, c.pow-unit.ensures)

pub nonzero_div-result : goal.nonzero_div-result
nonzero_div-result c = let least = ten-positive c.args.digits in let unit = c.pow-unit.ensures in omega arith
