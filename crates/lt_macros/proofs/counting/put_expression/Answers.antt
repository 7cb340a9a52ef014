use Rattle.std.proofs.Common.{◌≡◌, false, arith}
use Rattle.lt_macros.proofs.Waiting.{alone_figure, has_parts}
use Rattle.lt_macros.proofs.counting.put_expression.Goals as goal

pub returns-in-Meaningless : goal.returns-in-Meaningless
returns-in-Meaningless c =
    let alone : has_parts c.args.form ≡ false = grind (arith, c.in-Meaningless.is) in
    record {
      figures = λ decimals rows f. omega (arith, c.in_ok-count.ensures f, alone_figure decimals rows f c.args.depth c.args.len c.args.form c.requires alone);
      within = λ least h. h;
    }
