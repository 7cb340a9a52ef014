use Rattle.std.proofs.Common.{◌≡◌, false, subst, arith}
use Rattle.std.proofs.lemmas.Int.{ints}
use Rattle.lt_formula.specs.Solution.{comes_before}
use Rattle.lt_solver.proofs.Draws.{up_from}
use Rattle.lt_solver.proofs.parting.part_from.Goals as goal

pub last_tried-requires : goal.last_tried-requires
last_tried-requires c =
    let over = up_from c.args.place c.args.stop (subst (λ b. comes_before b c.args.stop c.args.place ≡ false) c.if-is_down.true c.requires.order) in
    omega (arith, ints, over, c.requires.place, c.requires.stop, c.requires.apart)

pub last_tried-requires-else-is_down : goal.last_tried-requires-else-is_down
last_tried-requires-else-is_down c =
    let over = up_from c.args.stop c.args.place (subst (λ b. comes_before b c.args.stop c.args.place ≡ false) c.if-is_down.false c.requires.order) in
    omega (arith, ints, over, c.requires.place, c.requires.stop, c.requires.apart)
