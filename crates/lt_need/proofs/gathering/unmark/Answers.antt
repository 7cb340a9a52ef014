use Rattle.std.proofs.Common.{◌∙◌, arith, false, get_or, refl}
use Rattle.std.proofs.lemmas.List.{length-set}
use Rattle.lt_need.proofs.Gatherings.{unmark_more, unmarked_all}
use Rattle.lt_need.proofs.gathering.unmark.Goals as goal

pub loop-place-preserved : goal.loop-place-preserved
loop-place-preserved c =
    let s = c.loop-place.invariant in
    let number = get_or c.args.reached.now c.loop-place.place 0 in
    record {
      left = unmark_more c.loop-place.marks.items _ c.args.reached.now c.loop-place.place 0 (omega arith) (omega (arith, s.len, c.requires.gates c.loop-place.place 0 (omega arith))) refl s.left;
      len = length-set c.loop-place.marks.items number false ∙ s.len;
    }

pub returns-clause-unmarked : goal.returns-clause-unmarked
returns-clause-unmarked c = unmarked_all c.loop-place.marks.items c.args.reached.now c.loop-place.place (omega arith) c.loop-place.invariant.left
