use Rattle.std.proofs.Common.{rules, ◌≡◌, ◌∙◌, to_z, of_z, w64, add-one, arith}
use Rattle.std.proofs.lemmas.List.{length-set}
use Rattle.lt_bounds.specs.Ranges.{range_at}
use Rattle.lt_solver.proofs.Draws.{lows_in, written_low}
use Rattle.lt_solver.proofs.witnessing.write_first_places.Goals as goal

pub loop-i-init : goal.loop-i-init
loop-i-init c = record { long = c.requires.long; written = λ k h. absurd (omega (arith, h)) }

pub loop-i-preserved : goal.loop-i-preserved
loop-i-preserved c =
    let s = c.loop-i.invariant in
    let low : to_z w64 (of_z w64 (range_at c.args.places.now c.loop-i.i).low) ≡ (range_at c.args.places.now c.loop-i.i).low = search rules in
    record {
      long = length-set c.loop-i.lows c.loop-i.i (to_z w64 (of_z w64 (range_at c.args.places.now c.loop-i.i).low)) ∙ s.long;
      written = rw add-one (written_low c.args.places.now c.loop-i.lows c.loop-i.i _ s.long (omega arith) low s.written);
    }

pub returns : goal.returns
returns c some = lows_in c.args.places.now c.loop-i.lows c.loop-i.invariant.long some (λ k l. c.loop-i.invariant.written k (omega (arith, l)))
