-- Byte by byte.
use Rattle.std.proofs.Common.{refl, ◌∙◌, ◌++◌, arith}
use Rattle.std.proofs.KnownBytes.{Keeps-trans}
use Rattle.lt_plants.specs.inner.Going.{due_after}
use Rattle.lt_plants.proofs.Ways.{goes_on, ends_on}
use Rattle.lt_plants.proofs.serving.Session.take_all.Goals as goal

pub loop-byte-preserved : goal.loop-byte-preserved
loop-byte-preserved g c =
    let before = c.loop-byte.self in
    let after = c.take.new.self in
    let way = c.loop-byte.invariant in
    let took = c.in-Ok.ensures.takes in
    record {
      goes = goes_on _ _ _ (λ bytes. due_after c.args.self.now.playing.plant c.args.self.now.playing.last c.args.self.now.line (c.args.piece.now ++ bytes)) before.playing.plant after.playing.plant before.playing.last after.playing.last before.line after.line c.args.piece.now c.loop-byte.byte-index _ c.loop-byte-test.true refl way.goes took.goes;
      calm = took.calm (λ e. (cc)) ∙ way.calm;
      left = Keeps-trans _ _ _ way.left took.left;
      plant = c.in-Ok.ensures.plant ∙ way.plant;
      short = c.in-Ok.ensures.short;
    }

pub returns-in-Err-clause-takes : goal.returns-in-Err-clause-takes
returns-in-Err-clause-takes g c =
    let before = c.loop-byte.self in
    let way = c.loop-byte.invariant in
    let took = c.in-Err.ensures.takes in
    record {
      goes = tt;
      ends = ends_on c.in-Err.ending _ _ _ (λ bytes. due_after c.args.self.now.playing.plant c.args.self.now.playing.last c.args.self.now.line (c.args.piece.now ++ bytes)) before.playing.plant before.playing.last before.line c.args.piece.now c.loop-byte.byte-index _ c.loop-byte-test.true refl way.goes took.ends;
      fault = λ e. let rose = took.fault e in omega (arith, way.calm, rose);
      calm = λ e. took.calm e ∙ way.calm;
      left = Keeps-trans _ _ _ way.left took.left;
    }
