-- Piece by piece.
use Rattle.std.proofs.Common.{◌≡◌, ◌++◌, ◌+◌, Some, ap, length, take, length-append, arith, ◌∙◌}
use Rattle.std.proofs.KnownBytes.{Consumes-trans, Consumes-kept}
use Rattle.lt_plants.proofs.Services.{way_kept, served_end, served_after}
use Rattle.lt_plants.proofs.Ways.{way_more}
use Rattle.lt_plants.proofs.serving.Session.serve.Goals as goal

pub returns-then-count-eq0-clause-served : goal.returns-then-count-eq0-clause-served
returns-then-count-eq0-clause-served g c =
    let at_first = c.args.self.now.playing in
    let now = c.loop-count.self in
    let so_far = c.loop-count.invariant in
    record {
      served = served_end at_first.plant now.playing.plant at_first.last now.playing.last now.line _ _ _ _ _ _ so_far.way.0 c.recv.new.into c.in-Ok.count c.loop-count.taken
          so_far.way.1 so_far.few so_far.way.2 c.in-Ok.ensures.takes.0 c.if-count-eq0.true (c.in-Ok.ensures.takes.1 c.if-count-eq0.true (omega arith)) so_far.way.3 c.in-Ok.ensures.stays so_far.short;
      fault = λ e. absurd (cc e);
      calm = λ e. c.in-Ok.ensures.cause.calm ∙ so_far.calm;
    }

pub returns-in-Some-clause-served : goal.returns-in-Some-clause-served
returns-in-Some-clause-served g c =
    let at_first = c.args.self.now.playing in
    let now = c.loop-count.self in
    let so_far = c.loop-count.invariant in
    let piece = take c.in-Ok.count c.recv.new.into in
    let long : c.loop-count.taken + c.in-Ok.count ≡ length (so_far.way.0 ++ piece) = omega (arith, so_far.way.1, c.in-Ok.ensures.within.1, length-append so_far.way.0 piece) in
    let taken = Consumes-kept _ _ _ (so_far.way.0 ++ piece) (Consumes-trans _ _ _ so_far.way.0 piece so_far.way.2 c.in-Ok.ensures.takes.0) c.in-Some.ensures.takes.left in
    let took = c.in-Some.ensures.takes in
    record {
      served = served_after c.in-Some.ending at_first.plant now.playing.plant at_first.last now.playing.last now.line _ _ _ _ _ so_far.way.0 piece (c.loop-count.taken + c.in-Ok.count)
          long taken (way_kept _ _ _ at_first.plant now.playing.plant at_first.last now.playing.last now.line so_far.way.0 so_far.way.3 c.in-Ok.ensures.stays) took.ends;
      fault = λ e. let rose = took.fault (ap Some e) in omega (arith, c.in-Ok.ensures.cause.calm, so_far.calm, rose);
      calm = λ e. took.calm (λ f. e (cc f)) ∙ (c.in-Ok.ensures.cause.calm ∙ so_far.calm);
    }

pub loop-count-preserved : goal.loop-count-preserved
loop-count-preserved g c =
    let at_first = c.args.self.now.playing in
    let now = c.loop-count.self in
    let then = c.take_piece.new.self in
    let so_far = c.loop-count.invariant in
    let went = c.in_default-take_piece.ensures in
    let piece = take c.in-Ok.count c.recv.new.into in
    let long : c.loop-count.taken + c.in-Ok.count ≡ length (so_far.way.0 ++ piece) = omega (arith, so_far.way.1, c.in-Ok.ensures.within.1, length-append so_far.way.0 piece) in
    let taken = Consumes-kept _ _ _ (so_far.way.0 ++ piece) (Consumes-trans _ _ _ so_far.way.0 piece so_far.way.2 c.in-Ok.ensures.takes.0) went.takes.left in
    let kept = way_kept _ _ _ at_first.plant now.playing.plant at_first.last now.playing.last now.line so_far.way.0 so_far.way.3 c.in-Ok.ensures.stays in
    record {
      way = (so_far.way.0 ++ piece, long, taken, way_more _ _ _ at_first.plant now.playing.plant then.playing.plant at_first.last now.playing.last then.playing.last now.line then.line so_far.way.0 piece kept went.takes.goes);
      few = went.takes.few;
      calm = went.takes.calm (λ e. (cc)) ∙ (c.in-Ok.ensures.cause.calm ∙ so_far.calm);
      plant = went.plant ∙ so_far.plant;
      short = went.short;
    }
