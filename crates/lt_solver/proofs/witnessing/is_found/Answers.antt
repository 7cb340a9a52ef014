use Rattle.lt_bounds.proofs.Public.{narrower_some}
use Rattle.lt_solver.proofs.Begins.{known_passes}
use Rattle.lt_solver.proofs.Dives.{point_wider}
use Rattle.lt_solver.proofs.Scaled.{scaled_narrower}
use Rattle.lt_solver.proofs.witnessing.is_found.Goals as goal

pub kleene_within-requires-clause-scaled : goal.kleene_within-requires-clause-scaled
kleene_within-requires-clause-scaled c = scaled_narrower c.args.scales.now c.args.point.now c.dive.new.point c.requires.scaled c.dive.ensures.narrower

pub returns-clause-found : goal.returns-clause-found
returns-clause-found c so =
    let point = c.dive.new.point in
    let lows = c.write_first_places.new.lows in
    let n = c.dive.ensures.narrower in
    let inside = c.write_first_places.ensures (narrower_some c.args.point.now point n) in
    let scaled = scaled_narrower c.args.scales.now c.args.point.now point c.requires.scaled n in
    (point_wider c.args.point.now point lows n inside, known_passes c.args.space.now c.args.scales.now point scaled c.in-True.ensures.value lows inside)
