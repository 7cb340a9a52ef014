use Rattle.std.proofs.Common.{◌∙◌, map, sym}
use Rattle.lt_formula.specs.Translation.{values_at}
use Rattle.lt_propagation.specs.Wide.{sign_at}
use Rattle.lt_space.specs.CircuitView.{circuit_formulas}
use Rattle.lt_space.specs.SpaceView.{space_circuit, space_decimals}
use Rattle.lt_solver.specs.inner.Propagated.{holds_at}
use Rattle.lt_solver.proofs.Begins.{same_first}
use Rattle.lt_solver.proofs.corners.passes_at_corner.Goals as goal

pub returns-then-is_plainly_true-clause-found : goal.returns-then-is_plainly_true-clause-found
returns-then-is_plainly_true-clause-found c so =
    let inside = c.write_corner.ensures.inside c.if-write_corner.true in
    let same = same_first c.args.current.now c.write_corner.new.places inside in
    (inside, (λ j. holds_at (sym c.decimals.ensures.decimals j) (circuit_formulas (sym c.circuit.ensures j)) (sym c.root.ensures.root j) c.args.scales.now (sym same j)) ∙ c.is_plainly_true.ensures c.if-is_plainly_true.true)

pub returns-then-is_plainly_true-clause-first : goal.returns-then-is_plainly_true-clause-first
returns-then-is_plainly_true-clause-first c so i here other p =
    let space = c.args.space.now in
    let signs = map (sign_at (space_decimals space) (values_at c.args.scales.now other)) (circuit_formulas (space_circuit space)) in
    c.write_corner.ensures.first c.if-write_corner.true i here other signs p.0 (c.requires.covers other p.0 p.1)
