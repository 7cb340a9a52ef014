use Rattle.std.proofs.Common.{arith, length, subst, List, ℕ}
use Rattle.lt_space.specs.CircuitView.{circuit_formulas, circuit_terms}
use Rattle.lt_need.specs.inner.Reached.{Reaches}
use Rattle.lt_need.proofs.Gatherings.{parts_below, reached_gates, visit_same, visit_spread}
use Rattle.lt_need.proofs.gathering.visit.Goals as goal

pub returns-clause-spread : goal.returns-clause-spread
returns-clause-spread c =
    let circuit = c.args.circuit.now in
    visit_spread (circuit_formulas circuit) (circuit_terms circuit) c.args.number (length (circuit_terms circuit)) c.args.faces.now c.requires.known c.requires.within c.gate.result c.face_at.result c.face_at.ensures c.gate.ensures.formula c.gate.ensures.fits
    c.args.reached.now.items c.reach_all.new.reached.items
    (subst (λ (ps : List ℕ). Reaches c.args.reached.now.items c.reach_all.new.reached.items ps) c.own_parts-parts.ensures c.reach_all.ensures.reaches)

pub returns-clause-same : goal.returns-clause-same
returns-clause-same c =
    let circuit = c.args.circuit.now in
    visit_same (circuit_formulas circuit) (circuit_terms circuit) c.args.number (length (circuit_terms circuit)) c.args.faces.now c.requires.known c.requires.within c.gate.result c.face_at.result c.face_at.ensures c.gate.ensures.formula c.gate.ensures.fits
    c.args.reached.now.items c.reach_all.new.reached.items
    (subst (λ (ps : List ℕ). Reaches c.args.reached.now.items c.reach_all.new.reached.items ps) c.own_parts-parts.ensures c.reach_all.ensures.reaches) c.requires.own

pub returns-clause-gates : goal.returns-clause-gates
returns-clause-gates c =
    let circuit = c.args.circuit.now in
    reached_gates (length c.args.faces.now) c.args.reached.now.items c.reach_all.new.reached.items _
    (subst (λ (ps : List ℕ). Reaches c.args.reached.now.items c.reach_all.new.reached.items ps) c.own_parts-parts.ensures c.reach_all.ensures.reaches) c.requires.gates
    (λ m h. omega (arith, c.requires.within, parts_below (circuit_formulas circuit) c.args.number (length (circuit_terms circuit)) c.args.faces.now c.face_at.result c.gate.result c.gate.ensures.fits m h))
