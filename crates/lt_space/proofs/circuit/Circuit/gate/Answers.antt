use Rattle.std.proofs.Common.{ap, sym, ◌∙◌, subst, IsTrue, length}
use Rattle.lt_space.specs.Circuit.{gate_fits, gate_formula}
use Rattle.lt_space.specs.CircuitView.{circuit_formulas, circuit_terms}
use Rattle.lt_space.specs.declared.circuit.Gate.{Gate}
use Rattle.lt_space.proofs.Circuits.{gate_read}
use Rattle.lt_space.proofs.circuit.Circuit.gate.Goals as goal

pub returns-clause-formula : goal.returns-clause-formula
returns-clause-formula c =
    let s = c.args.self.now in
    let read = gate_read s.terms.items (length s.terms.items) s.gates.items c.index.result.now c.args.number s.sound c.requires in
    read.0 ∙ ap (gate_formula (circuit_terms s) (circuit_formulas s)) (sym c.index.ensures)

pub returns-clause-fits : goal.returns-clause-fits
returns-clause-fits c =
    let s = c.args.self.now in
    let read = gate_read s.terms.items (length s.terms.items) s.gates.items c.index.result.now c.args.number s.sound c.requires in
    subst (λ (g : Gate). IsTrue (gate_fits (length s.terms.items) c.args.number g)) (sym c.index.ensures) read.1
