use Rattle.std.proofs.Common.{ap, sym, ◌∙◌}
use Rattle.lt_space.specs.CircuitView.{circuit_formulas, circuit_terms}
use Rattle.lt_need.specs.inner.Marks.{own_atoms}
use Rattle.lt_need.specs.inner.Uses.{equation_in}
use Rattle.lt_need.proofs.Counting.{own_gate}
use Rattle.lt_need.proofs.hard.is_equation_at.Goals as goal

pub returns : goal.returns
returns c =
    let circuit = c.args.circuit.now in
    c.is_equation.ensures (circuit_terms circuit)
    ∙ ap equation_in (own_gate (circuit_terms circuit) (circuit_formulas circuit) c.gate.result ∙ ap own_atoms (sym c.gate.ensures.formula))
