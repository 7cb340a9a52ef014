use Rattle.std.proofs.Common.{arith}
use Rattle.lt_space.proofs.Circuits.{length-formulas}
use Rattle.lt_space.proofs.space.Space.root.Goals as goal

pub returns-clause-within : goal.returns-clause-within
returns-clause-within c =
    let circuit = c.args.self.now.work.circuit in
    omega (arith, c.args.self.now.within, length-formulas circuit.terms.items circuit.gates.items)
