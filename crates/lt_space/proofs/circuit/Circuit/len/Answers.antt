use Rattle.std.proofs.Common.{sym, ◌∙◌}
use Rattle.lt_space.proofs.Circuits.{length-formulas}
use Rattle.lt_space.proofs.circuit.Circuit.len.Goals as goal

pub returns-clause-formulas : goal.returns-clause-formulas
returns-clause-formulas c = c.len.ensures ∙ c.args.self.now.gates.ok.0 ∙ sym (length-formulas c.args.self.now.terms.items c.args.self.now.gates.items)
