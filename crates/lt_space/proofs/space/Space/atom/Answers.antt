use Rattle.std.proofs.Common.{length, arith, sym, ◌∙◌}
use Rattle.lt_space.specs.inner.Memo.{memo_numbers}
use Rattle.lt_space.specs.inner.Work.{formulas_in}
use Rattle.lt_space.proofs.Circuits.{length-formulas}
use Rattle.lt_space.proofs.Notings.{below_at}
use Rattle.lt_space.proofs.space.Space.atom.Goals as goal

pub atom_at-requires : goal.atom_at-requires
atom_at-requires c =
    let s = c.args.self.now in
    let circuit = s.work.circuit in
    let below = below_at (length (formulas_in s.work)) (memo_numbers s.noted) c.args.exp c.in-Some.gate s.below (sym c.in-Some.is ∙ c.find.ensures) in
    omega (arith, below, length-formulas circuit.terms.items circuit.gates.items)
