use Rattle.std.proofs.Common.{◌∙◌, sym, ap, List, ℕ}
use Rattle.lt_space.specs.CircuitView.{circuit_formulas}
use Rattle.lt_need.specs.Need.{atoms_of, count_different}
use Rattle.lt_need.specs.inner.Counts.{found_atoms}
use Rattle.lt_need.specs.inner.Faces.{absorbed_at}
use Rattle.lt_need.proofs.Counting.{count_same}
use Rattle.lt_need.proofs.choices.different_at.Goals as goal

pub returns-clause-different : goal.returns-clause-different
returns-clause-different c =
    let fs = circuit_formulas c.args.circuit.now in
    c.count_atoms.ensures.count ∙ ap (λ (ns : List ℕ). count_different (found_atoms fs ns)) c.deref.ensures.value
    ∙ sym (count_same (atoms_of (absorbed_at fs c.args.from)) (found_atoms fs c.gather.new.reached.items) c.gather.ensures.atoms)
