use Rattle.std.proofs.Common.{◌+◌, ◌*◌, ◌∙◌, ap, sym, min, List, ℕ, Bool}
use Rattle.lt_space.specs.CircuitView.{circuit_formulas}
use Rattle.lt_need.specs.Need.{most_need}
use Rattle.lt_need.specs.Need.{atoms_of, is_hard_variable}
use Rattle.lt_need.specs.inner.Counts.{found_atoms}
use Rattle.lt_need.specs.inner.Faces.{absorbed_at}
use Rattle.lt_need.specs.inner.Points.{marked_points}
use Rattle.lt_need.proofs.Points.{hard_same, measured}
use Rattle.lt_need.proofs.measuring.measure.Goals as goal

pub returns-clause-need : goal.returns-clause-need
returns-clause-need c =
    let fs = circuit_formulas c.args.circuit.now in
    measured (absorbed_at fs c.args.root) (found_atoms fs c.gather.new.reached.items) c.mark_hard.new.hard.items c.args.scope.now c.args.ranges.now c.variables_in.result c.times_points.result c.choices_of-choices.result c.times_threes.result
    c.gather.ensures.atoms (λ i. c.mark_hard.ensures.marks i ∙ ap (λ (ns : List ℕ). is_hard_variable c.args.ranges.now (found_atoms fs ns) i) c.deref-2.ensures.value) c.variables_in.ensures.value
    (c.times_points.ensures ∙ ap (λ (ms : List Bool). min (180 * (c.variables_in.result + 1) * marked_points ms 0 c.args.ranges.now) most_need) c.deref-4.ensures.value) c.choices_of-choices.ensures.all c.times_threes.ensures

pub returns-clause-hard : goal.returns-clause-hard
returns-clause-hard c = λ i.
    let fs = circuit_formulas c.args.circuit.now in
    c.mark_hard.ensures.marks i ∙ ap (λ (ns : List ℕ). is_hard_variable c.args.ranges.now (found_atoms fs ns) i) c.deref-2.ensures.value
    ∙ sym (hard_same c.args.ranges.now (atoms_of (absorbed_at fs c.args.root)) (found_atoms fs c.gather.new.reached.items) c.gather.ensures.atoms i)
