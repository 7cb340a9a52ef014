use Rattle.std.proofs.Common.{◌∙◌, ap, arith, rules, List, ℕ, Bool, false, get_or, vec_len}
use Rattle.std.proofs.lemmas.List.{take_all}
use Rattle.lt_space.specs.CircuitView.{circuit_formulas}
use Rattle.lt_need.specs.inner.Uses.{is_hard_among}
use Rattle.lt_need.proofs.Sharings.{hard_is, none_marked}
use Rattle.lt_need.proofs.hard.mark_hard.Goals as goal

pub loop-place-init : goal.loop-place-init
loop-place-init c = record {
  marks = λ i. ap (λ (ms : List Bool). get_or ms i false) (c.fill.ensures.items (λ y e. e)) ∙ none_marked (vec_len c.args.hard.now) i;
  long = search rules;
}

pub returns-clause-marks : goal.returns-clause-marks
returns-clause-marks c = λ i.
    let fs = circuit_formulas c.args.circuit.now in
    c.loop-place.invariant.marks i ∙ ap (λ (ns : List ℕ). is_hard_among c.args.ranges.now fs c.find_shared.new.shared.items ns i) (take_all c.loop-place.place c.args.atoms.now (omega arith))
    ∙ hard_is c.args.ranges.now fs c.args.atoms.now c.find_shared.new.owners.items c.find_shared.new.shared.items c.find_shared.ensures.owned i
