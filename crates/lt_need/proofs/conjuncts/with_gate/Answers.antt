use Rattle.std.proofs.Common.{◌≡◌, ◌<◌, ◌∙◌, sym, arith, refl, length, get_or}
use Rattle.std.proofs.lemmas.List.{get_or_default}
use Rattle.lt_space.specs.CircuitView.{circuit_formulas}
use Rattle.lt_need.specs.inner.Conjuncts.{choices_at}
use Rattle.lt_need.proofs.Weights.{weigh_both, weigh_none, weigh_same, weigh_whole}
use Rattle.lt_need.proofs.conjuncts.with_gate.Goals as goal

pub returns-then-weight-eq0-clause-all : goal.returns-then-weight-eq0-clause-all
returns-then-weight-eq0-clause-all c =
    let weight = c.index-weight.result.now in
    let read : weight ≡ get_or c.args.weights.now.items c.args.number 0 = c.index-weight.ensures ∙ get_or_default c.args.weights.now.items c.args.number weight 0 c.requires.weights in
    weigh_none (choices_at (circuit_formulas c.args.circuit.now)) c.args.weights.now.items c.args.number c.requires.weights c.args.sum weight read c.if-weight-eq0.true

pub returns-in-Same-clause-all : goal.returns-in-Same-clause-all
returns-in-Same-clause-all c =
    let weight = c.index-weight.result.now in
    let read : weight ≡ get_or c.args.weights.now.items c.args.number 0 = c.index-weight.ensures ∙ get_or_default c.args.weights.now.items c.args.number weight 0 c.requires.weights in
    weigh_same (choices_at (circuit_formulas c.args.circuit.now)) c.args.weights.now.items c.args.number c.requires.weights c.args.sum c.in-Same.gate weight _ c.weigh.new.weights.items
    c.in-Same.ensures.0 read c.in-Same.ensures.1 refl c.weigh.ensures.items

pub returns-in-Both-clause-all : goal.returns-in-Both-clause-all
returns-in-Both-clause-all c =
    let weight = c.index-weight.result.now in
    let read : weight ≡ get_or c.args.weights.now.items c.args.number 0 = c.index-weight.ensures ∙ get_or_default c.args.weights.now.items c.args.number weight 0 c.requires.weights in
    let inside : c.args.number < length c.weigh-in-Both.new.weights.items = omega (arith, c.requires.weights, c.weigh-in-Both.ensures.len) in
    weigh_both (choices_at (circuit_formulas c.args.circuit.now)) c.args.weights.now.items c.weigh-in-Both.new.weights.items c.weigh-in-Both-2.new.weights.items c.args.number c.args.sum c.in-Both.left c.in-Both.right weight _ _
    c.requires.weights inside c.in-Both.ensures.0 c.in-Both.ensures.1 read c.in-Both.ensures.2 refl c.weigh-in-Both.ensures.items refl c.weigh-in-Both-2.ensures.items

pub returns-in-Whole-clause-all : goal.returns-in-Whole-clause-all
returns-in-Whole-clause-all c =
    let weight = c.index-weight.result.now in
    let read : weight ≡ get_or c.args.weights.now.items c.args.number 0 = c.index-weight.ensures ∙ get_or_default c.args.weights.now.items c.args.number weight 0 c.requires.weights in
    weigh_whole (choices_at (circuit_formulas c.args.circuit.now)) c.args.weights.now.items c.args.number c.requires.weights c.args.sum weight c.choices_at.result c.with_choices.result
    read (c.choices_at.ensures.choices ∙ sym c.in-Whole.ensures) c.with_choices.ensures
