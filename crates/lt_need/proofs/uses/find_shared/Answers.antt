use Rattle.std.proofs.Common.{arith, rules, take, vec_len}
use Rattle.lt_space.specs.CircuitView.{circuit_formulas, circuit_len}
use Rattle.lt_need.specs.inner.Uses.{is_used}
use Rattle.lt_need.proofs.Sharings.{none_owned, number_more}
use Rattle.lt_need.proofs.uses.find_shared.Goals as goal

pub loop-place-init : goal.loop-place-init
loop-place-init c =
    let fs = circuit_formulas c.args.circuit.now in
    record {
      owned = search rules;
      gates = none_owned (circuit_len c.args.circuit.now) (vec_len c.args.owners.now) c.fill.new.self.items (c.fill.ensures.items (search rules));
      owners = search rules;
      shared = search rules;
    }

pub loop-place-preserved : goal.loop-place-preserved
loop-place-preserved c =
    let fs = circuit_formulas c.args.circuit.now in
    record {
      owned = number_more fs c.args.atoms.now c.loop-place.place 0 c.note_uses.new.owners.items c.note_uses.new.shared.items (omega arith)
          (c.note_uses.ensures.owned (is_used fs (take c.loop-place.place c.args.atoms.now)) c.loop-place.invariant.owned);
      gates = c.note_uses.ensures.gates;
      owners = c.note_uses.ensures.owners;
      shared = c.note_uses.ensures.shared;
    }
