use Rattle.std.proofs.Common.{◌||◌, ap, arith, length, pos, refl, get_or, take}
use Rattle.lt_space.specs.CircuitView.{circuit_formulas}
use Rattle.lt_need.specs.inner.Uses.{passes_some}
use Rattle.lt_need.proofs.Sharings.{self_same, term_more, terms_whole}
use Rattle.lt_need.proofs.uses.note_uses.Goals as goal

pub note_use-requires-clause-atom : goal.note_use-requires-clause-atom
note_use-requires-clause-atom c =
    let fs = circuit_formulas c.args.circuit.now in
    self_same fs c.args.number c.loop-place.place (omega (arith, ap length c.several_at-terms.ensures.terms, c.loop-place-test.true))

pub loop-place-preserved : goal.loop-place-preserved
loop-place-preserved c =
    let fs = circuit_formulas c.args.circuit.now in
    let n = c.args.number in
    let terms = c.several_at-terms.result.now in
    let i = c.loop-place.place in
    record {
      owned = λ used known. term_more fs used n terms i (get_or terms i (0, pos 0)).0 (0, pos 0) c.note_use.new.owners.items c.note_use.new.shared.items (omega arith) refl
          (c.note_use.ensures.owned (λ test. used test || passes_some test n (take i terms)) (c.loop-place.invariant.owned used known));
      gates = c.note_use.ensures.gates;
      owners = c.note_use.ensures.owners;
      shared = c.note_use.ensures.shared;
    }

pub returns-clause-owned : goal.returns-clause-owned
returns-clause-owned c = λ used known.
    terms_whole (circuit_formulas c.args.circuit.now) used c.args.number c.loop-place.place c.several_at-terms.result.now c.loop-place.owners.items c.loop-place.shared.items (omega arith) c.several_at-terms.ensures.terms
    (c.loop-place.invariant.owned used known)
