use Rattle.std.proofs.Common.{ap, sym, ◌∙◌, subst, IsTrue, List, [], length, arith}
use Rattle.lt_space.specs.Circuit.{are_sound, with_gates}
use Rattle.lt_space.specs.declared.circuit.Gate.{Gate}
use Rattle.lt_space.proofs.Circuits.{gates-append, one_gate, sound-append}
use Rattle.lt_space.proofs.circuit.Circuit.push.Goals as goal

pub invariant_of-self : goal.invariant_of-self
invariant_of-self c =
    let s = c.args.self.now in
    record {
      few = omega (arith, ap length c.push_reserved.ensures.items, one_gate s.gates.items c.args.gate, c.requires.room);
      few_terms = s.few_terms;
      sound =
          subst (λ (gs : List Gate). IsTrue (are_sound (length s.terms.items) 0 gs)) (sym c.push_reserved.ensures.items)
          (sound-append (length s.terms.items) 0 s.gates.items c.args.gate (length s.gates.items) (omega arith) s.sound c.requires.fits);
      exact = s.exact;
    }

pub returns-clause-formulas : goal.returns-clause-formulas
returns-clause-formulas c =
    let s = c.args.self.now in
    ap (with_gates s.terms.items []) c.push_reserved.ensures.items ∙ gates-append s.terms.items [] s.gates.items c.args.gate
