use Rattle.std.proofs.Common.{◌≤◌, ◌++◌, [], ap, sym, ◌∙◌, subst, IsTrue, List, length, arith}
use Rattle.lt_linear.specs.Form.{Term}
use Rattle.lt_space.specs.Circuit.{are_sound, are_terms, with_gates}
use Rattle.lt_space.proofs.Circuits.{gates-terms, length_both, sound-more, terms-append}
use Rattle.lt_space.proofs.circuit.Circuit.push_terms.Goals as goal

pub invariant_of-self : goal.invariant_of-self
invariant_of-self c =
    let s = c.args.self.now in
    let ts = s.terms.items in
    let us = c.args.terms.now in
    let is = c.append.ensures.items in
    let more : length ts ≤ length (ts ++ us) = omega (arith, length_both ts us) in
    record {
      few = s.few;
      few_terms = omega (arith, ap length is, length_both ts us, c.requires.room);
      sound =
          subst (λ (xs : List Term). IsTrue (are_sound (length xs) 0 s.gates.items)) (sym is)
          (sound-more (length ts) (length (ts ++ us)) 0 s.gates.items more s.sound);
      exact = subst (λ (xs : List Term). IsTrue (are_terms xs)) (sym is) (terms-append ts us s.exact c.requires.exact);
    }

pub returns-clause-formulas : goal.returns-clause-formulas
returns-clause-formulas c =
    let s = c.args.self.now in
    ap (λ (xs : List Term). with_gates xs [] s.gates.items) c.append.ensures.items ∙ gates-terms s.terms.items c.args.terms.now [] 0 s.gates.items s.sound
