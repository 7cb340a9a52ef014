use Rattle.std.proofs.Common.{◌≡◌, ◌≤◌, ◌+◌, ◌++◌, ◌∷◌, [], ap, ◌∙◌, length, arith, to_z, of_z, w64, rules}
use Rattle.lt_linear.specs.Draft.{lent_form}
use Rattle.lt_space.specs.CircuitView.{circuit_terms}
use Rattle.lt_space.proofs.Circuits.{comparison_fits, comparison_formula, length_both}
use Rattle.lt_space.proofs.circuit.Circuit.push_lent.Goals as goal

pub push-requires-clause-fits : goal.push-requires-clause-fits
push-requires-clause-fits c =
    let s = c.args.self.now in
    let form = lent_form c.args.form in
    let us = c.args.form.terms.now in
    let raw : to_z w64 (of_z w64 form.constant) ≡ form.constant = search rules in
    let first : c.len-first.result ≡ length s.terms.items = c.len-first.ensures ∙ s.terms.ok.0 in
    let within : c.len-first.result + length us ≤ length (circuit_terms c.push_terms.new.self) =
    omega (arith, first, ap length c.push_terms.ensures.terms, length_both s.terms.items us) in
    comparison_fits c.args.relation c.len-first.result (length us) (length (circuit_terms c.push_terms.new.self)) 0 (to_z w64 (of_z w64 form.constant)) form c.requires.exact
    (λ i. length us) within raw

pub returns-clause-formulas : goal.returns-clause-formulas
returns-clause-formulas c =
    let s = c.args.self.now in
    let form = lent_form c.args.form in
    let us = c.args.form.terms.now in
    let raw : to_z w64 (of_z w64 form.constant) ≡ form.constant = search rules in
    let first : c.len-first.result ≡ length s.terms.items = c.len-first.ensures ∙ s.terms.ok.0 in
    let is = comparison_formula c.args.relation s.terms.items us (circuit_terms c.push_terms.new.self) c.len-first.result (length us) (to_z w64 (of_z w64 form.constant)) form
    c.push_terms.ensures.terms (λ i. us) first (λ i. length us) raw in
    c.push.ensures.formulas ∙ (λ i. c.push_terms.ensures.formulas i ++ is i ∷ [])
