use Rattle.std.proofs.Common.{◌≤◌, ◌++◌, ap, sym, ◌∙◌, subst, IsTrue, List, length, map, arith}
use Rattle.lt_linear.specs.Form.{Term}
use Rattle.lt_space.specs.inner.Place.{are_within, form_in}
use Rattle.lt_space.proofs.Circuits.{length_both}
use Rattle.lt_space.proofs.FormLists.{places-terms, within-more}
use Rattle.lt_space.proofs.forms.Forms.push_terms.Goals as goal

pub invariant_of-self : goal.invariant_of-self
invariant_of-self c =
    let s = c.args.self.now in
    let ts = s.terms.items in
    let us = c.args.terms.now in
    let is = c.append.ensures.items in
    let more : length ts ≤ length (ts ++ us) = omega (arith, length_both ts us) in
    record {
      few = s.few;
      few_terms = omega (arith, ap length is, length_both ts us, c.requires);
      within = subst (λ (xs : List Term). IsTrue (are_within (length xs) s.places.items)) (sym is) (within-more (length ts) (length (ts ++ us)) s.places.items more s.within);
    }

pub returns-clause-forms : goal.returns-clause-forms
returns-clause-forms c =
    let s = c.args.self.now in
    ap (λ (xs : List Term). map (form_in xs) s.places.items) c.append.ensures.items ∙ places-terms s.terms.items c.args.terms.now s.places.items s.within
