use Rattle.std.proofs.Common.{◌≡◌, ◌∙◌, arith, ap, to_z, of_z, w64, rules}
use Rattle.lt_linear.specs.Draft.{draft_form, lent_form}
use Rattle.lt_linear.specs.Form.{form_compared}
use Rattle.lt_space.specs.CircuitView.{circuit_terms}
use Rattle.lt_space.specs.Formula.{atom}
use Rattle.lt_space.specs.Meaning.{compared}
use Rattle.lt_space.specs.inner.Measures.{measured}
use Rattle.lt_space.specs.inner.Place.{form_at}
use Rattle.lt_space.specs.declared.formula.Atom.TheVariants.{Compare}
use Rattle.lt_space.proofs.Visitings.{compared_is, difference_exact, difference_few, lent_difference, pushed_is, pushed_terms, terms_more}
use Rattle.lt_space.proofs.work.put_comparison.Goals as goal

pub push_lent-requires-clause-exact : goal.push_lent-requires-clause-exact
push_lent-requires-clause-exact c =
    let s = c.args.measures.now in
    let lent = lent_form c.draft.result in
    difference_exact s.variables lent c.requires.few (lent_difference s.variables (draft_form c.set_comparison.new.self.draft) lent c.draft.ensures c.set_comparison.ensures.order)

pub push_lent-requires-clause-terms_room : goal.push_lent-requires-clause-terms_room
push_lent-requires-clause-terms_room c =
    let s = c.args.measures.now in
    let lent = lent_form c.draft.result in
    omega (arith, c.requires.terms, difference_few s.variables lent (lent_difference s.variables (draft_form c.set_comparison.new.self.draft) lent c.draft.ensures c.set_comparison.ensures.order))

pub returns-clause-pushed : goal.returns-clause-pushed
returns-clause-pushed c =
    let s = c.args.measures.now in
    let old = c.args.circuit.now in
    let new = c.push_lent.new.self in
    let n = c.push_lent.result in
    let lent = lent_form c.draft.result in
    let a = form_at (measured s) c.args.a in
    let b = form_at (measured s) c.args.b in
    let e = c.push_lent.ensures in
    let few = difference_few s.variables lent (lent_difference s.variables (draft_form c.set_comparison.new.self.draft) lent c.draft.ensures c.set_comparison.ensures.order) in
    let terms = terms_more (circuit_terms old) (circuit_terms new) lent.terms s.variables e.terms few in
    let p = pushed_terms old new n (atom (Compare lent c.args.relation)) s.variables e.number e.formulas e.len terms e.room e.terms_room in
    let raw : to_z w64 (of_z w64 c.factor_of.result) ≡ c.factor_of.result = search rules in
    let form = c.draft.ensures ∙ c.set_comparison.ensures.form ∙ ap (λ z. form_compared z a b) raw in
    let is = compared_is c.args.scale.kind c.args.scale.decimals c.args.relation c.factor_of.result a b lent form c.factor_of.ensures.value in
    pushed_is old new n (atom (Compare lent c.args.relation)) (compared c.args.scale.kind c.args.scale.decimals a b c.args.relation) 1 s.variables is p
