use Rattle.std.proofs.Common.{◌≡◌, ◌∙◌, ◌⊎◌, inl, inr, ℕ, ℤ, false, List, ap, map, subst, sym}
use Rattle.lt_num.specs.declared.interval.Interval.{Interval}
use Rattle.lt_propagation.specs.Domains.{AreDomains}
use Rattle.lt_propagation.specs.Kleene.{kleene_of}
use Rattle.lt_propagation.specs.declared.kleene.Kleene.{Kleene}
use Rattle.lt_propagation.specs.declared.kleene.Kleene.TheVariants.{False, Unknown}
use Rattle.lt_space.specs.Circuit.{formula_at}
use Rattle.lt_space.specs.CircuitView.{circuit_formulas}
use Rattle.lt_space.specs.Formula.{Formula, holds}
use Rattle.lt_check.specs.inner.Point.{point_of}
use Rattle.lt_check.proofs.Points.{is_false, is_true, not_open, points_domains}
use Rattle.lt_check.proofs.point.holds_at.Goals as goal

by_row : (decimals : ℕ) (vs : List ℤ) (f : Formula) (k : Kleene) → k ≡ kleene_of decimals (map point_of vs) f → (k ≡ False) ⊎ (k ≡ Unknown) → false ≡ holds decimals vs f
by_row decimals vs f k e (inl h) = is_false decimals vs f (sym h ∙ e)
by_row decimals vs f k e (inr h) = not_open decimals vs f (sym h ∙ e)

pub evaluate-requires-clause-domains : goal.evaluate-requires-clause-domains
evaluate-requires-clause-domains c = subst AreDomains (sym (c.deref.ensures.value ∙ c.write_points.ensures.points)) (points_domains c.args.values.now c.requires.values)

pub returns-in-True-clause-holds : goal.returns-in-True-clause-holds
returns-in-True-clause-holds c =
    let f = formula_at (circuit_formulas c.args.circuit.now) c.args.root in
    is_true c.args.decimals c.args.values.now f (c.in-True.ensures.value ∙ ap (λ (ps : List Interval). kleene_of c.args.decimals ps f) (c.deref.ensures.value ∙ c.write_points.ensures.points))

pub returns-in-False-clause-holds : goal.returns-in-False-clause-holds
returns-in-False-clause-holds c =
    let f = formula_at (circuit_formulas c.args.circuit.now) c.args.root in
    let known = c.evaluate.ensures.value ∙ ap (λ (ps : List Interval). kleene_of c.args.decimals ps f) (c.deref.ensures.value ∙ c.write_points.ensures.points) in
    by_row c.args.decimals c.args.values.now f c.evaluate.result known c.in-False.is
