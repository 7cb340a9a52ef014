use Rattle.std.proofs.Common.{◌≡◌, ◌∙◌, false, arith, ap, sym, refl}
use Rattle.lt_formula.specs.declared.operator.BinaryOperator.{BinaryOperator}
use Rattle.lt_space.specs.Circuit.{formula_at}
use Rattle.lt_space.specs.CircuitView.{circuit_formulas}
use Rattle.lt_space.specs.Formula.{negation, truth}
use Rattle.lt_space.specs.Meaning.{compared, comparison}
use Rattle.lt_space.specs.inner.Measures.{measured}
use Rattle.lt_space.specs.inner.Place.{form_at}
use Rattle.lt_space.specs.declared.formula.Relation.TheVariants.{Equal}
use Rattle.lt_space.proofs.Visitings.{comparison_rest, one_fits, pushed_gate, pushed_is, pushed_more, pushed_twice}
use Rattle.lt_space.proofs.work.compare.Goals as goal

pub push-requires-clause-fits : goal.push-requires-clause-fits
push-requires-clause-fits c = one_fits c.put_comparison-equal.new.circuit c.put_comparison-equal.result c.put_comparison-equal.ensures.pushed.within

pub returns-in-Ne-clause-pushed : goal.returns-in-Ne-clause-pushed
returns-in-Ne-clause-pushed c =
    let s = c.args.measures.now in
    let a = form_at (measured s) c.args.a in
    let b = form_at (measured s) c.args.b in
    let old = c.args.circuit.now in
    let mid = c.put_comparison-equal.new.circuit in
    let m = c.put_comparison-equal.result in
    let p = c.put_comparison-equal.ensures.pushed in
    let equal = compared c.args.scale.kind c.args.scale.decimals a b Equal in
    let new = c.push.new.self in
    let n = c.push.result in
    let e = c.push.ensures in
    let whole = negation (formula_at (circuit_formulas mid) m) in
    let q = pushed_gate mid new n whole e.number e.formulas e.len e.terms e.room e.terms_room in
    let is : whole ≡ negation equal = ap negation p.is in
    let due = comparison c.args.operator c.args.scale.kind c.args.scale.decimals a b in
    let by : negation equal ≡ due = ap (λ (op : BinaryOperator). comparison op c.args.scale.kind c.args.scale.decimals a b) (sym c.in-Ne.is) in
    pushed_is old new n whole due 2 s.variables (is ∙ by) (pushed_twice old mid new m n equal whole s.variables p q)

pub returns-in_default : goal.returns-in_default
returns-in_default c =
    let s = c.args.measures.now in
    let a = form_at (measured s) c.args.a in
    let b = form_at (measured s) c.args.b in
    let old = c.args.circuit.now in
    let new = c.push-in_default.new.self in
    let n = c.push-in_default.result in
    let e = c.push-in_default.ensures in
    let p = pushed_gate old new n (truth false) e.number e.formulas e.len e.terms e.room e.terms_room in
    let due = comparison c.args.operator c.args.scale.kind c.args.scale.decimals a b in
    let d = c.in_default in
    let is = comparison_rest c.args.operator c.args.scale.kind c.args.scale.decimals a b d.not-Eq d.not-Ne d.not-Lt d.not-Le d.not-Gt d.not-Ge in
    record {
      pushed = pushed_is old new n (truth false) due 2 s.variables is (pushed_more old new n (truth false) 1 2 0 s.variables (omega arith) (omega arith) p);
      measures = record { same = refl; draft = omega arith };
    }
