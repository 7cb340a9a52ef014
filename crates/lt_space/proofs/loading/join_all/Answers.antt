use Rattle.std.proofs.Common.{◌≡◌, ◌<◌, length, arith, ap, refl, rules, Err}
use Rattle.lt_formula.specs.View.{table_len, valuation_of_known}
use Rattle.lt_space.specs.Circuit.{formula_at}
use Rattle.lt_space.specs.Formula.{conjunction}
use Rattle.lt_space.specs.inner.Work.{formulas_in}
use Rattle.lt_space.proofs.Loadings.{all_joined, fault_loads, list_first, next_failed, next_joined}
use Rattle.lt_space.proofs.Visitings.{pushed_gate, two_fit, wide_same}
use Rattle.lt_space.proofs.loading.join_all.Goals as goal

pub loop-exp-init : goal.loop-exp-init
loop-exp-init c = record { root = c.requires.first; within = c.requires.within; ready = c.requires.ready; room = c.requires.room; due = refl; wide = wide_same c.args.work.now }

pub visit-requires-clause-within : goal.visit-requires-clause-within
visit-requires-clause-within c = list_first (table_len c.args.table.now) c.loop-exp.rest.now c.in-Some.more.now c.in-Some.exp.now c.in-Some.ensures.cases.0 c.loop-exp.invariant.within

pub visit-requires-clause-ready : goal.visit-requires-clause-ready
visit-requires-clause-ready c = c.loop-exp.invariant.ready

pub returns-in_err-gate-clause-loads : goal.returns-in_err-gate-clause-loads
returns-in_err-gate-clause-loads c =
    let is : c.from_residual.result ≡ Err c.in_err-gate.field-0.0 = search rules in
    fault_loads _ _ _ _ _ is
    (next_failed (valuation_of_known c.args.known.now) c.args.table.now _ c.args.work.now c.loop-exp.root c.in-Some.exp.now _ c.loop-exp.rest.now c.in-Some.more.now c.loop-exp.work c.visit.new.work c.in-Some.ensures.cases.0 c.loop-exp.invariant c.in_err-gate.ensures)

pub push-root-requires-clause-fits : goal.push-root-requires-clause-fits
push-root-requires-clause-fits c =
    let g = c.in_ok-gate.ensures in
    let root : c.loop-exp.root < length (formulas_in c.visit.new.work) = omega (arith, c.loop-exp.invariant.root, g.grows.more) in
    two_fit c.visit.new.work.circuit c.loop-exp.root c.in_ok-gate.gate root g.stands.within

pub push-root-requires-clause-room : goal.push-root-requires-clause-room
push-root-requires-clause-room c =
    let g = c.in_ok-gate.ensures in
    omega (arith, ap length c.in-Some.ensures.cases.0, c.loop-exp.invariant.room, g.spent, g.wide.gates)

pub loop-exp-preserved : goal.loop-exp-preserved
loop-exp-preserved c =
    let mid = c.visit.new.work in
    let e = c.push-root.ensures in
    let whole = conjunction (formula_at (formulas_in mid) c.loop-exp.root) (formula_at (formulas_in mid) c.in_ok-gate.gate) in
    let p = pushed_gate mid.circuit c.push-root.new.self c.push-root.result whole e.number e.formulas e.len e.terms e.room e.terms_room in
    next_joined (valuation_of_known c.args.known.now) c.args.table.now _ c.args.work.now c.loop-exp.root c.in-Some.exp.now c.in_ok-gate.gate c.push-root.result c.loop-exp.rest.now c.in-Some.more.now c.loop-exp.work mid c.push-root.new.self
    c.in-Some.ensures.cases.0 c.loop-exp.invariant c.in_ok-gate.ensures p

pub returns-clause-ready : goal.returns-clause-ready
returns-clause-ready c = c.loop-exp.invariant.ready

pub returns-clause-loads : goal.returns-clause-loads
returns-clause-loads c = all_joined (valuation_of_known c.args.known.now) c.args.table.now _ c.args.work.now c.loop-exp.root c.loop-exp.rest.now c.loop-exp.work c.in_default.ensures.cases c.loop-exp.invariant
