use Rattle.std.proofs.Common.{◌≡◌, length, true, arith, rules, ap, Err}
use Rattle.lt_formula.specs.View.{table_len, valuation_of_known}
use Rattle.lt_space.specs.Circuit.{formula_at}
use Rattle.lt_space.specs.Formula.{truth}
use Rattle.lt_space.specs.inner.Work.{formulas_in}
use Rattle.lt_space.proofs.Loadings.{fault_loads, first_failed, first_joined, list_first, list_rest, loads_after, none_due, pushed_loads, pushed_ready}
use Rattle.lt_space.proofs.Visitings.{pushed_gate}
use Rattle.lt_space.proofs.loading.visit_all.Goals as goal

pub returns-in_default-clause-loads : goal.returns-in_default-clause-loads
returns-in_default-clause-loads c =
    let w = c.args.work.now in
    let e = c.push.ensures in
    let p = pushed_gate w.circuit c.push.new.self c.push.result (truth true) e.number e.formulas e.len e.terms e.room e.terms_room in
    pushed_loads w c.push.new.self c.push.result 1 0 (truth true) _ p (none_due (valuation_of_known c.args.known.now) c.args.table.now c.args.wanted.now c.in_default.ensures.cases)

pub returns-in_default-clause-ready : goal.returns-in_default-clause-ready
returns-in_default-clause-ready c =
    let w = c.args.work.now in
    let e = c.push.ensures in
    let p = pushed_gate w.circuit c.push.new.self c.push.result (truth true) e.number e.formulas e.len e.terms e.room e.terms_room in
    pushed_ready (valuation_of_known c.args.known.now) c.args.table.now w c.push.new.self c.push.result (truth true) c.requires.ready p (omega (arith, c.requires.room))

pub visit-requires-clause-within : goal.visit-requires-clause-within
visit-requires-clause-within c = list_first (table_len c.args.table.now) c.args.wanted.now c.in-Some.more.now c.in-Some.first.now c.in-Some.ensures.cases.0 c.requires.within

pub returns-in_err-root-clause-loads : goal.returns-in_err-root-clause-loads
returns-in_err-root-clause-loads c =
    let is : c.from_residual.result ≡ Err c.in_err-root.field-0.0 = search rules in
    fault_loads _ _ _ _ _ is (first_failed (valuation_of_known c.args.known.now) c.args.table.now c.args.wanted.now c.in-Some.more.now c.in-Some.first.now _ _ _ c.in-Some.ensures.cases.0 c.in_err-root.ensures)

pub join_all-requires-clause-first : goal.join_all-requires-clause-first
join_all-requires-clause-first c = c.in_ok-root.ensures.stands.within

pub join_all-requires-clause-within : goal.join_all-requires-clause-within
join_all-requires-clause-within c = list_rest (table_len c.args.table.now) c.args.wanted.now c.in-Some.more.now c.in-Some.first.now c.in-Some.ensures.cases.0 c.requires.within

pub join_all-requires-clause-ready : goal.join_all-requires-clause-ready
join_all-requires-clause-ready c = record { right = c.in_ok-root.ensures.right; room = c.in_ok-root.ensures.room }

pub join_all-requires-clause-room : goal.join_all-requires-clause-room
join_all-requires-clause-room c =
    let g = c.in_ok-root.ensures in
    omega (arith, ap length c.in-Some.ensures.cases.0, c.requires.room, g.spent, g.wide.gates)

pub returns-clause-loads : goal.returns-clause-loads
returns-clause-loads c =
    let v = valuation_of_known c.args.known.now in
    let t = c.args.table.now in
    let mid = c.visit.new.work in
    let g = c.in_ok-root.ensures in
    let due = first_joined v t c.args.wanted.now c.in-Some.more.now c.in-Some.first.now (formula_at (formulas_in mid) c.in_ok-root.root) c.in-Some.ensures.cases.0 g.stands.is in
    loads_after _ _ c.join_all.result c.args.work.now mid c.join_all.new.work g.wide c.join_all.ensures.loads due
