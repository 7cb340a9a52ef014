use Rattle.std.proofs.Common.{◌≡◌, ◌+◌, arith, ap, Ok}
use Rattle.lt_formula.specs.View.{table_expressions, table_kinds, valuation_of_known}
use Rattle.lt_formula.specs.Table.{spelled}
use Rattle.lt_formula.specs.declared.facts.Facts.{Facts}
use Rattle.lt_num.specs.declared.kind.Kind.{Kind}
use Rattle.lt_space.specs.Meaning.{after, comparison, kind_of}
use Rattle.lt_space.specs.inner.Measures.{form_due}
use Rattle.lt_space.proofs.Visitings.{compared_visited, gates_of, terms_room_of, visited_is}
use Rattle.lt_space.proofs.visiting.comparison_gate.Goals as goal

pub compare-requires-clause-room : goal.compare-requires-clause-room
compare-requires-clause-room c = gates_of (valuation_of_known c.args.known.now) c.args.table.now c.args.exp c.args.work.now c.requires.ready

pub compare-requires-clause-terms : goal.compare-requires-clause-terms
compare-requires-clause-terms c =
    omega (arith, terms_room_of (valuation_of_known c.args.known.now) c.args.table.now c.args.exp c.args.work.now c.requires.ready, c.in_ok-first.ensures.large.variables, c.in_ok-second.ensures.large.variables)

pub returns : goal.returns
returns c =
    let v = valuation_of_known c.args.known.now in
    let table = c.args.table.now in
    let dl = form_due v table c.args.left in
    let dr = form_due v table c.args.right in
    let k = c.facts.result.kind in
    let kind : k ≡ kind_of (table_kinds table) (spelled (table_expressions table) c.args.left) = ap (λ (f : Facts). f.kind) c.facts.ensures in
    let g = compared_visited v table c.args.exp c.compare.result c.in_ok-first.first c.in_ok-second.second (c.args.left + 1) (c.args.right + 1) c.args.work.now c.measure.new.measures c.measure-2.new.measures c.compare.new.measures c.compare.new.circuit dl dr
    (comparison c.args.operator k v.decimals) c.requires.ready c.in_ok-first.ensures c.in_ok-second.ensures c.compare.ensures.pushed c.compare.ensures.measures in
    visited_is v table c.args.exp 1 _ _ c.compare.result c.args.work.now _ (ap (λ (j : Kind). after dl (λ f. after dr (λ h. Ok (comparison c.args.operator j v.decimals f h)))) kind) g
