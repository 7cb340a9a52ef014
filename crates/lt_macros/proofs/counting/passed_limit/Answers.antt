use Rattle.std.proofs.Common.{◌≡◌, length, map, slice_get, ap, subst, sym, ◌∙◌, arith}
use Rattle.lt_ast.specs.View.{groupings, run as run_view, trace as trace_view, word}
use Rattle.lt_ast.specs.inner.Lists.{groups_of}
use Rattle.lt_ast.specs.inner.Rows.{group_of}
use Rattle.lt_ast.proofs.Public.{groups_list}
use Rattle.lt_formula.specs.declared.role.Role.TheVariants as role
use Rattle.lt_macros.specs.Expansion.{node_of, with_groups}
use Rattle.lt_macros.specs.Limits.{passed_limits}
use Rattle.lt_macros.specs.Denotation.{Numbers, ExpandedTrace, as_trace, trace_denotation}
use Rattle.lt_macros.specs.inner.Asking.{AreThere, runnables}
use Rattle.lt_macros.specs.inner.Counting.{AreWithin, sum_of, waiting}
use Rattle.lt_macros.specs.inner.Figures.{Figure, node_figure}
use Rattle.lt_macros.specs.inner.HeadNormalForm.{AddsTo}
use Rattle.lt_macros.specs.inner.Numbers.{numbers_view}
use Rattle.lt_macros.specs.inner.Reading.{environment, meant}
use Rattle.lt_macros.specs.inner.Rows.{rows}
use Rattle.lt_macros.specs.inner.Started.{sum_from}
use Rattle.lt_macros.specs.declared.counting.Count.{Count}
use Rattle.lt_macros.proofs.Adding.{adds_both, adds_length, all_back}
use Rattle.lt_macros.proofs.Runs.{runnables_kept, there_more}
use Rattle.lt_macros.proofs.Opened.{first_limit, inputs_counted, node_counted, nothing_counted, nothing_left, trace_put, trace_within}
use Rattle.lt_macros.proofs.counting.passed_limit.Goals as goal

pub put_calls-requires-clause-there : goal.put_calls-requires-clause-there
put_calls-requires-clause-there c =
    let base = rows c.args.scope.now in
    let all = rows c.put_variables-2.new.scope in
    let added : AddsTo base all = adds_both base (rows c.put_variables.new.scope) all c.in_ok-inputs.ensures.adds c.in_ok-outputs.ensures.adds in
    subst (λ ds. AreThere (length all) ds) (sym c.deref-3.ensures.value) (there_more (length base) (length all) c.args.asked.now.before.items (adds_length base all added) c.requires.there)

pub run-requires-clause-within : goal.run-requires-clause-within
run-requires-clause-within c =
    let base = rows c.args.scope.now in
    let all = rows c.put_calls.new.scope in
    let first = nothing_left (length base) c.new.result.items c.new.ensures.items in
    let list = c.in_ok-named.ensures.within (length base) (c.in_ok-outputs.ensures.within (length base) (c.in_ok-inputs.ensures.within (length base) first)) in
    let within = trace_within (length base) (length all) c.in_ok-named.named.environment c.len.result _ (waiting c.put_calls.new.count) (waiting c.put.new.count) c.in_ok-put.ensures.left c.len.ensures c.in_ok-named.ensures.inside list in
    subst (λ least. AreWithin least (length all) (waiting c.put.new.count)) (sym c.len-base.ensures) within

pub truncate-requires : goal.truncate-requires
truncate-requires c =
    let base = rows c.args.scope.now in
    let added = c.in_ok-run.ensures.adds base (sym c.len-base.ensures)
    (adds_both base (rows c.put_variables-2.new.scope) (rows c.put_calls.new.scope) (adds_both base (rows c.put_variables.new.scope) (rows c.put_variables-2.new.scope) c.in_ok-inputs.ensures.adds c.in_ok-outputs.ensures.adds) c.in_ok-named.ensures.adds) in
    omega (arith, c.len-base.ensures, adds_length base (rows c.run.new.scope) added)

pub returns-clause-limit : goal.returns-clause-limit
returns-clause-limit c =
    λ decimals.
    let base = rows c.args.scope.now in
    let inner = rows c.put_variables.new.scope in
    let mid = rows c.put_variables-2.new.scope in
    let all = rows c.put_calls.new.scope in
    let node = c.args.asked.now.node.now in
    let nodes = c.args.asked.now.before.items in
    let ins = groups_of (map group_of c.deref.result.now) in
    let outs = groups_of (map group_of c.deref-2.result.now) in
    let rs = map run_view c.deref-4.result.now in
    let env = environment (meant decimals) base c.args.asked.now.environment in
    let inside = environment (meant decimals) inner c.in_ok-inputs.inputs.environment in
    let here = environment (meant decimals) mid c.in_ok-outputs.outputs.environment in
    let named = environment (meant decimals) all c.in_ok-named.named.environment in
    let known = runnables decimals base nodes in
    let there = runnables decimals mid c.deref-3.result.now in
    let added : AddsTo base mid = adds_both base inner mid c.in_ok-inputs.ensures.adds c.in_ok-outputs.ensures.adds in
    let same : there ≡ known = ap (runnables decimals mid) c.deref-3.ensures.value ∙ runnables_kept decimals base mid nodes added c.requires.there in
    let n = c.in_ok-inputs.inputs.next in
    let start : Numbers = record { term = 0; local = 0; counter = 0 } in
    let empty : Count = record { left = c.new.result; numbers = c.start.result; tally = c.start-2.result } in
    let made = node_of known env (word node.name) ins outs rs (trace_view node.body) in
    let body : ExpandedTrace = as_trace (trace_denotation named (trace_view node.body)) start in
    let numbers : numbers_view c.put.new.count.numbers ≡ start = ap numbers_view (c.in_ok-put.ensures.numbers ∙ c.in_ok-named.ensures.numbers ∙ c.in_ok-outputs.ensures.numbers ∙ c.in_ok-inputs.ensures.numbers) ∙ c.start.ensures in
    let read : (f : Figure) → sum_of decimals all f c.put.new.count ≡ node_figure made f =
    λ f.
    trace_put decimals all f c.in_ok-named.named.environment c.len.result _ start c.put_calls.new.count c.put.new.count c.in_ok-put.ensures.left c.in_ok-put.ensures.tally numbers
    ∙ node_counted f known there env inside here named n (word node.name) ins outs rs (trace_view node.body)
    (sum_from decimals base f empty body.after) (sum_from decimals inner f c.put_variables.new.count body.after) (sum_from decimals mid f c.put_variables-2.new.count body.after) (sum_from decimals all f c.put_calls.new.count body.after)
    same (c.in_ok-inputs.ensures.visible decimals) (c.in_ok-outputs.ensures.visible decimals) (c.in_ok-inputs.ensures.next 0 env) (c.in_ok-named.ensures.visible decimals)
    (nothing_counted decimals base f empty body.after (c.start-2.ensures f) c.new.ensures.items)
    (c.in_ok-inputs.ensures.figures decimals f body.after) (c.in_ok-outputs.ensures.figures decimals f body.after) (c.in_ok-named.ensures.figures decimals f body.after)
    in
    let inputs : ins ≡ groupings node.inputs = ap (λ gs. groups_of (map group_of gs)) c.deref.ensures.value ∙ sym (groups_list node.inputs) in
    let outputs : outs ≡ groupings node.outputs = ap (λ gs. groups_of (map group_of gs)) c.deref-2.ensures.value ∙ sym (groups_list node.outputs) in
    let runs : rs ≡ map run_view node.runs.items = ap (map run_view) c.deref-4.ensures.value in
    let many = inputs_counted known there env inside here n c.in_ok-named.named.next (word node.name) ins outs rs (trace_view node.body)
    same (c.in_ok-inputs.ensures.visible decimals) (c.in_ok-outputs.ensures.visible decimals) (c.in_ok-inputs.ensures.next 0 env) (c.in_ok-named.ensures.next decimals) in
    c.limit.ensures
    ∙ first_limit c.run.new.count.tally (λ f. sum_of decimals all f c.put.new.count) made c.in_ok-named.named.next c.in_ok-outputs.outputs.next (c.in_ok-run.ensures.figures decimals) read many (c.in_ok-outputs.ensures.next 0 (with_groups role.Input 0 ins env))
    ∙ (λ i. slice_get (passed_limits (node_of known env (word node.name) (inputs i) (outputs i) (runs i) (trace_view node.body))) 0)

pub returns-clause-kept : goal.returns-clause-kept
returns-clause-kept c =
    let base = rows c.args.scope.now in
    let added = c.in_ok-run.ensures.adds base (sym c.len-base.ensures)
    (adds_both base (rows c.put_variables-2.new.scope) (rows c.put_calls.new.scope) (adds_both base (rows c.put_variables.new.scope) (rows c.put_variables-2.new.scope) c.in_ok-inputs.ensures.adds c.in_ok-outputs.ensures.adds) c.in_ok-named.ensures.adds) in
    all_back base (rows c.run.new.scope) (rows c.truncate.new.self) c.len-base.result c.truncate.ensures.rows c.len-base.ensures added
