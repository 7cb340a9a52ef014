use Rattle.std.proofs.Common.{◌≡◌, List, length, map, string_bytes, subst, ap, sym, ◌∙◌, arith}
use Rattle.std.proofs.lemmas.List.{length-map}
use Rattle.lt_ast.specs.View.{groupings, run, trace, word}
use Rattle.lt_macros.specs.Environment.{Environment}
use Rattle.lt_macros.specs.Denotation.{Denotation, ExpandedTrace, as_trace, trace_denotation}
use Rattle.lt_macros.specs.Expansion.{Runnable, calls_of}
use Rattle.lt_macros.specs.Tree.{call, declared, expanded}
use Rattle.lt_macros.specs.inner.Asking.{AreThere, runnables}
use Rattle.lt_macros.specs.inner.Builder.{names_at}
use Rattle.lt_macros.specs.inner.HeadNormalForm.{AddsTo}
use Rattle.lt_macros.specs.inner.Rows.{rows}
use Rattle.lt_macros.proofs.Adding.{adds_both, adds_length}
use Rattle.lt_macros.proofs.Runs.{node_built, runnables_kept, there_more}
use Rattle.lt_macros.proofs.build.build_node.Goals as goal

pub build_calls-requires-clause-there : goal.build_calls-requires-clause-there
build_calls-requires-clause-there c =
    let old = rows c.args.builder.scope in
    let new = rows c.declare_groups-2.new.builder.scope in
    let added : AddsTo old new = adds_both old (rows c.declare_groups.new.builder.scope) new c.in_ok-inputs.ensures.grown.names c.in_ok-outputs.ensures.grown.names in
    subst (AreThere (length new)) (sym c.deref.ensures.value) (there_more (length old) (length new) c.args.asked.now.before.items (adds_length old new added) c.requires.there)

pub returns : goal.returns
returns c =
    let b = c.args.builder in
    let first = c.declare_groups.new.builder in
    let last = c.declare_groups-2.new.builder in
    let asked = c.args.asked.now in
    let node = asked.node.now in
    let old = rows b.scope in
    let new = rows last.scope in
    let added : AddsTo old new = adds_both old (rows first.scope) new c.in_ok-inputs.ensures.grown.names c.in_ok-outputs.ensures.grown.names in
    let known : List Runnable = runnables b.decimals old asked.before.items in
    let there : List Runnable = runnables last.decimals new c.deref.result.now in
    let decimals : last.decimals ≡ b.decimals = c.in_ok-outputs.ensures.grown.decimals ∙ c.in_ok-inputs.ensures.grown.decimals in
    let same : there ≡ known = (λ i. runnables (decimals i) new (c.deref.ensures.value i)) ∙ runnables_kept b.decimals old new asked.before.items added c.requires.there in
    let inside : Environment Denotation = names_at first c.in_ok-inputs.inputs.environment in
    let here : Environment Denotation = names_at last c.in_ok-outputs.outputs.environment in
    let named : Environment Denotation = names_at c.build_calls.new.builder c.in_ok-runs.runs.environment in
    let n = c.in_ok-inputs.inputs.next in
    let inputs = c.in_ok-inputs.inputs.declared.items in
    let many : n ≡ length (map declared inputs) = omega (arith, c.in_ok-inputs.ensures.next, length-map inputs declared) in
    let calls : map call c.in_ok-runs.runs.calls.items ≡ calls_of there n here (map run node.runs.items) = c.in_ok-runs.ensures.calls ∙ ap (λ rs. calls_of there n here (map run rs)) c.deref-2.ensures.value in
    let body : expanded c.into_inner.result ≡ (as_trace (trace_denotation named (trace node.body)) (record { term = 0; local = 0; counter = 0 })).expanded =
    ap expanded c.into_inner.ensures ∙ ap (λ (t : ExpandedTrace). t.expanded) (c.in_ok-body.ensures.made ∙ ap (as_trace (trace_denotation named (trace node.body))) c.start-start.ensures) in
    node_built known there (names_at b asked.environment) inside here named n (string_bytes c.in_ok-name.name) (word node.name) (groupings node.inputs) (groupings node.outputs) (map run node.runs.items) (trace node.body)
    (map declared inputs) (map declared c.in_ok-outputs.outputs.declared.items) (map call c.in_ok-runs.runs.calls.items) (expanded c.into_inner.result)
    (c.in_ok-name.ensures.ok ∙ c.as_str.ensures) same c.in_ok-inputs.ensures.visible c.in_ok-outputs.ensures.visible many c.in_ok-inputs.ensures.declared c.in_ok-outputs.ensures.declared calls c.in_ok-runs.ensures.visible body
