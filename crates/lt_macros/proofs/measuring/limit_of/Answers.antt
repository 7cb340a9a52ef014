use Rattle.std.proofs.Common.{◌≡◌, length, map, ap, ◌∙◌, arith}
use Rattle.std.proofs.lemmas.List.{length-map}
use Rattle.lt_macros.specs.Expanded.{all_inputs}
use Rattle.lt_macros.specs.Tree.{call, declared, node as node_view}
use Rattle.lt_macros.specs.inner.Figures.{Figure, calls_figure, limit_by, node_figure, variables_figure}
use Rattle.lt_macros.specs.inner.Tallies.{counted}
use Rattle.lt_macros.proofs.Counted.{first_passed}
use Rattle.lt_macros.proofs.measuring.limit_of.Goals as goal

pub returns : goal.returns
returns c =
    let node = node_view c.args.node.now in
    let ins : c.in_ok-inputs.inputs ≡ length (all_inputs node) = c.in_ok-inputs.ensures in
    let outs : c.in_ok-outputs.outputs ≡ length node.outputs = omega (arith, c.in_ok-outputs.ensures, ap length c.deref-4.ensures.value, length-map c.args.node.now.outputs.items declared) in
    let same : (f : Figure) → counted c.count_trace.new.tally f ≡ node_figure node f =
    λ f.
    omega (
      arith,
      c.start-tally.ensures f,
      c.in_ok-count_variables.ensures f,
      c.in_ok-count_variables-2.ensures f,
      c.in_ok-count_calls.ensures f,
      c.in_ok-count_trace.ensures f,
      ap (λ variables. variables_figure f (map declared variables)) c.deref.ensures.value,
      ap (λ variables. variables_figure f (map declared variables)) c.deref-2.ensures.value,
      ap (λ calls. calls_figure f (map call calls)) c.deref-3.ensures.value,
    ) in
    c.limit.ensures ∙ (λ i. limit_by (λ f. same f i) (ins i) (outs i)) ∙ first_passed node
