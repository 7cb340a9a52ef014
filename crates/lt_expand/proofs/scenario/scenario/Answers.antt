use Rattle.std.proofs.Common.{IsTrue, ap, map, string_bytes, subst, sym, ◌∙◌}
use Rattle.std.proofs.Math.Logic.{∥∥₁_map}
use Rattle.std.proofs.lemmas.Grind.{merely}
use Rattle.std.proofs.lemmas.List.{length-map}
use Rattle.std.specs.List.{All}
use Rattle.lt_formula.specs.View.{table_expressions, table_kinds, table_len}
use Rattle.lt_macros.specs.Expanded as x
use Rattle.lt_macros.specs.Tree.{declared, node}
use Rattle.lt_term.specs.View.{process as process_view, process_over}
use Rattle.lt_term.specs.Within.{is_within}
use Rattle.lt_expand.specs.Scenes.{variable_of}
use Rattle.lt_expand.specs.inner.Declarations.{exceptions}
use Rattle.lt_expand.specs.inner.Items.{items_view}
use Rattle.lt_expand.specs.inner.Ready.{IsFine}
use Rattle.lt_expand.proofs.Made.{IsBody, IsMade, IsTable, body_made, conditions_made, drawn_few, expressions_made, flat_made, inputs_few, inside_made, linear_made, loops_made, made_kinds, narrow_made, nodes_made, own_counters, own_locals, put_ready, scopes_made, shallow_made, start_made, table_made, typed_made, weights_made}
use Rattle.lt_expand.proofs.Prepared.{inputs_fine, limited, node_ready, outputs_fine, parts_are_fine}
use Rattle.lt_expand.proofs.scenario.scenario.Goals as goal

pub inputs_of-requires-clause-fine : goal.inputs_of-requires-clause-fine
inputs_of-requires-clause-fine c = inputs_fine c.args.decimals (node c.args.from.now) c.requires.named c.requires.judged

pub variables_of-requires-clause-fine : goal.variables_of-requires-clause-fine
variables_of-requires-clause-fine c =
    subst (λ ds. All (IsFine c.args.decimals) (map declared ds)) (sym c.deref-2.ensures.value) (outputs_fine c.args.decimals (node c.args.from.now) c.requires.named c.requires.judged)

pub locals_of-requires-clause-fine : goal.locals_of-requires-clause-fine
locals_of-requires-clause-fine c =
    parts_are_fine c.args.decimals (node c.args.from.now) (items_view c.args.parts.now) c.requires.parts c.requires.named c.requires.judged

pub counters_of-requires-clause-fine : goal.counters_of-requires-clause-fine
counters_of-requires-clause-fine c =
    parts_are_fine c.args.decimals (node c.args.from.now) (items_view c.args.parts.now) c.requires.parts c.requires.named c.requires.judged

pub put_term-requires : goal.put_term-requires
put_term-requires c =
    put_ready (table_kinds c.new-table.result) (exceptions c.in_ok-known.known) (node c.args.from.now) (c.new-table.ensures.kinds ∙ c.requires.kinds) (c.in_ok-known.ensures (node c.args.from.now).body c.requires.parts)
    (node_ready (node c.args.from.now) (limited (node c.args.from.now) c.requires.limits) c.requires.named c.requires.numbered c.requires.inside)

pub invariant_of-result : goal.invariant_of-result
invariant_of-result c =
    let n = c.args.decimals in
    let from : x.Node = node c.args.from.now in
    let inputs = c.in_ok-inputs.inputs.items in
    let outputs = c.in_ok-outputs.outputs.items in
    let locals = c.in_ok-locals.locals.items in
    let counters = c.in_ok-counters.counters.items in
    let table = c.put_term.new.table in
    let few = limited from c.requires.limits in
    let made : IsMade n from inputs outputs locals counters = record {
      inputs_made = c.in_ok-inputs.ensures;
      outputs_made = c.in_ok-outputs.ensures ∙ ap (λ ds. map (variable_of n) (map declared ds)) c.deref-2.ensures.value;
      locals_made = own_locals n from (items_view c.args.parts.now) _ c.requires.parts c.in_ok-locals.ensures;
      counters_made = own_counters n from (items_view c.args.parts.now) _ c.requires.parts c.in_ok-counters.ensures;
    } in
    let body : IsBody from table c.in_ok-body.body _ = body_made from table c.in_ok-body.body (exceptions c.in_ok-known.known) (map string_bytes c.in_ok-exceptions.exceptions.items)
    (c.in_ok-known.ensures (node c.args.from.now).body c.requires.parts) c.in_ok-exceptions.ensures c.in_ok-body.ensures.term in
    let process = process_over table c.in_ok-body.body in
    let same = c.in_ok-body.ensures.grown.kinds ∙ c.new-table.ensures.kinds ∙ c.requires.kinds in
    let filled : IsTable from table process =
    table_made from (table_expressions c.new-table.result) table (exceptions c.in_ok-known.known) process c.new-table.ensures.expressions (c.in_ok-known.ensures (node c.args.from.now).body c.requires.parts) body.is same c.in_ok-body.ensures.filled in
    record {
      few_decimals = c.requires.few;
      few_inputs = inputs_few n from inputs outputs locals counters few made;
      few_drawn = drawn_few n from inputs outputs locals counters few made;
      kinds = made_kinds n from inputs outputs locals counters (table_kinds table) same made;
      within = subst (λ k. IsTrue (is_within (table_len table) k (process_view c.in_ok-body.body))) (length-map c.in_ok-exceptions.exceptions.items string_bytes) body.within;
      scopes = scopes_made n from inputs outputs locals counters process body.is c.requires.numbered made;
      loops = loops_made n from inputs outputs locals counters process body.is c.requires.numbered made;
      inside = inside_made from process body.is c.requires.inside;
      at_start = start_made from process body.is;
      narrow = narrow_made from process body.is few;
      named = merely filled.named;
      typed = ∥∥₁_map c.requires.typed (λ typed. typed_made from table process typed filled);
      linear = linear_made n from table process c.requires.judged filled;
      conditions = conditions_made n from table process c.requires.judged filled;
      weights = weights_made n from table process c.requires.judged filled;
      few_expressions = expressions_made from table process few filled;
      few_nodes = nodes_made from table process few filled;
      flat = flat_made from table process few filled;
      shallow = shallow_made from table process few filled;
    }
