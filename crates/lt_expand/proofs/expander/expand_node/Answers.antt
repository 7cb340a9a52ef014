use Rattle.std.proofs.Common.{◌≡◌, Ok, nat_le, rules, subst, sym, ◌∙◌}
use Rattle.std.proofs.Math.Logic.{∥∥₁_map}
use Rattle.lt_ast.specs.View.{program as declarations}
use Rattle.lt_macros.specs.Answer.{asked_name}
use Rattle.lt_macros.specs.Expansion.{expanded_node}
use Rattle.lt_macros.specs.Tree.{node}
use Rattle.lt_expand.specs.Answer.{IsAnswer}
use Rattle.lt_expand.specs.Nested.{most_runs, runs_in_nest}
use Rattle.std.proofs.lemmas.List.{length-map}
use Rattle.lt_macros.specs.Tree.{declared}
use Rattle.lt_expand.proofs.expander.expand_node.Goals as goal

pub judged_scenario-requires-clause-named : goal.judged_scenario-requires-clause-named
judged_scenario-requires-clause-named c =
    c.names_are_there.ensures c.args.typed.now.decimals (asked_name c.args.node) (declarations c.args.typed.now.program) (node c.in_ok-asked.asked) c.in_ok-asked.ensures.0

pub judged_scenario-requires-clause-numbered : goal.judged_scenario-requires-clause-numbered
judged_scenario-requires-clause-numbered c =
    c.parts_are_numbered.ensures c.args.typed.now.decimals (asked_name c.args.node) (declarations c.args.typed.now.program) (node c.in_ok-asked.asked) c.in_ok-asked.ensures.0

pub judged_scenario-requires-clause-inside : goal.judged_scenario-requires-clause-inside
judged_scenario-requires-clause-inside c =
    (c.locals_are_inside.ensures c.args.typed.now.decimals (asked_name c.args.node) (declarations c.args.typed.now.program) (node c.in_ok-asked.asked) c.in_ok-asked.ensures.0).0

pub calls_of-requires-clause-named : goal.calls_of-requires-clause-named
calls_of-requires-clause-named c =
    c.names_are_there.ensures c.args.typed.now.decimals (asked_name c.args.node) (declarations c.args.typed.now.program) (node c.in_ok-asked.asked) c.in_ok-asked.ensures.0

pub calls_of-requires-clause-inside : goal.calls_of-requires-clause-inside
calls_of-requires-clause-inside c =
    (c.locals_are_inside.ensures c.args.typed.now.decimals (asked_name c.args.node) (declarations c.args.typed.now.program) (node c.in_ok-asked.asked) c.in_ok-asked.ensures.0).1

pub judged_scenario-requires-clause-typed : goal.judged_scenario-requires-clause-typed
judged_scenario-requires-clause-typed c =
    let typed = c.args.typed.now in
    let program = declarations typed.program in
    ∥∥₁_map typed.spelled (λ spelled. c.texts_keep_types.ensures spelled.0 typed.decimals (asked_name c.args.node) program (node c.in_ok-asked.asked)
    spelled.1 ((c.well_typed_is_unrefused.ensures typed.decimals program).1 typed.unrefused) c.in_ok-asked.ensures.0)

pub returns : goal.returns
returns c =
    let program = declarations c.args.typed.now.program in
    let asked = expanded_node c.args.typed.now.decimals (asked_name c.args.node) program in
    let runs = runs_in_nest (asked_name c.args.node) program in
    let few = c.is_few-few.ensures c.args.typed.now c.requires in
    let answer : IsAnswer c.args.typed.now.decimals runs asked (Ok c.in_ok-scenario.scenario) =
    subst (λ decimals. IsAnswer decimals runs asked (Ok c.in_ok-scenario.scenario)) c.decimals.ensures.same
    (subst (λ node. IsAnswer c.decimals.result runs node (Ok c.in_ok-scenario.scenario)) (sym c.in_ok-asked.ensures.0) (c.in_ok-scenario.ensures runs few)) in
    (answer, (node c.in_ok-asked.asked, c.in_ok-asked.ensures.0, c.len-own_inputs.ensures ∙ c.in_ok-asked.asked.inputs.ok.0 ∙ sym (length-map c.in_ok-asked.asked.inputs.items declared), c.in_ok-calls.ensures.calls, c.in_ok-calls.ensures.over))
