use Rattle.std.proofs.Common.{[], Some, map, ap, sym, subst, ◌∙◌}
use Rattle.lt_ast.specs.View.{declaration}
use Rattle.lt_macros.specs.Answer.{IsAnswer, asked_name}
use Rattle.lt_macros.specs.Environment.{at_start}
use Rattle.lt_macros.specs.Expansion.{node_among}
use Rattle.lt_macros.specs.inner.Asking.{IsAsked}
use Rattle.lt_macros.specs.inner.Rows.{rows}
use Rattle.lt_macros.proofs.Asked.{node_at, whole}
use Rattle.lt_macros.proofs.expansion.expanded_node.Goals as goal

pub build_node-requires : goal.build_node-requires
build_node-requires c =
    let wanted = asked_name c.args.wanted in
    let asked = subst (λ a. IsAsked 0 (rows c.asked_node.new.scope) a (node_among [] (at_start 0) wanted (map declaration c.deref.result.now))) c.in-Some.is (c.in_ok-asked.ensures.node 0) in
    record { ready = record { within = asked.0; right = c.in_ok-asked.ensures.right }; there = asked.1 }

pub returns-in-Ok : goal.returns-in-Ok
returns-in-Ok c =
    let d = c.args.typed.now.decimals in
    let wanted = asked_name c.args.wanted in
    let asked = subst (λ a. IsAsked d (rows c.asked_node.new.scope) a (node_among [] (at_start d) wanted (map declaration c.deref.result.now))) c.in-Some.is (c.in_ok-asked.ensures.node d) in
    let all = whole d wanted c.program.result.now c.args.typed.now.program c.deref.result.now c.deref.ensures.value c.program.ensures.same in
    let made = c.in-Ok.ensures ∙ (λ i. node_at (c.decimals.ensures.same i) (rows c.asked_node.new.scope) c.in-Some.asked) in
    subst (λ o. IsAnswer o c.small_enough.result) (sym (all ∙ asked.2 ∙ ap Some (sym made))) c.small_enough.ensures
