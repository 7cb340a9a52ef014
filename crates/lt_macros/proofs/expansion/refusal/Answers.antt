use Rattle.std.proofs.Common.{[], map, sym, subst, ◌∙◌}
use Rattle.lt_ast.specs.View.{declaration}
use Rattle.lt_macros.specs.Answer.{asked_name}
use Rattle.lt_macros.specs.Environment.{at_start}
use Rattle.lt_macros.specs.Expansion.{node_among}
use Rattle.lt_macros.specs.inner.Asking.{IsAsked}
use Rattle.lt_macros.specs.inner.Rows.{rows}
use Rattle.lt_macros.proofs.Asked.{node_at, whole}
use Rattle.lt_macros.proofs.expansion.refusal.Goals as goal

pub passed_limit-requires-clause-within : goal.passed_limit-requires-clause-within
passed_limit-requires-clause-within c =
    let wanted = asked_name c.args.wanted in
    let asked = subst (λ a. IsAsked 0 (rows c.asked_node.new.scope) a (node_among [] (at_start 0) wanted (map declaration c.deref.result.now))) c.in-Some.is (c.in_ok-asked.ensures.node 0) in
    asked.0

pub passed_limit-requires-clause-there : goal.passed_limit-requires-clause-there
passed_limit-requires-clause-there c =
    let wanted = asked_name c.args.wanted in
    let asked = subst (λ a. IsAsked 0 (rows c.asked_node.new.scope) a (node_among [] (at_start 0) wanted (map declaration c.deref.result.now))) c.in-Some.is (c.in_ok-asked.ensures.node 0) in
    asked.1

pub returns-in-Some-2 : goal.returns-in-Some-2
returns-in-Some-2 c =
    let d = c.args.typed.now.decimals in
    let wanted = asked_name c.args.wanted in
    let asked = subst (λ a. IsAsked d (rows c.asked_node.new.scope) a (node_among [] (at_start d) wanted (map declaration c.deref.result.now))) c.in-Some.is (c.in_ok-asked.ensures.node d) in
    let all = whole d wanted c.program.result.now c.args.typed.now.program c.deref.result.now c.deref.ensures.value c.program.ensures.same in
    (node_at d (rows c.asked_node.new.scope) c.in-Some.asked, all ∙ asked.2, sym (c.in_ok-limit.ensures.limit d) ∙ c.in-Some-2.is)
