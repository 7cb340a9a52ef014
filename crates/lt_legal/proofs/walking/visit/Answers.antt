use Rattle.std.proofs.Common.{◌≤◌, ◌<◌, ◌^◌, ◌+◌, ◌++◌, ◌∷◌, ◌∙◌, List, ap, drop, length, map, subst, sym}
use Rattle.std.proofs.lemmas.List.{length-map}
use Rattle.lt_legal.specs.Back.{Visits}
use Rattle.lt_legal.specs.NodeView.{node_view}
use Rattle.lt_legal.specs.Nodes.{children, found_at}
use Rattle.lt_legal.specs.declared.found.Found.{Found}
use Rattle.lt_legal.specs.declared.node.Node as code
use Rattle.lt_legal.proofs.Walks.{asked_halt, asked_here, node_at, past_end, via_halting, spoilt_tree, tip_tree, visit_choice, visit_first, visit_leaf, visit_none, visit_second}
use Rattle.lt_legal.proofs.walking.visit.Goals as goal

-- there are as many nodes
few_nodes : (ns : List code.Node) → length ns < 2 ^ 32 → length (map node_view ns) < 2 ^ 32
few_nodes ns l = subst (λ k. k < 2 ^ 32) (sym (length-map ns node_view)) l

pub returns-in_default-clause-visits : goal.returns-in_default-clause-visits
returns-in_default-clause-visits g c = λ t h.
    let ns = c.args.nodes.now in
    let past : length (map node_view ns) ≤ c.args.number = subst (λ k. k ≤ c.args.number) (sym (length-map ns node_view)) c.in_default.ensures.lookup.3 in
    absurd (past_end (map node_view ns) c.args.number t past h)

pub returns-in-Tip-clause-visits : goal.returns-in-Tip-clause-visits
returns-in-Tip-clause-visits g c =
    let live = g.A.Alive.live c.args.alive.now in
    let ns = map node_view c.args.nodes.now in
    let few = few_nodes c.args.nodes.now c.requires.few in
    let table = sym c.requires.table in
    let stack = c.args.stack.now.items in
    let out = c.args.out.now.items in
    let n = c.args.number in
    let here = node_at node_view c.args.nodes.now n c.in-Some.node.now c.in-Some.ensures.lookup.3.0 c.in-Some.ensures.lookup.1 ∙ ap (λ x. node_view x ∷ drop (n + 1) ns) c.in-Tip.is in
    via_halting c.put.result c.halting.result c.halting.ensures (λ p t h. subst (λ hs. Visits live ns hs n t stack stack out c.put.new.out.items) table
    (visit_leaf live ns few n t h c.in-Tip.passes stack out c.put.new.out.items (tip_tree live ns n c.in-Tip.passes _ t here h) p)) c.put.ensures

pub returns-in-Spoilt-clause-visits : goal.returns-in-Spoilt-clause-visits
returns-in-Spoilt-clause-visits g c =
    let live = g.A.Alive.live c.args.alive.now in
    let ns = map node_view c.args.nodes.now in
    let few = few_nodes c.args.nodes.now c.requires.few in
    let table = sym c.requires.table in
    let stack = c.args.stack.now.items in
    let out = c.args.out.now.items in
    let n = c.args.number in
    let here = node_at node_view c.args.nodes.now n c.in-Some.node.now c.in-Some.ensures.lookup.3.0 c.in-Some.ensures.lookup.1 ∙ ap (λ x. node_view x ∷ drop (n + 1) ns) c.in-Spoilt.is in
    via_halting c.put-in-Spoilt.result c.halting-in-Spoilt.result c.halting-in-Spoilt.ensures (λ p t h. subst (λ hs. Visits live ns hs n t stack stack out c.put-in-Spoilt.new.out.items) table
    (visit_leaf live ns few n t h c.in-Spoilt.passes stack out c.put-in-Spoilt.new.out.items (spoilt_tree live ns n c.in-Spoilt.passes c.in-Spoilt.field-1.items _ t here h) p)) c.put-in-Spoilt.ensures

pub returns-then-one-clause-visits : goal.returns-then-one-clause-visits
returns-then-one-clause-visits g c =
    let live = g.A.Alive.live c.args.alive.now in
    let ns = map node_view c.args.nodes.now in
    let few = few_nodes c.args.nodes.now c.requires.few in
    let table = sym c.requires.table in
    let stack = c.args.stack.now.items in
    let out = c.args.out.now.items in
    let n = c.args.number in
    let here = node_at node_view c.args.nodes.now n c.in-Some.node.now c.in-Some.ensures.lookup.3.0 c.in-Some.ensures.lookup.1 ∙ ap (λ x. node_view x ∷ drop (n + 1) ns) c.in-Order.is in
    let put = c.put-then-one in
    via_halting put.result c.halting-then-one.result c.halting-then-one.ensures (λ p t h. subst (λ hs. Visits live ns hs n t stack put.new.out.items out out) table
    (visit_first live ns few n t h _ here c.plus-left.result c.plus-right.result c.find_at-one.result c.plus-left.ensures (c.find_at-one.ensures ∙ ap (λ hs. found_at hs c.plus-left.result) c.requires.table) c.plus-right.ensures
    stack put.new.out.items out c.if-one.true p)) put.ensures

pub returns-in-Ok-clause-visits : goal.returns-in-Ok-clause-visits
returns-in-Ok-clause-visits g c =
    let live = g.A.Alive.live c.args.alive.now in
    let ns = map node_view c.args.nodes.now in
    let few = few_nodes c.args.nodes.now c.requires.few in
    let table = sym c.requires.table in
    let stack = c.args.stack.now.items in
    let out = c.args.out.now.items in
    let n = c.args.number in
    let here = node_at node_view c.args.nodes.now n c.in-Some.node.now c.in-Some.ensures.lookup.3.0 c.in-Some.ensures.lookup.1 ∙ ap (λ x. node_view x ∷ drop (n + 1) ns) c.in-Order.is in
    let put = c.put-in-Ok in
    let two = ap (λ (f : Found). f.has) (sym (c.find_at.ensures ∙ ap (λ hs. found_at hs c.plus-right.result) c.requires.table)) ∙ c.if-find_at.true in
    via_halting put.result c.halting-in-Ok.result c.halting-in-Ok.ensures (λ p t h. subst (λ hs. Visits live ns hs n t stack put.new.out.items out out) table
    (visit_second live ns few n t h _ here c.plus-left.result c.plus-right.result c.find_at-one.result c.plus-left.ensures (c.find_at-one.ensures ∙ ap (λ hs. found_at hs c.plus-left.result) c.requires.table) c.plus-right.ensures
    stack put.new.out.items out c.in-Ok.lives c.if-one.false two c.in-Ok.ensures.told p)) put.ensures

pub returns-in-Err-clause-halts : goal.returns-in-Err-clause-halts
returns-in-Err-clause-halts g c = λ t h.
    let live = g.A.Alive.live c.args.alive.now in
    let ns = map node_view c.args.nodes.now in
    let few = few_nodes c.args.nodes.now c.requires.few in
    let n = c.args.number in
    let here = node_at node_view c.args.nodes.now n c.in-Some.node.now c.in-Some.ensures.lookup.3.0 c.in-Some.ensures.lookup.1 ∙ ap (λ x. node_view x ∷ drop (n + 1) ns) c.in-Order.is in
    let two = ap (λ (f : Found). f.has) (sym (c.find_at.ensures ∙ ap (λ hs. found_at hs c.plus-right.result) c.requires.table)) ∙ c.if-find_at.true in
    asked_halt (g.A.Alive.may_give_up c.args.alive.now) n t c.plus-left.result c.in-Err.halt
    (asked_here live ns few n t h _ here c.plus-left.result c.plus-right.result c.find_at-one.result c.plus-left.ensures (c.find_at-one.ensures ∙ ap (λ hs. found_at hs c.plus-left.result) c.requires.table) c.plus-right.ensures c.if-one.false two)
    c.in-Err.ensures.halts

pub returns-else-find_at-clause-visits : goal.returns-else-find_at-clause-visits
returns-else-find_at-clause-visits g c = λ t h.
    let live = g.A.Alive.live c.args.alive.now in
    let ns = map node_view c.args.nodes.now in
    let few = few_nodes c.args.nodes.now c.requires.few in
    let table = sym c.requires.table in
    let stack = c.args.stack.now.items in
    let out = c.args.out.now.items in
    let n = c.args.number in
    let here = node_at node_view c.args.nodes.now n c.in-Some.node.now c.in-Some.ensures.lookup.3.0 c.in-Some.ensures.lookup.1 ∙ ap (λ x. node_view x ∷ drop (n + 1) ns) c.in-Order.is in
    let two = ap (λ (f : Found). f.has) (sym (c.find_at.ensures ∙ ap (λ hs. found_at hs c.plus-right.result) c.requires.table)) ∙ c.if-find_at.false in
    subst (λ hs. Visits live ns hs n t stack stack out out) table
    (visit_none live ns few n t h _ here c.plus-left.result c.plus-right.result c.find_at-one.result c.plus-left.ensures (c.find_at-one.ensures ∙ ap (λ hs. found_at hs c.plus-left.result) c.requires.table) c.plus-right.ensures
    stack out c.if-one.false two)

pub returns-in-Choice-clause-visits : goal.returns-in-Choice-clause-visits
returns-in-Choice-clause-visits g c =
    let live = g.A.Alive.live c.args.alive.now in
    let ns = map node_view c.args.nodes.now in
    let few = few_nodes c.args.nodes.now c.requires.few in
    let table = sym c.requires.table in
    let stack = c.args.stack.now.items in
    let out = c.args.out.now.items in
    let n = c.args.number in
    let here = node_at node_view c.args.nodes.now n c.in-Some.node.now c.in-Some.ensures.lookup.3.0 c.in-Some.ensures.lookup.1 ∙ ap (λ x. node_view x ∷ drop (n + 1) ns) c.in-Choice.is in
    let push = c.push_parts in
    via_halting push.result c.halting-in-Choice.result c.halting-in-Choice.ensures (λ p t h. subst (λ hs. Visits live ns hs n t stack push.new.stack.items out out) table
    (visit_choice live ns few n t h c.in-Choice.weights.items _ c.plus.result stack push.new.stack.items out here c.plus.ensures
    (p ∙ ap (λ ws. stack ++ children ws c.plus.result c.args.found.now) c.deref.ensures.value ∙ ap (λ hs. stack ++ children c.in-Choice.weights.items c.plus.result hs) c.requires.table))) push.ensures
