use Rattle.std.proofs.Common.{◌<◌, ◌++◌, ◌∷◌, ◌∙◌, ℕ, [], ap, map, refl, subst, sym}
use Rattle.lt_legal.specs.Back.{Visits, back, total}
use Rattle.lt_legal.specs.NodeView.{node_view}
use Rattle.lt_legal.proofs.Walks.{asks_here, falls_on, goes_on, halt_as, halt_on, starts, tree_at, tree_here}
use Rattle.lt_legal.proofs.walking.walk.Goals as goal

pub loop-number-init : goal.loop-number-init
loop-number-init g c = record {
  left = starts (g.A.Alive.live c.args.alive.now) (map node_view c.args.nodes.now) c.args.from g.tree c.push.new.self.items c.clear-2.new.self.items (c.in-Ok.ensures.items ∙ ap (λ s. s ++ c.args.from ∷ []) c.clear.ensures.items) c.clear-2.ensures.items c.requires.1.0;
  ready = c.requires.1.1.1.1;
  live = refl;
  needs = λ k need h. h;
}

pub loop-number-smaller : goal.loop-number-smaller
loop-number-smaller g c =
    let live = g.A.Alive.live c.args.alive.now in
    let ns = map node_view c.args.nodes.now in
    let all = back live c.args.from g.tree in
    let stack = c.loop-number.stack.items in
    let waiting = c.pop.new.self.items in
    let n = c.in-Some.number in
    let out = c.loop-number.out.items in
    let popped = c.in-Some.ensures.items in
    let left = c.loop-number.invariant.left in
    let t = tree_here live ns all stack waiting n out c.args.from g.tree popped left in
    let told = c.in-Ok-visit.ensures.visits t (tree_at live ns all stack waiting n out c.args.from g.tree popped left) in
    let now = subst (λ l. Visits l ns c.args.found.now n t waiting c.visit.new.stack.items out c.visit.new.out.items) c.loop-number.invariant.live told in
    let over = subst (λ hs. Visits live ns hs n t waiting c.visit.new.stack.items out c.visit.new.out.items) c.requires.1.1.1.0 now in
    subst (λ hs. total hs c.visit.new.stack.items < total hs stack) (sym c.requires.1.1.1.0) (falls_on live ns all stack waiting n out c.args.from g.tree popped left c.visit.new.stack.items c.visit.new.out.items over)

pub loop-number-preserved : goal.loop-number-preserved
loop-number-preserved g c =
    let live = g.A.Alive.live c.args.alive.now in
    let ns = map node_view c.args.nodes.now in
    let all = back live c.args.from g.tree in
    let stack = c.loop-number.stack.items in
    let waiting = c.pop.new.self.items in
    let n = c.in-Some.number in
    let out = c.loop-number.out.items in
    let popped = c.in-Some.ensures.items in
    let left = c.loop-number.invariant.left in
    let t = tree_here live ns all stack waiting n out c.args.from g.tree popped left in
    let told = c.in-Ok-visit.ensures.visits t (tree_at live ns all stack waiting n out c.args.from g.tree popped left) in
    let now = subst (λ l. Visits l ns c.args.found.now n t waiting c.visit.new.stack.items out c.visit.new.out.items) c.loop-number.invariant.live told in
    let over = subst (λ hs. Visits live ns hs n t waiting c.visit.new.stack.items out c.visit.new.out.items) c.requires.1.1.1.0 now in
    record {
      left = goes_on live ns all stack waiting n out c.args.from g.tree popped left c.visit.new.stack.items c.visit.new.out.items over;
      ready = c.visit.ensures.ready;
      live = c.visit.ensures.live ∙ c.loop-number.invariant.live;
      needs = λ k need h. c.loop-number.invariant.needs k need (c.visit.ensures.needs k need h);
    }

pub returns-in-Err-visit-clause-halts : goal.returns-in-Err-visit-clause-halts
returns-in-Err-visit-clause-halts g c =
    let live = g.A.Alive.live c.args.alive.now in
    let ns = map node_view c.args.nodes.now in
    let all = back live c.args.from g.tree in
    let stack = c.loop-number.stack.items in
    let waiting = c.pop.new.self.items in
    let n = c.in-Some.number in
    let out = c.loop-number.out.items in
    let popped = c.in-Some.ensures.items in
    let left = c.loop-number.invariant.left in
    let t = tree_here live ns all stack waiting n out c.args.from g.tree popped left in
    let told = c.in-Err-visit.ensures.halts t (tree_at live ns all stack waiting n out c.args.from g.tree popped left) in
    halt_on (g.A.Alive.may_give_up c.args.alive.now) n c.args.from t g.tree c.in-Err-visit.halt (asks_here live ns all stack waiting n out c.args.from g.tree popped left)
    (halt_as (g.A.Alive.may_give_up c.loop-number.alive) (g.A.Alive.may_give_up c.args.alive.now) n t c.in-Err-visit.halt c.loop-number.invariant.needs told)
