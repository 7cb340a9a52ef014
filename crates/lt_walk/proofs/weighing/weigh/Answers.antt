use Rattle.std.proofs.Common.{◌≡◌, ◌≤◌, suc, ◌+◌, ◌-◌, ◌*◌, length, ap, sym, ◌∙◌, arith}
use Rattle.lt_tree_size.specs.Tally.{nodes, vanishes, goes}
use Rattle.lt_term.specs.Offers.{offers_of}
use Rattle.lt_term.specs.Size.{capped, tree_weight}
use Rattle.lt_marks.specs.View.{begun}
use Rattle.lt_walk.proofs.Contexts.{up_to, some_nodes, up_to_first, up_to_more, up_to_all, context_at, context_beyond, context_up_to}
use Rattle.lt_walk.proofs.weighing.weigh.Goals as goal

pub loop-exception-init : goal.loop-exception-init
loop-exception-init c = record {
  weight = (omega (arith, c.grown-all.ensures.some, c.grown-some.ensures.some, c.part_tally-tally.result.some), c.grown-all.ensures.few);
  is = λ kinds w k.
      let t = offers_of kinds (begun c.args.is_fresh c.args.part.now.value) in
      let h = c.part_tally-tally.ensures kinds in
      let one = some_nodes t in
      let some : 1 ≤ nodes t + vanishes t * (w.vanish - 1) = omega (arith, one) in
      let e = c.grown-some.ensures.is (nodes t) (vanishes t) w.vanish one k.some_vanish h.nodes_are h.vanishes_are k.vanish in
      let d = c.grown-all.ensures.is (nodes t + vanishes t * (w.vanish - 1)) (goes t) w.go some k.some_go e h.goes_are k.go in
      d ∙ ap capped (sym (up_to_first w k.other k.some_vanish k.some_go t));
}

pub loop-exception-preserved : goal.loop-exception-preserved
loop-exception-preserved c = record {
  weight = c.with_raised-all.ensures.weight;
  is = λ kinds w k.
      let t = offers_of kinds (begun c.args.is_fresh c.args.part.now.value) in
      let i = c.loop-exception.exception in
      let some = k.some_raise i in
      let next : i + 1 ≡ suc i = omega arith in
      c.with_raised-all.ensures.is kinds (tree_weight (up_to i w) t) (w.raise i) (context_up_to _ _ _ w k i t) some (c.loop-exception.invariant.is kinds w k) (context_at _ _ _ w k i c.loop-exception-test.true)
      ∙ ap capped (sym (up_to_more w i some t))
      ∙ ap (λ n. capped (tree_weight (up_to n w) t)) (sym next);
}

pub returns-clause-is : goal.returns-clause-is
returns-clause-is c = λ kinds w k.
    let t = offers_of kinds (begun c.args.is_fresh c.args.part.now.value) in
    let n = length c.args.weights.now in
    let all : c.loop-exception.exception ≡ n = omega (arith, c.loop-exception-test.false, c.loop-exception.auto.exception-end) in
    c.loop-exception.invariant.is kinds w k
    ∙ ap (λ i. capped (tree_weight (up_to i w) t)) all
    ∙ ap capped (up_to_all w n (context_beyond _ _ _ w k) t)
