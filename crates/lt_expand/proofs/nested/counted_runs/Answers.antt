use Rattle.std.proofs.Common.{◌≡◌, ◌∙◌, None, Some, min, rules, arith}
use Rattle.indexmap.specs.IndexMap.{get_by_text}
use Rattle.lt_ast.specs.View.{run}
use Rattle.lt_expand.specs.Nested.{count_of}
use Rattle.lt_expand.proofs.Counting.{counted_taken, found_none, found_some}
use Rattle.lt_expand.proofs.nested.counted_runs.Goals as goal
use Rattle.lt_expand.proofs.nested.counted_runs.Goals.{in-Some, in-None}

pub loop-declared-preserved : goal.loop-declared-preserved
loop-declared-preserved c =
    let next = c.capped-sum.ensures in (
      omega (arith, next),
      λ known tells.
          let q = (run c.declared-item.result).node.text in
          let more : c.match-get.more ≡ min (count_of known (run c.declared-item.result).node.text) 17 = elim c.match-get.branch [
            | in-Some w ↦ (let e : get_by_text c.args.nodes.now q ≡ Some w.in-Some.nested.now = search rules in
                found_some (get_by_text c.args.nodes.now q) w.in-Some.nested.now (count_of known q) c.match-get.more e (tells q) (w.more-is ∙ w.min-more.ensures))
            | in-None w ↦ (let e : get_by_text c.args.nodes.now q ≡ None = search rules in
                found_none (get_by_text c.args.nodes.now q) (count_of known q) c.match-get.more e (tells q) w.more-is)
          ] in
          counted_taken known c.args.runs.now c.loop-declared.declared-index c.declared-item.result c.loop-declared.sum c.match-get.more c.capped-sum.result c.loop-declared-test.true c.declared-item.is
          (c.loop-declared.invariant.1 known tells) more next,
    )
