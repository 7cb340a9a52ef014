use Rattle.std.proofs.Common.{◌≡◌, List}
use Rattle.lt_num.specs.declared.kind.Kind.{Kind}
use Rattle.lt_term.specs.UnfoldingView.{Grows, tree_of}
use Rattle.lt_term.specs.inner.Stages.{StageIsWithin, stage_effort, tree_of_stage}
use Rattle.lt_term.proofs.unfolding.Unfolding.unfold.Given as goal

abbrev pub invariant-loop-stage : goal.invariant-loop-stage
invariant-loop-stage l = record {
  tree : (kinds : List Kind) → tree_of_stage kinds l.self l.stage ≡ tree_of kinds l.fn.self l.fn.tree;
  within : StageIsWithin l.self l.stage;
  grows : Grows l.fn.self l.self;
}

abbrev pub decreases-loop-stage : goal.decreases-loop-stage
decreases-loop-stage l = stage_effort l.self l.stage
