use Rattle.std.proofs.Common.{◌≡◌, List}
use Rattle.lt_num.specs.declared.kind.Kind.{Kind}
use Rattle.lt_walk.specs.inner.Context.{IsContext, IsWeight}
use Rattle.lt_walk.proofs.Contexts.{up_to}
use Rattle.lt_term.specs.Offers.{offers_of}
use Rattle.lt_term.specs.Size.{Weights, capped, tree_weight}
use Rattle.lt_marks.specs.View.{begun}
use Rattle.lt_walk.proofs.weighing.weigh.Given as goal

-- the exceptions so far weigh what is given for them
abbrev pub invariant-loop-exception : goal.invariant-loop-exception
invariant-loop-exception l = record {
  weight : IsWeight l.all;
  is : (kinds : List Kind) (w : Weights) → IsContext l.fn.leaf_weights.vanish l.fn.leaf_weights.go l.weights w →
      l.all ≡ capped (tree_weight (up_to l.exception w) (offers_of kinds (begun l.is_fresh l.part.value)));
}
