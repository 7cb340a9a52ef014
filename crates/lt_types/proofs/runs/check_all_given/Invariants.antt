use Rattle.std.proofs.Common.{◌≡◌, Some, map, length}
use Rattle.lt_ast.specs.View.{exp}
use Rattle.lt_types.specs.Refusals.{all_given_misfit, type_of}
use Rattle.lt_types.specs.inner.Scoping.{input_view}
use Rattle.lt_types.proofs.runs.check_all_given.Given as goal

-- what is left breaks the rules that all of it does
abbrev pub invariant-loop-inputs : goal.invariant-loop-inputs
invariant-loop-inputs l =
    record {
      refusals : all_given_misfit l.scope (map exp l.fn.exprs) (map input_view l.fn.inputs) ≡ all_given_misfit l.scope (map exp l.exprs) (map input_view l.inputs);
      kinds : map Some l.kinds ≡ map (type_of l.scope) (map exp l.exprs);
    }

abbrev pub decreases-loop-inputs : goal.decreases-loop-inputs
decreases-loop-inputs l = length l.inputs
