use Rattle.std.proofs.Common.{◌≡◌, Some, map, length}
use Rattle.lt_ast.specs.inner.Lists.{arguments_of}
use Rattle.lt_ast.specs.View.{argument}
use Rattle.lt_types.specs.inner.Given.{argument_type}
use Rattle.lt_types.specs.Refusals.{arguments_misfit}
use Rattle.lt_types.specs.inner.Scoping.{param_view}
use Rattle.lt_types.proofs.uses.check_arguments_fit.Given as goal

abbrev pub invariant-loop-params : goal.invariant-loop-params
invariant-loop-params l =
    record {
      refusals : arguments_misfit l.scope (arguments_of (map argument l.fn.args)) (map param_view l.fn.params) ≡ arguments_misfit l.scope (arguments_of (map argument l.args)) (map param_view l.params);
      kinds : map Some l.kinds ≡ map (argument_type l.scope) (map argument l.args);
    }

abbrev pub decreases-loop-params : goal.decreases-loop-params
decreases-loop-params l = length l.params
