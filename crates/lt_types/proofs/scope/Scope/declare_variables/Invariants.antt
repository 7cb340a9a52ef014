use Rattle.std.proofs.Common.{◌≡◌, drop, length}
use Rattle.lt_ast.specs.View.{words}
use Rattle.lt_types.specs.Environment.{with_variables}
use Rattle.lt_types.proofs.scope.Scope.declare_variables.Given as goal

-- what is left, after what is there, is all
abbrev pub invariant-loop-name : goal.invariant-loop-name
invariant-loop-name l =
    record l.self { names = with_variables (drop (length l.yielded) (words l.names)) (drop (length l.yielded) l.kinds) l.self.names }
    ≡ record l.fn.self { names = with_variables (words l.names) l.kinds l.fn.self.names }
