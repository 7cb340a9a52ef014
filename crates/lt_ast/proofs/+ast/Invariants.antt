use Rattle.std.proofs.Common.{◌≤◌}
use Rattle.lt_ast.specs.declared.expr.Expr.{size-Expr}
use Rattle.lt_ast.proofs.+ast.Given as goal

-- what is left to drop is no deeper than the whole
abbrev pub invariant-expr::Expr::drop-loop-self : goal.invariant-expr::Expr::drop-loop-self
invariant-expr::Expr::drop-loop-self l = size-Expr l.self ≤ size-Expr l.initial.self
