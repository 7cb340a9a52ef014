-- The parts of a tree that the code has, as its pure twin has them.
use Rattle.std.specs.Prelude.{Option, Some, None}
use Rattle.std.specs.declared.boxed.Box.{Box}
use Rattle.std.specs.declared.alloc.Global.{Global}
use Rattle.lt_ast.specs.declared.expr.Expr.{Expr}
use Rattle.lt_ast.specs.declared.trace.TraceExpr.{TraceExpr}
use Rattle.lt_ast.specs.declared.trace.Part.{Part}
use Rattle.lt_ast.specs.declared.group.Group.{Group}
use Rattle.lt_ast.specs.Syntax as s
use Rattle.lt_ast.specs.Syntax.{Exp, MaybeExp, MaybeTrace}
use Rattle.lt_ast.specs.View.{words, exp, trace, written_range}

-- an expression, where there is one
abbrev pub maybe_exp : Option Expr → MaybeExp
maybe_exp None = s.no_exp
maybe_exp (Some e) = s.an_exp (exp e)

-- a trace, where there is one
abbrev pub maybe_trace : Option (Box TraceExpr Global) → MaybeTrace
maybe_trace None = s.no_trace
maybe_trace (Some t) = s.a_trace (trace t.value)

-- an alternative, with its weight where it has one
abbrev pub weighed : Option Expr → TraceExpr → s.Alternative
weighed None t = s.unweighted (trace t)
weighed (Some e) t = s.weighted (exp e) (trace t)

-- an alternative as the code has it
abbrev pub part_of : Part → s.Alternative
part_of p = weighed p.weight p.body

-- a group
abbrev pub group_of : Group → s.Grouping
group_of g = s.grouping (words g.names) g.kind g.by_ref (written_range g.range) (maybe_exp g.first)

-- an expression that is no operator between two operands
abbrev pub IsOperand : Exp → Type 0
IsOperand (s.binary op e f at) = ⊥
IsOperand e = Unit {0}
