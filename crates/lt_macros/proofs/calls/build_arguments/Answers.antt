use Rattle.std.proofs.Common.{◌≡◌, ◌<◌, length, map, ap, ◌∙◌, arith}
use Rattle.std.proofs.lemmas.List.{take_all}
use Rattle.lt_ast.specs.View.{exp}
use Rattle.lt_ast.specs.declared.expr.Expr.{Expr}
use Rattle.lt_macros.specs.Placed.{Placed}
use Rattle.lt_macros.specs.Denotation.{as_expression, exp_denotation}
use Rattle.lt_macros.specs.Tree.{placed}
use Rattle.lt_macros.specs.inner.Builder.{value_at}
use Rattle.lt_macros.proofs.Building.{kept_both, names_kept, ready_kept}
use Rattle.lt_macros.proofs.Runs.{expression_pushed}
use Rattle.lt_macros.proofs.calls.build_arguments.Goals as goal

pub build_expr-requires : goal.build_expr-requires
build_expr-requires c = ready_kept _ _ _ c.loop-expr.invariant.kept c.requires

pub loop-expr-preserved : goal.loop-expr-preserved
loop-expr-preserved c =
    let value : Expr → Placed = λ e. value_at c.args.builder.now c.args.environment (exp e) in
    let more : c.loop-expr.expr-index < length c.args.exprs.now = omega (arith, c.loop-expr-test.true, c.loop-expr.auto.expr-index-end) in
    let made : placed c.in_ok-argument.argument ≡ value c.expr-item.result =
    c.in_ok-argument.ensures.made ∙ ap (λ env. as_expression (exp_denotation env (exp c.expr-item.result))) (names_kept c.args.builder.now c.loop-expr.builder c.args.environment c.loop-expr.invariant.kept) in
    record {
      made = expression_pushed value c.args.exprs.now c.loop-expr.expr-index c.expr-item.result c.loop-expr.arguments.items c.push.new.self.items c.in_ok-argument.argument more c.expr-item.is c.in_ok-push.ensures.items made c.loop-expr.invariant.made;
      kept = kept_both _ _ _ c.loop-expr.invariant.kept c.in_ok-argument.ensures.kept;
    }

pub returns : goal.returns
returns c =
    let value : Expr → Placed = λ e. value_at c.args.builder.now c.args.environment (exp e) in
    record {
      made = c.loop-expr.invariant.made ∙ ap (map value) (take_all c.loop-expr.expr-index c.args.exprs.now c.loop-expr-test.false);
      kept = c.loop-expr.invariant.kept;
    }
