use Rattle.std.proofs.Common.{◌<◌, ◌+◌, ◌*◌, ap, ◌∙◌, arith, rules}
use Rattle.lt_macros.specs.inner.Rows.{rows}
use Rattle.lt_macros.specs.Denotation.{as_expression}
use Rattle.lt_macros.specs.inner.Builder.{IsKept, work_at}
use Rattle.lt_macros.specs.inner.Phrase.{phrase_denotation}
use Rattle.lt_macros.specs.inner.Reading.{phrase_view, worked}
use Rattle.lt_macros.proofs.Building.{builds, enough, joined_expression, kept_both, kept_none, names_kept, number_form, ready_kept, same_back, seen_expression, work_kept}
use Rattle.lt_macros.proofs.expressions.+build_expr.Goals as goal

pub build_expr_form-returns-in-Number : goal.build_expr_form-returns-in-Number
build_expr_form-returns-in-Number t c =
    builds _ _ c.number_at.result _ (kept_none _)
    (number_form c.args.builder.now.decimals (rows c.args.builder.now.scope) c.args.form c.in-Number.literal c.number_at.result c.in-Number.is c.number_at.ensures)

pub build_expr-build_met-requires : goal.build_expr-build_met-requires
build_expr-build_met-requires t c =
    let kept : IsKept c.args.builder.now c.enter_expression.new.self = c.in_ok-enter_expression.ensures in
    let same = ap (λ names. worked.phrase names (phrase_view c.args.phrase)) (work_kept c.args.builder.now c.enter_expression.new.self c.args.environment kept) in
    let less : 5 * worked.phrase (work_at c.enter_expression.new.self c.args.environment) (phrase_view c.args.phrase) + 2 < 5 * worked.phrase (work_at c.args.builder.now c.args.environment) (phrase_view c.args.phrase) + 3 = omega (arith, same) in
    let ready = ready_kept _ _ _ kept c.requires in
    search (rules, less, ready)

pub build_expr-returns : goal.build_expr-returns
build_expr-returns t c =
    let kept : IsKept c.args.builder.now c.enter_expression.new.self = c.in_ok-enter_expression.ensures in
    record {
      made = c.in_ok-expr.ensures.made ∙ ap (λ names. as_expression (phrase_denotation names (phrase_view c.args.phrase))) (names_kept c.args.builder.now c.enter_expression.new.self c.args.environment kept);
      kept = kept_both _ _ _ kept (kept_both _ _ _ c.in_ok-expr.ensures.kept c.leave_to.ensures);
    }

pub build_met-returns : goal.build_met-returns
build_met-returns t c =
    record {
      made = c.in_ok-expr.ensures.made ∙ seen_expression _ _ (c.in_ok-form.ensures.denotation c.args.builder.now.decimals);
      kept =
          record {
            names = same_back _ _ _ _ _ c.in_ok-form.ensures.adds c.in_ok-expr.ensures.kept.names c.truncate.ensures.rows c.len-before.ensures;
            decimals = c.in_ok-expr.ensures.kept.decimals;
          };
    }

pub build_met-truncate-requires : goal.build_met-truncate-requires
build_met-truncate-requires t c = enough _ _ _ _ c.in_ok-form.ensures.adds c.in_ok-expr.ensures.kept.names c.len-before.ensures

-- traces that are joined mean nothing as an expression
pub build_expr_form-returns-in-Meaningless : goal.build_expr_form-returns-in-Meaningless
build_expr_form-returns-in-Meaningless t c = record { made = grind (arith, joined_expression); kept = kept_none _ }
