use Rattle.std.proofs.Common.{◌≡◌, ◌≤◌, rules, true, false, ap, sym, ◌∙◌, length}
use Rattle.lt_expand.specs.inner.Firsts.{first}
use Rattle.lt_expand.specs.inner.Judged.{kinds}
use Rattle.lt_expand.proofs.Refused.{drawn_at, drawn_each, drawn_one, found_at, known_one, none_at, none_of_all}
use Rattle.lt_expand.proofs.places.first_controllable.Goals as goal

pub returns-then-not-judge_expression : goal.returns-then-not-judge_expression
returns-then-not-judge_expression c =
    let ks = kinds c.args.over.now in
    let drawn : c.judge_expression.result.facts.is_known ≡ false = search rules in
    sym (ap first (drawn_each ks c.args.exprs.now)
    ∙ found_at (drawn_at ks) c.args.exprs.now c.loop-expr.expr-index c.expr-item.result c.place.result c.loop-expr-test.true c.expr-item.is c.loop-expr.invariant
    (drawn_one ks c.expr-item.result c.judge_expression.result c.place.result c.judge_expression.ensures drawn c.place.ensures))

pub loop-expr-preserved : goal.loop-expr-preserved
loop-expr-preserved c =
    let ks = kinds c.args.over.now in
    let known : c.judge_expression.result.facts.is_known ≡ true = search rules in
    none_at (drawn_at ks) c.args.exprs.now c.loop-expr.expr-index c.expr-item.result c.loop-expr-test.true c.expr-item.is c.loop-expr.invariant
    (known_one ks c.expr-item.result c.judge_expression.result c.judge_expression.ensures known)

pub returns : goal.returns
returns c =
    let ks = kinds c.args.over.now in
    let all : length c.args.exprs.now ≤ c.loop-expr.expr-index = search rules in
    sym (ap first (drawn_each ks c.args.exprs.now) ∙ none_of_all (drawn_at ks) c.args.exprs.now c.loop-expr.expr-index all c.loop-expr.invariant)
