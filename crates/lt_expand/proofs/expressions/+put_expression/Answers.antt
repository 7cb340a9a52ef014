use Rattle.std.proofs.Common.{[], ◌++◌, ap, sym, ◌∙◌, nat_lt}
use Rattle.lt_formula.specs.Expression.{constant, variable, previous, unary, binary, choice}
use Rattle.lt_formula.specs.Shape.{built}
use Rattle.lt_formula.specs.Table.{expression_at, spelled}
use Rattle.lt_formula.specs.View.{table_expressions, table_len}
use Rattle.lt_macros.specs.Placed.{bare}
use Rattle.lt_macros.specs.Tree.{placed}
use Rattle.lt_term.specs.Named.{with_parts}
use Rattle.lt_expand.proofs.Filled.{filled_both, filled_none, pushed}
use Rattle.lt_expand.proofs.Grown.{number_kept}
use Rattle.lt_expand.proofs.expressions.+put_expression.Goals as goal

pub returns-in-Constant-clause-filled : goal.returns-in-Constant-clause-filled
returns-in-Constant-clause-filled t c =
    let old = table_expressions c.args.table.now in
    pushed c.push.result (λ n. nat_lt n (table_len c.args.table.now)) old old (table_expressions c.push.new.self) [] (with_parts (bare (placed c.args.written.now)))
    (constant c.in-Constant.kind c.in-Constant.value) (expression_at old c.constant_node.result)
    (ap (λ w. with_parts (bare (placed w))) c.in-Constant.is) (ap (built (spelled old)) c.constant_node.ensures) (filled_none old) c.push.ensures.expressions

pub returns-in-Variable-clause-filled : goal.returns-in-Variable-clause-filled
returns-in-Variable-clause-filled t c =
    let old = table_expressions c.args.table.now in
    pushed c.push-in-Variable.result (λ n. nat_lt n (table_len c.args.table.now)) old old (table_expressions c.push-in-Variable.new.self) [] (with_parts (bare (placed c.args.written.now)))
    (variable c.in-Variable.role c.in-Variable.place) (expression_at old c.variable_node.result)
    (ap (λ w. with_parts (bare (placed w))) c.in-Variable.is) (ap (built (spelled old)) c.variable_node.ensures) (filled_none old) c.push-in-Variable.ensures.expressions

pub returns-in-Previous-clause-filled : goal.returns-in-Previous-clause-filled
returns-in-Previous-clause-filled t c =
    let old = table_expressions c.args.table.now in
    pushed c.push-in-Previous.result (λ n. nat_lt n (table_len c.args.table.now)) old old (table_expressions c.push-in-Previous.new.self) [] (with_parts (bare (placed c.args.written.now)))
    (previous c.in-Previous.role c.in-Previous.place) (expression_at old c.previous_node.result)
    (ap (λ w. with_parts (bare (placed w))) c.in-Previous.is) (ap (built (spelled old)) c.previous_node.ensures) (filled_none old) c.push-in-Previous.ensures.expressions

pub returns-in_ok-part-in-Unary-clause-filled : goal.returns-in_ok-part-in-Unary-clause-filled
returns-in_ok-part-in-Unary-clause-filled t c =
    let mid = table_expressions c.put_expression.new.table in
    let part = bare (placed c.deref.result.now) in
    pushed c.push-in-Unary.result (λ n. nat_lt n (table_len c.put_expression.new.table)) (table_expressions c.args.table.now) mid (table_expressions c.push-in-Unary.new.self) (with_parts part)
    (with_parts (bare (placed c.args.written.now)))
    (unary c.in-Unary.operator part) (expression_at mid c.unary_node.result)
    (ap (λ w. with_parts (bare (placed w))) c.in-Unary.is ∙ (λ i. with_parts (unary c.in-Unary.operator (bare (placed (sym c.deref.ensures i))))))
    (ap (built (spelled mid)) c.unary_node.ensures ∙ ap (unary c.in-Unary.operator) c.in_ok-part-in-Unary.ensures.number.spells)
    c.in_ok-part-in-Unary.ensures.filled c.push-in-Unary.ensures.expressions

pub returns-in_ok-right-in-Binary-clause-filled : goal.returns-in_ok-right-in-Binary-clause-filled
returns-in_ok-right-in-Binary-clause-filled t c =
    let first = table_expressions c.put_expression-in-Binary.new.table in
    let mid = table_expressions c.put_expression-in-Binary-2.new.table in
    let left = bare (placed c.deref-in-Binary.result.now) in
    let right = bare (placed c.deref-in-Binary-2.result.now) in
    let kept = number_kept first mid _ left c.in_ok-right-in-Binary.ensures.grown.keeps c.in_ok-left-in-Binary.ensures.number in
    pushed c.push-in-Binary.result (λ n. nat_lt n (table_len c.put_expression-in-Binary-2.new.table)) (table_expressions c.args.table.now) mid (table_expressions c.push-in-Binary.new.self)
    (with_parts left ++ with_parts right) (with_parts (bare (placed c.args.written.now)))
    (binary c.in-Binary.operator left right) (expression_at mid c.binary_node.result)
    (ap (λ w. with_parts (bare (placed w))) c.in-Binary.is ∙ (λ i. with_parts (binary c.in-Binary.operator (bare (placed (sym c.deref-in-Binary.ensures i))) (bare (placed (sym c.deref-in-Binary-2.ensures i))))))
    (ap (built (spelled mid)) c.binary_node.ensures ∙ (λ i. binary c.in-Binary.operator (kept.spells i) (c.in_ok-right-in-Binary.ensures.number.spells i)))
    (filled_both (table_expressions c.args.table.now) first mid (with_parts left) (with_parts right) c.in_ok-left-in-Binary.ensures.filled c.in_ok-right-in-Binary.ensures.filled)
    c.push-in-Binary.ensures.expressions

pub returns-in_ok-second-in-Choice-clause-filled : goal.returns-in_ok-second-in-Choice-clause-filled
returns-in_ok-second-in-Choice-clause-filled t c =
    let old = table_expressions c.args.table.now in
    let first = table_expressions c.put_expression-in-Choice.new.table in
    let next = table_expressions c.put_expression-in-Choice-2.new.table in
    let mid = table_expressions c.put_expression-in-Choice-3.new.table in
    let test = bare (placed c.deref-in-Choice.result.now) in
    let yes = bare (placed c.deref-in-Choice-2.result.now) in
    let no = bare (placed c.deref-in-Choice-3.result.now) in
    let later = c.in_ok-second-in-Choice.ensures.grown.keeps in
    let tested = number_kept next mid _ test later (number_kept first next _ test c.in_ok-first-in-Choice.ensures.grown.keeps c.in_ok-condition-in-Choice.ensures.number) in
    let kept = number_kept next mid _ yes later c.in_ok-first-in-Choice.ensures.number in
    pushed c.push-in-Choice.result (λ n. nat_lt n (table_len c.put_expression-in-Choice-3.new.table)) old mid (table_expressions c.push-in-Choice.new.self)
    (with_parts test ++ (with_parts yes ++ with_parts no)) (with_parts (bare (placed c.args.written.now)))
    (choice test yes no) (choice (spelled mid c.in_ok-condition-in-Choice.condition) (spelled mid c.in_ok-first-in-Choice.first) (spelled mid c.in_ok-second-in-Choice.second))
    (ap (λ w. with_parts (bare (placed w))) c.in-Choice.is
    ∙ (λ i. with_parts (choice (bare (placed (sym c.deref-in-Choice.ensures i))) (bare (placed (sym c.deref-in-Choice-2.ensures i))) (bare (placed (sym c.deref-in-Choice-3.ensures i))))))
    (λ i. choice (tested.spells i) (kept.spells i) (c.in_ok-second-in-Choice.ensures.number.spells i))
    (filled_both old first mid (with_parts test) (with_parts yes ++ with_parts no) c.in_ok-condition-in-Choice.ensures.filled
    (filled_both first next mid (with_parts yes) (with_parts no) c.in_ok-first-in-Choice.ensures.filled c.in_ok-second-in-Choice.ensures.filled))
    c.push-in-Choice.ensures.expressions
