use Rattle.std.proofs.Common.{◌≡◌, ◌<◌, Err, true, false, ap, sym, ◌∙◌, arith, refl, rules, of_z, to_z, w64, pos, None, Result, IsTrue, subst}
use Rattle.std.proofs.lemmas.Int.{to_z-of_z}
use Rattle.lt_num.specs.Value.{is_true, raw_of}
use Rattle.lt_num.specs.declared.fault.Arith.{Arith}
use Rattle.lt_num.specs.declared.value.Value.{Value}
use Rattle.lt_formula.specs.Facts.{is_known_role}
use Rattle.lt_formula.specs.Table.{spelled}
use Rattle.lt_formula.specs.Valuation.{value_under}
use Rattle.lt_formula.specs.View.{table_expressions, table_kinds, valuation_of_known}
use Rattle.lt_formula.specs.declared.facts.Facts.{Facts}
use Rattle.lt_formula.specs.declared.operator.BinaryOperator.TheVariants as two
use Rattle.lt_linear.specs.Form.{constant_form, form_difference, form_divided, form_scaled, form_sum, is_raw, variable_form}
use Rattle.lt_linear.specs.declared.form.Form.{Form}
use Rattle.lt_space.specs.Meaning.{after, decimals_of, form_times, is_known, kind_of}
use Rattle.lt_space.specs.inner.Kept.{number_at}
use Rattle.lt_space.specs.inner.Measures.{form_due, measured, numbers_in}
use Rattle.lt_space.specs.inner.Place.{form_at}
use Rattle.lt_space.proofs.FormSteps.{binary_is, binary_known, choice_fails, choice_is, chosen, fault_gives, gives_is, known_first, known_of, known_times, later_fails, one_put, part_fails, place_once, place_twice, power_raw, times_known, two_put, variable_told}
use Rattle.lt_space.proofs.Measurings.{found_given, keep_given, large_same, number_small, part_gives, place_of, put_given}
use Rattle.lt_space.proofs.Shapes.{chosen_below, leaf_known, part_below, parts_below}
use Rattle.lt_space.proofs.Tellings.{form_binary, form_known, form_unary}
use Rattle.lt_space.proofs.measuring.+measure.Goals as goal

pub binary_form-measure-requires : goal.binary_form-measure-requires
binary_form-measure-requires t c = (omega (arith, c.decreases, c.requires.left), (omega (arith, c.requires.left, c.requires.ready.within), (c.requires.few, (c.requires.decimals, c.requires.ready.ready))))

pub binary_form-returns-in_err-first-in-Add : goal.binary_form-returns-in_err-first-in-Add
binary_form-returns-in_err-first-in-Add t c =
    let v = valuation_of_known c.args.known.now in
    let table = c.args.table.now in
    let is : c.from_residual.result ≡ Err c.in_err-first-in-Add.field-0.0 = search rules in
    part_fails _ _ _ _ _ _ (λ x. after (form_due v table c.args.right) (form_sum x)) _ _ _ _ is c.in_err-first-in-Add.ensures
    (binary_is v table two.Add c.args.operator c.args.left c.args.right c.in-Add.is)

pub binary_form-measure-requires-in-Add : goal.binary_form-measure-requires-in-Add
binary_form-measure-requires-in-Add t c = (omega (arith, c.decreases, c.requires.right), (omega (arith, c.requires.right, c.requires.ready.within), (c.requires.few, (c.requires.decimals, record { right = c.in_ok-first-in-Add.ensures.right; room = c.in_ok-first-in-Add.ensures.room }))))

pub binary_form-returns-in_err-second-in-Add : goal.binary_form-returns-in_err-second-in-Add
binary_form-returns-in_err-second-in-Add t c =
    let v = valuation_of_known c.args.known.now in
    let table = c.args.table.now in
    let is : c.from_residual-in_err-second-in-Add.result ≡ Err c.in_err-second-in-Add.field-0.0 = search rules in
    later_fails _ _ _ _ _ _ _ _ form_sum _ _ _ _ _ _ is c.in_ok-first-in-Add.ensures c.in_err-second-in-Add.ensures.is c.in_err-second-in-Add.ensures.large
    (binary_is v table two.Add c.args.operator c.args.left c.args.right c.in-Add.is)

pub binary_form-put_sum-requires-clause-first : goal.binary_form-put_sum-requires-clause-first
binary_form-put_sum-requires-clause-first t c = omega (arith, c.in_ok-first-in-Add.ensures.stands.within, c.in_ok-second-in-Add.ensures.grows.more)

pub binary_form-put_sum-requires-clause-second : goal.binary_form-put_sum-requires-clause-second
binary_form-put_sum-requires-clause-second t c = c.in_ok-second-in-Add.ensures.stands.within

pub binary_form-put_sum-requires-clause-forms : goal.binary_form-put_sum-requires-clause-forms
binary_form-put_sum-requires-clause-forms t c = c.in_ok-second-in-Add.ensures.right.forms

pub binary_form-put_sum-requires-clause-place : goal.binary_form-put_sum-requires-clause-place
binary_form-put_sum-requires-clause-place t c =
    place_twice _ _ _ _ _ _ _ _ _ _ _ _ c.requires.ready c.in_ok-first-in-Add.ensures c.requires.left c.in_ok-second-in-Add.ensures c.requires.right

pub binary_form-returns-in_ok-second-in-Add : goal.binary_form-returns-in_ok-second-in-Add
binary_form-returns-in_ok-second-in-Add t c =
    let v = valuation_of_known c.args.known.now in
    let table = c.args.table.now in
    two_put _ _ _ _ _ _ _ _ _ _ form_sum _ _ _ _ _ c.requires.ready c.in_ok-first-in-Add.ensures c.requires.left c.in_ok-second-in-Add.ensures c.requires.right c.put_sum.ensures
    (binary_is v table two.Add c.args.operator c.args.left c.args.right c.in-Add.is)

pub binary_form-measure-requires-in-Sub : goal.binary_form-measure-requires-in-Sub
binary_form-measure-requires-in-Sub t c = (omega (arith, c.decreases, c.requires.left), (omega (arith, c.requires.left, c.requires.ready.within), (c.requires.few, (c.requires.decimals, c.requires.ready.ready))))

pub binary_form-returns-in_err-first-in-Sub : goal.binary_form-returns-in_err-first-in-Sub
binary_form-returns-in_err-first-in-Sub t c =
    let v = valuation_of_known c.args.known.now in
    let table = c.args.table.now in
    let is : c.from_residual-in_err-first-in-Sub.result ≡ Err c.in_err-first-in-Sub.field-0.0 = search rules in
    part_fails _ _ _ _ _ _ (λ x. after (form_due v table c.args.right) (form_difference x)) _ _ _ _ is c.in_err-first-in-Sub.ensures
    (binary_is v table two.Sub c.args.operator c.args.left c.args.right c.in-Sub.is)

pub binary_form-measure-requires-in-Sub-2 : goal.binary_form-measure-requires-in-Sub-2
binary_form-measure-requires-in-Sub-2 t c = (omega (arith, c.decreases, c.requires.right), (omega (arith, c.requires.right, c.requires.ready.within), (c.requires.few, (c.requires.decimals, record { right = c.in_ok-first-in-Sub.ensures.right; room = c.in_ok-first-in-Sub.ensures.room }))))

pub binary_form-returns-in_err-second-in-Sub : goal.binary_form-returns-in_err-second-in-Sub
binary_form-returns-in_err-second-in-Sub t c =
    let v = valuation_of_known c.args.known.now in
    let table = c.args.table.now in
    let is : c.from_residual-in_err-second-in-Sub.result ≡ Err c.in_err-second-in-Sub.field-0.0 = search rules in
    later_fails _ _ _ _ _ _ _ _ form_difference _ _ _ _ _ _ is c.in_ok-first-in-Sub.ensures c.in_err-second-in-Sub.ensures.is c.in_err-second-in-Sub.ensures.large
    (binary_is v table two.Sub c.args.operator c.args.left c.args.right c.in-Sub.is)

pub binary_form-put_difference-requires-clause-first : goal.binary_form-put_difference-requires-clause-first
binary_form-put_difference-requires-clause-first t c = omega (arith, c.in_ok-first-in-Sub.ensures.stands.within, c.in_ok-second-in-Sub.ensures.grows.more)

pub binary_form-put_difference-requires-clause-second : goal.binary_form-put_difference-requires-clause-second
binary_form-put_difference-requires-clause-second t c = c.in_ok-second-in-Sub.ensures.stands.within

pub binary_form-put_difference-requires-clause-forms : goal.binary_form-put_difference-requires-clause-forms
binary_form-put_difference-requires-clause-forms t c = c.in_ok-second-in-Sub.ensures.right.forms

pub binary_form-put_difference-requires-clause-place : goal.binary_form-put_difference-requires-clause-place
binary_form-put_difference-requires-clause-place t c =
    place_twice _ _ _ _ _ _ _ _ _ _ _ _ c.requires.ready c.in_ok-first-in-Sub.ensures c.requires.left c.in_ok-second-in-Sub.ensures c.requires.right

pub binary_form-returns-in_ok-second-in-Sub : goal.binary_form-returns-in_ok-second-in-Sub
binary_form-returns-in_ok-second-in-Sub t c =
    let v = valuation_of_known c.args.known.now in
    let table = c.args.table.now in
    two_put _ _ _ _ _ _ _ _ _ _ form_difference _ _ _ _ _ c.requires.ready c.in_ok-first-in-Sub.ensures c.requires.left c.in_ok-second-in-Sub.ensures c.requires.right
    c.put_difference.ensures (binary_is v table two.Sub c.args.operator c.args.left c.args.right c.in-Sub.is)

pub binary_form-product_form-requires : goal.binary_form-product_form-requires
binary_form-product_form-requires t c = (omega (arith, c.decreases), (c.requires.left, (c.requires.right, (c.requires.few, (c.requires.decimals, c.requires.ready)))))

pub binary_form-returns-in-Mul : goal.binary_form-returns-in-Mul
binary_form-returns-in-Mul t c =
    let v = valuation_of_known c.args.known.now in
    let table = c.args.table.now in
    gives_is _ _ _ _ _ _ _ _ _ (binary_is v table two.Mul c.args.operator c.args.left c.args.right c.in-Mul.is) c.product_form.ensures

pub binary_form-measure-requires-in-Div : goal.binary_form-measure-requires-in-Div
binary_form-measure-requires-in-Div t c = (omega (arith, c.decreases, c.requires.left), (omega (arith, c.requires.left, c.requires.ready.within), (c.requires.few, (c.requires.decimals, c.requires.ready.ready))))

pub binary_form-returns-in_err-form-in-Div : goal.binary_form-returns-in_err-form-in-Div
binary_form-returns-in_err-form-in-Div t c =
    let v = valuation_of_known c.args.known.now in
    let table = c.args.table.now in
    let is : c.from_residual-in_err-form-in-Div.result ≡ Err c.in_err-form-in-Div.field-0.0 = search rules in
    part_fails _ _ _ _ _ _ (λ x. after (value_under v (table_kinds table) (spelled (table_expressions table) c.args.right)) (λ (by : Value). form_divided x (raw_of by) v.decimals)) _ _ _ _
    is c.in_err-form-in-Div.ensures (binary_is v table two.Div c.args.operator c.args.left c.args.right c.in-Div.is)

pub binary_form-known_value-requires-clause-within : goal.binary_form-known_value-requires-clause-within
binary_form-known_value-requires-clause-within t c = omega (arith, c.requires.right, c.requires.ready.within)

pub binary_form-returns-in_err-by-in-Div : goal.binary_form-returns-in_err-by-in-Div
binary_form-returns-in_err-by-in-Div t c =
    let v = valuation_of_known c.args.known.now in
    let table = c.args.table.now in
    let is : c.from_residual-in_err-by-in-Div.result ≡ Err c.in_err-by-in-Div.field-0.0 = search rules in
    later_fails _ _ _ _ _ _ _ _ (λ x (by : Value). form_divided x (raw_of by) v.decimals) _ _ _ _ _ _ is c.in_ok-form-in-Div.ensures c.in_err-by-in-Div.ensures
    (large_same c.measure-in-Div.new.measures) (binary_is v table two.Div c.args.operator c.args.left c.args.right c.in-Div.is)

pub binary_form-put_quotient-requires-clause-first : goal.binary_form-put_quotient-requires-clause-first
binary_form-put_quotient-requires-clause-first t c = c.in_ok-form-in-Div.ensures.stands.within

pub binary_form-put_quotient-requires-clause-forms : goal.binary_form-put_quotient-requires-clause-forms
binary_form-put_quotient-requires-clause-forms t c = c.in_ok-form-in-Div.ensures.right.forms

pub binary_form-put_quotient-requires-clause-place : goal.binary_form-put_quotient-requires-clause-place
binary_form-put_quotient-requires-clause-place t c =
    place_once _ _ _ _ _ _ _ _ c.requires.ready c.in_ok-form-in-Div.ensures c.requires.left

pub binary_form-returns-in_ok-by-in-Div : goal.binary_form-returns-in_ok-by-in-Div
binary_form-returns-in_ok-by-in-Div t c =
    let v = valuation_of_known c.args.known.now in
    let table = c.args.table.now in
    let read : to_z w64 (of_z w64 c.raw.result) ≡ c.raw.result = search (rules, to_z-of_z) in
    let same : to_z w64 (of_z w64 c.raw.result) ≡ raw_of c.in_ok-by-in-Div.by = read ∙ c.raw.ensures in
    let form = form_at (measured c.measure-in-Div.new.measures) c.in_ok-form-in-Div.form in
    let told = ap (λ (w : Result Value Arith). after w (λ (by : Value). form_divided form (raw_of by) v.decimals)) c.in_ok-by-in-Div.ensures in
    one_put _ _ _ _ _ _ (form_divided form (to_z w64 (of_z w64 c.raw.result)) v.decimals) _
    (λ x. after (value_under v (table_kinds table) (spelled (table_expressions table) c.args.right)) (λ (by : Value). form_divided x (raw_of by) v.decimals)) _ _ _ _ c.requires.ready
    c.in_ok-form-in-Div.ensures c.requires.left c.put_quotient.ensures (ap (λ raw. form_divided form raw v.decimals) same ∙ told)
    (binary_is v table two.Div c.args.operator c.args.left c.args.right c.in-Div.is)

pub binary_form-known_form-requires : goal.binary_form-known_form-requires
binary_form-known_form-requires t c = record { within = c.requires.ready.within; decimals = c.requires.decimals; ready = c.requires.ready }

pub binary_form-returns-in_default : goal.binary_form-returns-in_default
binary_form-returns-in_default t c =
    let v = valuation_of_known c.args.known.now in
    let table = c.args.table.now in
    let kinds = table_kinds table in
    let x = spelled (table_expressions table) c.args.exp in
    gives_is _ _ _ _ _ _ _ _ _
    (binary_known v kinds c.args.operator x (spelled (table_expressions table) c.args.left) (spelled (table_expressions table) c.args.right) (form_due v table c.args.left) (form_due v table c.args.right) c.in_default.not-Add c.in_default.not-Sub c.in_default.not-Mul c.in_default.not-Div c.requires.spells)
    c.known_form.ensures

pub evaluate-returns-then-facts : goal.evaluate-returns-then-facts
evaluate-returns-then-facts t c =
    let v = valuation_of_known c.args.known.now in
    let table = c.args.table.now in
    let kinds = table_kinds table in
    let x = spelled (table_expressions table) c.args.exp in
    let known = known_of table c.args.exp _ _ c.facts.ensures c.if-facts.true in
    gives_is _ _ _ _ _ _ _ _ _ (sym (form_known v kinds x known)) c.known_form.ensures

pub evaluate-returns-in-Constant : goal.evaluate-returns-in-Constant
evaluate-returns-in-Constant t c =
    let v = valuation_of_known c.args.known.now in
    let table = c.args.table.now in
    let kinds = table_kinds table in
    let x = spelled (table_expressions table) c.args.exp in
    let known : is_known kinds x ≡ true = ap (is_known kinds) c.shape.ensures.spells ∙ leaf_known kinds (spelled (table_expressions table)) c.shape.result c.in-Constant.is in
    gives_is _ _ _ _ _ _ _ _ _ (sym (form_known v kinds x known)) c.known_form-in-Constant.ensures

pub evaluate-power_of_ten-coefficient-requires : goal.evaluate-power_of_ten-coefficient-requires
evaluate-power_of_ten-coefficient-requires t c = c.decimals_of.ensures.most

pub evaluate-number_of-requires-clause-fits : goal.evaluate-number_of-requires-clause-fits
evaluate-number_of-requires-clause-fits t c = c.in-Variable.ensures.parts

pub evaluate-put_variable-requires-clause-variable : goal.evaluate-put_variable-requires-clause-variable
evaluate-put_variable-requires-clause-variable t c =
    let table = c.args.table.now in
    let kinds = table_kinds table in
    let unknown = known_of table c.args.exp _ _ c.facts.ensures c.if-facts.false in
    let free : is_known_role c.in-Variable.role ≡ false = sym (ap (is_known kinds) c.in-Variable.ensures.spells) ∙ unknown in
    omega (arith, c.number_of.ensures, number_small kinds c.in-Variable.role c.in-Variable.place c.in-Variable.ensures.parts free, c.requires.ready.ready.right.variables)

pub evaluate-put_variable-requires-clause-raw : goal.evaluate-put_variable-requires-clause-raw
evaluate-put_variable-requires-clause-raw t c =
    let read : to_z w64 (of_z w64 c.power_of_ten-coefficient.result) ≡ c.power_of_ten-coefficient.result = search (rules, to_z-of_z) in
    subst (λ z. IsTrue (is_raw z)) (sym read) (power_raw c.power_of_ten-coefficient.result c.power_of_ten-coefficient.ensures.most)

pub evaluate-put_variable-requires-clause-place : goal.evaluate-put_variable-requires-clause-place
evaluate-put_variable-requires-clause-place t c = place_of _ _ _ _ c.requires.ready

pub evaluate-returns-in-Variable : goal.evaluate-returns-in-Variable
evaluate-returns-in-Variable t c =
    let v = valuation_of_known c.args.known.now in
    let table = c.args.table.now in
    let kinds = table_kinds table in
    let x = spelled (table_expressions table) c.args.exp in
    let unknown = known_of table c.args.exp _ _ c.facts.ensures c.if-facts.false in
    let read : to_z w64 (of_z w64 c.power_of_ten-coefficient.result) ≡ c.power_of_ten-coefficient.result = search (rules, to_z-of_z) in
    let coefficient = to_z w64 (of_z w64 c.power_of_ten-coefficient.result) in
    let told = variable_told v kinds x c.in-Variable.role c.in-Variable.place c.number_of.result c.decimals_of.result coefficient c.facts-kind.result.kind c.in-Variable.ensures.spells unknown c.number_of.ensures (read ∙ c.power_of_ten-coefficient.ensures.value) c.decimals_of.ensures.value (ap (λ (f : Facts). f.kind) c.facts-kind.ensures) in
    put_given _ _ _ _ _ _ (variable_form c.number_of.result coefficient) _ c.requires.ready told c.put_variable.ensures

pub evaluate-measure-requires : goal.evaluate-measure-requires
evaluate-measure-requires t c =
    let below : c.in-Unary.part < c.args.exp = part_below (table_kinds c.args.table.now) c.args.exp c.in-Unary.field-0 c.in-Unary.part c.in-Unary.ensures.parts in
    (omega (arith, c.decreases, below), (omega (arith, below, c.requires.within), (c.requires.few, (c.requires.decimals, c.requires.ready.ready))))

pub evaluate-returns-in_err-form-in-Unary : goal.evaluate-returns-in_err-form-in-Unary
evaluate-returns-in_err-form-in-Unary t c =
    let v = valuation_of_known c.args.known.now in
    let table = c.args.table.now in
    let kinds = table_kinds table in
    let x = spelled (table_expressions table) c.args.exp in
    let unknown = known_of table c.args.exp _ _ c.facts.ensures c.if-facts.false in
    let is : c.from_residual.result ≡ Err c.in_err-form-in-Unary.field-0.0 = search rules in
    part_fails _ _ _ _ _ _ (form_difference (constant_form (pos 0))) _ _ _ _ is c.in_err-form-in-Unary.ensures
    (sym (form_unary v kinds x c.in-Unary.field-0 (spelled (table_expressions table) c.in-Unary.part) c.in-Unary.ensures.spells unknown))

pub evaluate-put_negative-requires-clause-first : goal.evaluate-put_negative-requires-clause-first
evaluate-put_negative-requires-clause-first t c = c.in_ok-form-in-Unary.ensures.stands.within

pub evaluate-put_negative-requires-clause-forms : goal.evaluate-put_negative-requires-clause-forms
evaluate-put_negative-requires-clause-forms t c = c.in_ok-form-in-Unary.ensures.right.forms

pub evaluate-put_negative-requires-clause-place : goal.evaluate-put_negative-requires-clause-place
evaluate-put_negative-requires-clause-place t c =
    place_once _ _ _ _ _ _ _ _ c.requires.ready c.in_ok-form-in-Unary.ensures
    (part_below (table_kinds c.args.table.now) c.args.exp c.in-Unary.field-0 c.in-Unary.part c.in-Unary.ensures.parts)

pub evaluate-returns-in_ok-form-in-Unary : goal.evaluate-returns-in_ok-form-in-Unary
evaluate-returns-in_ok-form-in-Unary t c =
    let v = valuation_of_known c.args.known.now in
    let table = c.args.table.now in
    let kinds = table_kinds table in
    let x = spelled (table_expressions table) c.args.exp in
    let unknown = known_of table c.args.exp _ _ c.facts.ensures c.if-facts.false in
    let put = form_difference (constant_form (pos 0)) (form_at (measured c.measure.new.measures) c.in_ok-form-in-Unary.form) in
    one_put _ _ _ _ _ _ put _ (form_difference (constant_form (pos 0))) _ _ _ _ c.requires.ready c.in_ok-form-in-Unary.ensures
    (part_below (table_kinds c.args.table.now) c.args.exp c.in-Unary.field-0 c.in-Unary.part c.in-Unary.ensures.parts) c.put_negative.ensures refl
    (sym (form_unary v kinds x c.in-Unary.field-0 (spelled (table_expressions table) c.in-Unary.part) c.in-Unary.ensures.spells unknown))

pub evaluate-binary_form-requires : goal.evaluate-binary_form-requires
evaluate-binary_form-requires t c = (
  omega (arith, c.decreases),
  (
    (parts_below (table_kinds c.args.table.now) c.args.exp c.in-Binary.operator c.in-Binary.left c.in-Binary.right c.in-Binary.ensures.parts).0,
    ((parts_below (table_kinds c.args.table.now) c.args.exp c.in-Binary.operator c.in-Binary.left c.in-Binary.right c.in-Binary.ensures.parts).1, (c.in-Binary.ensures.spells, (c.requires.few, (c.requires.decimals, c.requires.ready)))),
  ),
)

pub evaluate-returns-in-Binary : goal.evaluate-returns-in-Binary
evaluate-returns-in-Binary t c =
    let v = valuation_of_known c.args.known.now in
    let table = c.args.table.now in
    let kinds = table_kinds table in
    let x = spelled (table_expressions table) c.args.exp in
    let unknown = known_of table c.args.exp _ _ c.facts.ensures c.if-facts.false in
    gives_is _ _ _ _ _ _ _ _ _
    (sym (form_binary v kinds x c.in-Binary.operator (spelled (table_expressions table) c.in-Binary.left) (spelled (table_expressions table) c.in-Binary.right) c.in-Binary.ensures.spells unknown))
    c.binary_form.ensures

pub evaluate-known_value-requires-clause-within : goal.evaluate-known_value-requires-clause-within
evaluate-known_value-requires-clause-within t c =
    let below : c.in-Choice.condition < c.args.exp = (chosen_below (table_kinds c.args.table.now) c.args.exp c.in-Choice.condition c.in-Choice.first c.in-Choice.second c.in-Choice.ensures.parts).0 in
    omega (arith, below, c.requires.within)

pub evaluate-returns-in_err-known_value-in-Choice : goal.evaluate-returns-in_err-known_value-in-Choice
evaluate-returns-in_err-known_value-in-Choice t c =
    let v = valuation_of_known c.args.known.now in
    let table = c.args.table.now in
    let fault = c.in_err-known_value-in-Choice.field-0.0 in
    let unknown = known_of table c.args.exp _ _ c.facts.ensures c.if-facts.false in
    let is : c.from_residual-in_err-known_value-in-Choice.result ≡ Err fault = search rules in
    let due = choice_fails v table c.args.exp c.in-Choice.condition c.in-Choice.first c.in-Choice.second fault c.in-Choice.ensures.spells unknown c.in_err-known_value-in-Choice.ensures in
    fault_gives _ _ _ _ _ _ _ _ _ is due (large_same c.args.measures.now)

pub evaluate-measure-requires-then-is_true : goal.evaluate-measure-requires-then-is_true
evaluate-measure-requires-then-is_true t c =
    let below : c.in-Choice.first < c.args.exp = (chosen_below (table_kinds c.args.table.now) c.args.exp c.in-Choice.condition c.in-Choice.first c.in-Choice.second c.in-Choice.ensures.parts).1 in
    (omega (arith, c.decreases, below), (omega (arith, below, c.requires.within), (c.requires.few, (c.requires.decimals, c.requires.ready.ready))))

pub evaluate-returns-then-is_true : goal.evaluate-returns-then-is_true
evaluate-returns-then-is_true t c =
    let v = valuation_of_known c.args.known.now in
    let table = c.args.table.now in
    let unknown = known_of table c.args.exp _ _ c.facts.ensures c.if-facts.false in
    let below : c.in-Choice.first < c.args.exp = (chosen_below (table_kinds table) c.args.exp c.in-Choice.condition c.in-Choice.first c.in-Choice.second c.in-Choice.ensures.parts).1 in
    let test : is_true c.in_ok-known_value-in-Choice.field-0 ≡ true = sym c.is_true.ensures ∙ c.if-is_true.true in
    let due = choice_is v table c.args.exp c.in-Choice.condition c.in-Choice.first c.in-Choice.second c.in_ok-known_value-in-Choice.field-0 c.in-Choice.ensures.spells unknown c.in_ok-known_value-in-Choice.ensures in
    part_gives _ _ _ _ _ _ _ _ _ c.measure-then-is_true.ensures (omega (arith, below)) (chosen _ true (form_due v table c.in-Choice.first) (form_due v table c.in-Choice.second) _ test due)

pub evaluate-measure-requires-else-is_true : goal.evaluate-measure-requires-else-is_true
evaluate-measure-requires-else-is_true t c =
    let below : c.in-Choice.second < c.args.exp = (chosen_below (table_kinds c.args.table.now) c.args.exp c.in-Choice.condition c.in-Choice.first c.in-Choice.second c.in-Choice.ensures.parts).2 in
    (omega (arith, c.decreases, below), (omega (arith, below, c.requires.within), (c.requires.few, (c.requires.decimals, c.requires.ready.ready))))

pub evaluate-returns-else-is_true : goal.evaluate-returns-else-is_true
evaluate-returns-else-is_true t c =
    let v = valuation_of_known c.args.known.now in
    let table = c.args.table.now in
    let unknown = known_of table c.args.exp _ _ c.facts.ensures c.if-facts.false in
    let below : c.in-Choice.second < c.args.exp = (chosen_below (table_kinds table) c.args.exp c.in-Choice.condition c.in-Choice.first c.in-Choice.second c.in-Choice.ensures.parts).2 in
    let test : is_true c.in_ok-known_value-in-Choice.field-0 ≡ false = sym c.is_true.ensures ∙ c.if-is_true.false in
    let due = choice_is v table c.args.exp c.in-Choice.condition c.in-Choice.first c.in-Choice.second c.in_ok-known_value-in-Choice.field-0 c.in-Choice.ensures.spells unknown c.in_ok-known_value-in-Choice.ensures in
    part_gives _ _ _ _ _ _ _ _ _ c.measure-else-is_true.ensures (omega (arith, below)) (chosen _ false (form_due v table c.in-Choice.first) (form_due v table c.in-Choice.second) _ test due)

pub measure-find-requires : goal.measure-find-requires
measure-find-requires t c = omega (arith, c.requires.within, c.requires.ready.right.len)

pub measure-returns-in-Some : goal.measure-returns-in-Some
measure-returns-in-Some t c = found_given _ _ _ _ _ c.requires.ready c.in-Some.ensures

pub measure-evaluate-requires : goal.measure-evaluate-requires
measure-evaluate-requires t c =
    let free : number_at (numbers_in c.args.measures.now) c.args.exp ≡ None = cc in
    (omega (arith, c.decreases), (c.requires.within, (c.requires.few, (c.requires.decimals, record { ready = c.requires.ready; within = c.requires.within; free = free }))))

pub measure-returns-in_err-form : goal.measure-returns-in_err-form
measure-returns-in_err-form t c =
    let is : c.from_residual.result ≡ Err c.in_err-form.field-0.0 = search rules in
    fault_gives _ _ _ _ _ _ _ _ _ is c.in_err-form.ensures.is c.in_err-form.ensures.large

pub measure-keep-requires : goal.measure-keep-requires
measure-keep-requires t c = omega (arith, c.requires.within, c.in_ok-form.ensures.right.len)

pub measure-returns : goal.measure-returns
measure-returns t c =
    let free : number_at (numbers_in c.args.measures.now) c.args.exp ≡ None = cc in
    keep_given _ _ _ _ _ _ _ (record { ready = c.requires.ready; within = c.requires.within; free = free }) c.in_ok-form.ensures c.keep.ensures

pub product_form-known_value-requires-clause-within : goal.product_form-known_value-requires-clause-within
product_form-known_value-requires-clause-within t c = omega (arith, c.requires.left, c.requires.ready.within)

pub product_form-returns-in_err-by : goal.product_form-returns-in_err-by
product_form-returns-in_err-by t c =
    let v = valuation_of_known c.args.known.now in
    let table = c.args.table.now in
    let kinds = table_kinds table in
    let x = spelled (table_expressions table) c.args.left in
    let known = known_of table c.args.left _ _ c.facts-facts.ensures c.if-facts.true in
    let is : c.from_residual.result ≡ Err c.in_err-by.field-0.0 = search rules in
    fault_gives _ _ _ _ _ _ _ _ _ is
    (ap (λ (w : Result Value Arith). after w (λ by. after (form_due v table c.args.right) (λ f. form_times (kind_of kinds x) v.decimals f (raw_of by)))) c.in_err-by.ensures ∙ known_times v table c.args.left c.args.right known)
    (large_same c.args.measures.now)

pub product_form-measure-requires : goal.product_form-measure-requires
product_form-measure-requires t c = (omega (arith, c.decreases, c.requires.right), (omega (arith, c.requires.right, c.requires.ready.within), (c.requires.few, (c.requires.decimals, c.requires.ready.ready))))

pub product_form-returns-in_err-form : goal.product_form-returns-in_err-form
product_form-returns-in_err-form t c =
    let v = valuation_of_known c.args.known.now in
    let table = c.args.table.now in
    let kinds = table_kinds table in
    let x = spelled (table_expressions table) c.args.left in
    let known = known_of table c.args.left _ _ c.facts-facts.ensures c.if-facts.true in
    let is : c.from_residual-in_err-form.result ≡ Err c.in_err-form.field-0.0 = search rules in
    part_fails _ _ _ _ _ _ (λ (f : Form). form_times (kind_of kinds x) v.decimals f (raw_of c.in_ok-by.by)) _ _ _ _ is c.in_err-form.ensures
    (known_first c.in_ok-by.by (value_under v kinds x) (form_due v table c.args.right) (λ (by : Value) (f : Form). form_times (kind_of kinds x) v.decimals f (raw_of by)) c.in_ok-by.ensures ∙ known_times v table c.args.left c.args.right known)

pub product_form-put_multiple-requires-clause-first : goal.product_form-put_multiple-requires-clause-first
product_form-put_multiple-requires-clause-first t c = c.in_ok-form.ensures.stands.within

pub product_form-put_multiple-requires-clause-decimals : goal.product_form-put_multiple-requires-clause-decimals
product_form-put_multiple-requires-clause-decimals t c = c.decimals_of-decimals.ensures.most

pub product_form-put_multiple-requires-clause-forms : goal.product_form-put_multiple-requires-clause-forms
product_form-put_multiple-requires-clause-forms t c = c.in_ok-form.ensures.right.forms

pub product_form-put_multiple-requires-clause-place : goal.product_form-put_multiple-requires-clause-place
product_form-put_multiple-requires-clause-place t c =
    place_once _ _ _ _ _ _ _ _ c.requires.ready c.in_ok-form.ensures c.requires.right

pub product_form-returns-in_ok-form : goal.product_form-returns-in_ok-form
product_form-returns-in_ok-form t c =
    let v = valuation_of_known c.args.known.now in
    let table = c.args.table.now in
    let kinds = table_kinds table in
    let x = spelled (table_expressions table) c.args.left in
    let known = known_of table c.args.left _ _ c.facts-facts.ensures c.if-facts.true in
    let read : to_z w64 (of_z w64 c.raw.result) ≡ c.raw.result = search (rules, to_z-of_z) in
    let same : to_z w64 (of_z w64 c.raw.result) ≡ raw_of c.in_ok-by.by = read ∙ c.raw.ensures in
    let places : c.decimals_of-decimals.result ≡ decimals_of (kind_of kinds x) v.decimals = c.decimals_of-decimals.ensures.value ∙ ap (λ (f : Facts). decimals_of f.kind v.decimals) c.facts-facts.ensures in
    let form = form_at (measured c.measure.new.measures) c.in_ok-form.form in
    one_put _ _ _ _ _ _ (form_scaled form (to_z w64 (of_z w64 c.raw.result)) c.decimals_of-decimals.result) _ (λ (f : Form). form_times (kind_of kinds x) v.decimals f (raw_of c.in_ok-by.by))
    _ _ _ _ c.requires.ready c.in_ok-form.ensures c.requires.right c.put_multiple.ensures (λ i. form_scaled form (same i) (places i))
    (known_first c.in_ok-by.by (value_under v kinds x) (form_due v table c.args.right) (λ (by : Value) (f : Form). form_times (kind_of kinds x) v.decimals f (raw_of by)) c.in_ok-by.ensures ∙ known_times v table c.args.left c.args.right known)

pub product_form-measure-requires-else-facts : goal.product_form-measure-requires-else-facts
product_form-measure-requires-else-facts t c = (omega (arith, c.decreases, c.requires.left), (omega (arith, c.requires.left, c.requires.ready.within), (c.requires.few, (c.requires.decimals, c.requires.ready.ready))))

pub product_form-returns-in_err-form-2 : goal.product_form-returns-in_err-form-2
product_form-returns-in_err-form-2 t c =
    let v = valuation_of_known c.args.known.now in
    let table = c.args.table.now in
    let kinds = table_kinds table in
    let x = spelled (table_expressions table) c.args.left in
    let unknown = known_of table c.args.left _ _ c.facts-facts.ensures c.if-facts.false in
    let is : c.from_residual-in_err-form-2.result ≡ Err c.in_err-form-2.field-0.0 = search rules in
    part_fails _ _ _ _ _ _
    (λ (f : Form). after (value_under v kinds (spelled (table_expressions table) c.args.right)) (λ (by : Value). form_times (kind_of kinds x) v.decimals f (raw_of by))) _ _ _ _ is
    c.in_err-form-2.ensures (times_known v table c.args.left c.args.right unknown)

pub product_form-known_value-requires-else-facts-clause-within : goal.product_form-known_value-requires-else-facts-clause-within
product_form-known_value-requires-else-facts-clause-within t c = omega (arith, c.requires.right, c.requires.ready.within)

pub product_form-returns-in_err-by-2 : goal.product_form-returns-in_err-by-2
product_form-returns-in_err-by-2 t c =
    let v = valuation_of_known c.args.known.now in
    let table = c.args.table.now in
    let kinds = table_kinds table in
    let x = spelled (table_expressions table) c.args.left in
    let unknown = known_of table c.args.left _ _ c.facts-facts.ensures c.if-facts.false in
    let is : c.from_residual-in_err-by-2.result ≡ Err c.in_err-by-2.field-0.0 = search rules in
    later_fails _ _ _ _ _ _ _ _ (λ (f : Form) (by : Value). form_times (kind_of kinds x) v.decimals f (raw_of by)) _ _ _ _ _ _ is c.in_ok-form-2.ensures c.in_err-by-2.ensures
    (large_same c.measure-else-facts.new.measures) (times_known v table c.args.left c.args.right unknown)

pub product_form-put_multiple-requires-else-facts-clause-first : goal.product_form-put_multiple-requires-else-facts-clause-first
product_form-put_multiple-requires-else-facts-clause-first t c = c.in_ok-form-2.ensures.stands.within

pub product_form-put_multiple-requires-else-facts-clause-decimals : goal.product_form-put_multiple-requires-else-facts-clause-decimals
product_form-put_multiple-requires-else-facts-clause-decimals t c = c.decimals_of-decimals.ensures.most

pub product_form-put_multiple-requires-else-facts-clause-forms : goal.product_form-put_multiple-requires-else-facts-clause-forms
product_form-put_multiple-requires-else-facts-clause-forms t c = c.in_ok-form-2.ensures.right.forms

pub product_form-put_multiple-requires-else-facts-clause-place : goal.product_form-put_multiple-requires-else-facts-clause-place
product_form-put_multiple-requires-else-facts-clause-place t c =
    place_once _ _ _ _ _ _ _ _ c.requires.ready c.in_ok-form-2.ensures c.requires.left

pub product_form-returns-in_ok-by-2 : goal.product_form-returns-in_ok-by-2
product_form-returns-in_ok-by-2 t c =
    let v = valuation_of_known c.args.known.now in
    let table = c.args.table.now in
    let kinds = table_kinds table in
    let x = spelled (table_expressions table) c.args.left in
    let unknown = known_of table c.args.left _ _ c.facts-facts.ensures c.if-facts.false in
    let read : to_z w64 (of_z w64 c.raw-else-facts.result) ≡ c.raw-else-facts.result = search (rules, to_z-of_z) in
    let same : to_z w64 (of_z w64 c.raw-else-facts.result) ≡ raw_of c.in_ok-by-2.by = read ∙ c.raw-else-facts.ensures in
    let places : c.decimals_of-decimals.result ≡ decimals_of (kind_of kinds x) v.decimals = c.decimals_of-decimals.ensures.value ∙ ap (λ (f : Facts). decimals_of f.kind v.decimals) c.facts-facts.ensures in
    let form = form_at (measured c.measure-else-facts.new.measures) c.in_ok-form-2.form in
    let told = ap (λ (w : Result Value Arith). after w (λ (by : Value). form_times (kind_of kinds x) v.decimals form (raw_of by))) c.in_ok-by-2.ensures in
    one_put _ _ _ _ _ _ (form_scaled form (to_z w64 (of_z w64 c.raw-else-facts.result)) c.decimals_of-decimals.result) _
    (λ (f : Form). after (value_under v kinds (spelled (table_expressions table) c.args.right)) (λ (by : Value). form_times (kind_of kinds x) v.decimals f (raw_of by))) _ _ _ _
    c.requires.ready c.in_ok-form-2.ensures c.requires.left c.put_multiple-else-facts.ensures ((λ i. form_scaled form (same i) (places i)) ∙ told)
    (times_known v table c.args.left c.args.right unknown)
