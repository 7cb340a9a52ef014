use Rattle.std.proofs.Common.{◌≡◌, Ok, ap, ◌∙◌, pos, ◌+ℤ◌, arith, rules, of_z, to_z, w64}
use Rattle.std.proofs.lemmas.Int.{ints, to_z-of_z}
use Rattle.lt_num.specs.Answer.{bounded}
use Rattle.lt_num.specs.Value.{raw_of}
use Rattle.lt_formula.specs.Table.{spelled}
use Rattle.lt_formula.specs.View.{table_expressions, table_kinds, valuation_of_known}
use Rattle.lt_linear.specs.Form.{constant_form}
use Rattle.lt_space.proofs.FormSteps.{known_told}
use Rattle.lt_space.proofs.Measurings.{place_of, put_given}
use Rattle.lt_space.proofs.measuring.known_form.Goals as goal

pub put_constant-requires-clause-place : goal.put_constant-requires-clause-place
put_constant-requires-clause-place c = place_of _ _ _ _ c.requires.ready

pub returns : goal.returns
returns c =
    let table = c.args.table.now in
    let value = c.in_ok-value.value in
    let number = c.in_ok-number.number in
    let read : to_z w64 (of_z w64 c.raw.result) ≡ c.raw.result = search (rules, to_z-of_z) in
    let same : to_z w64 (of_z w64 c.raw.result) +ℤ pos 0 ≡ raw_of value = omega (arith, ints, read, c.raw.ensures) in
    let kept : to_z w64 (of_z w64 number.raw) ≡ number.raw = search (rules, to_z-of_z) in
    let told = known_told (valuation_of_known c.args.known.now) (table_kinds table) (spelled (table_expressions table) c.args.exp) value number c.in_ok-value.ensures (c.in_ok-number.ensures ∙ ap bounded same) in
    put_given _ _ _ _ _ _ (constant_form (to_z w64 (of_z w64 number.raw))) _ c.requires.ready (ap (λ raw. Ok (constant_form raw)) kept ∙ told) c.put_constant.ensures
