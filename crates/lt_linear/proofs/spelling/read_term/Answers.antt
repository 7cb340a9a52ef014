use Rattle.std.proofs.Common.{rules, ◌≡◌, to_z, of_z, w64, sym, subst, ℤ}
use Rattle.lt_linear.specs.inner.Parsing.{SpellsCapped}
use Rattle.lt_linear.proofs.Spellings.{is_term, no_asterisk, no_coefficient, no_number, no_v, none_at}
use Rattle.lt_linear.proofs.spelling.read_term.Goals as goal

pub returns-in_err-coefficient : goal.returns-in_err-coefficient
returns-in_err-coefficient c = none_at c.from_residual.result _ _ (search rules) (no_asterisk c.args.word.now c.in_err-coefficient.ensures)

pub returns-in_err-number : goal.returns-in_err-number
returns-in_err-number c = none_at c.from_residual-in_err-number.result _ _ (search rules) (no_v c.args.word.now _ _ c.in_ok-coefficient.ensures c.in_err-number.ensures)

pub returns-in_err-read_variable : goal.returns-in_err-read_variable
returns-in_err-read_variable c =
    none_at c.from_residual-in_err-read_variable.result _ _ (search rules)
    (no_number c.args.word.now c.in_ok-coefficient.coefficient.now c.in_ok-coefficient.variable.now c.in_ok-number.number.now c.in_ok-coefficient.ensures c.in_ok-number.ensures c.in_err-read_variable.ensures)

pub returns-in_err-read_whole : goal.returns-in_err-read_whole
returns-in_err-read_whole c =
    none_at c.from_residual-in_err-read_whole.result _ _ (search rules)
    (no_coefficient c.args.word.now c.in_ok-coefficient.coefficient.now c.in_ok-coefficient.variable.now c.in_ok-coefficient.ensures c.in_err-read_whole.ensures)

pub returns : goal.returns
returns c =
    let raw : to_z w64 (of_z w64 c.in_ok-read_whole.field-0) ≡ c.in_ok-read_whole.field-0 = search rules in
    subst (λ (z : ℤ). SpellsCapped c.args.word.now c.in_ok-read_variable.field-0 z) (sym raw)
    (is_term c.args.word.now c.in_ok-coefficient.coefficient.now c.in_ok-coefficient.variable.now c.in_ok-number.number.now c.in_ok-read_variable.field-0 c.in_ok-read_whole.field-0 c.in_ok-coefficient.ensures c.in_ok-number.ensures c.in_ok-read_variable.ensures c.in_ok-read_whole.ensures)
