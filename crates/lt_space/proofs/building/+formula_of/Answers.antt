use Rattle.std.proofs.Common.{◌≡◌, false, ap, sym, ◌∙◌, subst}
use Rattle.lt_formula.specs.Expression.{binary, choice}
use Rattle.lt_space.specs.FormulaView.{formula_view}
use Rattle.lt_space.specs.Meaning.{FormulaAnswer, is_known}
use Rattle.lt_space.specs.Refusal.{Tells}
use Rattle.lt_formula.specs.Shape.{built}
use Rattle.lt_formula.specs.Table.{spelled}
use Rattle.lt_formula.specs.View.{table_expressions, table_kinds, valuation_of_known}
use Rattle.lt_formula.specs.declared.facts.Facts.{Facts}
use Rattle.lt_space.proofs.Tellings.{formula_binary, formula_choice}
use Rattle.lt_space.proofs.building.+formula_of.Goals as goal

pub formula_of-returns-in-Binary : goal.formula_of-returns-in-Binary
formula_of-returns-in-Binary t c =
    let v = valuation_of_known c.args.known.now in
    let kinds = table_kinds c.args.table.now in
    let es = table_expressions c.args.table.now in
    let x = spelled es c.args.exp in
    let d = spelled es c.in-Binary.left in
    let e = spelled es c.in-Binary.right in
    let is : x ≡ binary c.in-Binary.operator d e = c.shape.ensures.spells ∙ ap (built (spelled es)) c.in-Binary.is in
    let unknown : is_known kinds x ≡ false = sym (ap (λ (f : Facts). f.is_known) c.facts.ensures) ∙ c.if-facts.false in
    subst (λ (due : FormulaAnswer). Tells formula_view c.binary_formula.result due) (sym (formula_binary v kinds x c.in-Binary.operator d e is unknown)) c.binary_formula.ensures

pub formula_of-returns-in-Choice : goal.formula_of-returns-in-Choice
formula_of-returns-in-Choice t c =
    let v = valuation_of_known c.args.known.now in
    let kinds = table_kinds c.args.table.now in
    let es = table_expressions c.args.table.now in
    let x = spelled es c.args.exp in
    let b = spelled es c.in-Choice.condition in
    let d = spelled es c.in-Choice.first in
    let e = spelled es c.in-Choice.second in
    let is : x ≡ choice b d e = c.shape.ensures.spells ∙ ap (built (spelled es)) c.in-Choice.is in
    let unknown : is_known kinds x ≡ false = sym (ap (λ (f : Facts). f.is_known) c.facts.ensures) ∙ c.if-facts.false in
    subst (λ (due : FormulaAnswer). Tells formula_view c.choice_formula.result due) (sym (formula_choice v kinds x b d e is unknown)) c.choice_formula.ensures
