use Rattle.std.proofs.Common.{◌≡◌, FitsSigned, w64, ap, sym, ◌∙◌, rules}
use Rattle.std.proofs.lemmas.Int.{to_z-of_z}
use Rattle.lt_ast.specs.Letters.{letters}
use Rattle.lt_ast.specs.Literals.{figure_text}
use Rattle.lt_ast.specs.View.{figure}
use Rattle.lt_num.specs.Literal.{signed_text}
use Rattle.lt_macros.proofs.literals.capped_raw.Goals as goal

pub returns-in_ok-text : goal.returns-in_ok-text
returns-in_ok-text c =
    let fits : FitsSigned w64 c.capped_number.result = search rules in
    let read : c.as_bytes.result.now ≡ figure_text (figure c.args.literal.now) = search rules in
    to_z-of_z w64 c.capped_number.result fits ∙ c.capped_number.ensures (figure c.args.literal.now) read

-- without a minus the text is the letters
pub returns-else-literal : goal.returns-else-literal
returns-else-literal c =
    let fits : FitsSigned w64 c.capped_number-else-literal.result = search rules in
    let plain : c.as_bytes-else-literal.result.now ≡ letters c.args.literal.now.text = search rules in
    to_z-of_z w64 c.capped_number-else-literal.result fits
    ∙ c.capped_number-else-literal.ensures (figure c.args.literal.now) (plain ∙ ap (λ b. signed_text b (letters c.args.literal.now.text)) (sym c.if-literal.false))
