use Rattle.std.proofs.Common.{FitsSigned, w64, ◌∙◌, rules}
use Rattle.std.proofs.lemmas.Int.{to_z-of_z}
use Rattle.lt_macros.proofs.Figures.{capped_read, past_read}
use Rattle.lt_macros.proofs.literals.capped_number.Goals as goal

pub returns-in-Ok : goal.returns-in-Ok
returns-in-Ok c =
    let fits : FitsSigned w64 c.in-Ok.number.raw = search rules in
    λ f is. to_z-of_z w64 c.in-Ok.number.raw fits ∙ capped_read c.args.text.now f c.args.decimals c.read.result c.in-Ok.number is c.in-Ok.is c.read.ensures

pub returns-in-Err : goal.returns-in-Err
returns-in-Err c = λ f is. past_read c.args.text.now f c.args.decimals c.read.result _ is c.in-Err.is c.read.ensures
