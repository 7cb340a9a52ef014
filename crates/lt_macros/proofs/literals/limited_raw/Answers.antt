use Rattle.std.proofs.Common.{FitsSigned, w64, ◌∙◌, rules}
use Rattle.std.proofs.lemmas.Int.{to_z-of_z}
use Rattle.lt_ast.specs.View.{figure}
use Rattle.lt_macros.proofs.Figures.{limited_past, limited_read}
use Rattle.lt_macros.proofs.literals.limited_raw.Goals as goal

pub returns-in-Ok : goal.returns-in-Ok
returns-in-Ok c =
    let fits : FitsSigned w64 c.in-Ok.number.raw = search rules in
    to_z-of_z w64 c.in-Ok.number.raw fits ∙ limited_read c.as_bytes.result.now (figure c.args.end.now) c.args.decimals c.read.result c.in-Ok.number (search rules) c.in-Ok.is c.read.ensures

pub returns : goal.returns
returns c =
    let fits : FitsSigned w64 c.farthest.result = search rules in
    to_z-of_z w64 c.farthest.result fits ∙ c.farthest.ensures ∙ limited_past c.as_bytes.result.now (figure c.args.end.now) c.args.decimals c.read.result _ (search rules) c.in-Err.is c.read.ensures c.args.end.now.number
