use Rattle.std.proofs.Common.{Some, None, length, reverse, ap, sym, ◌∙◌}
use Rattle.std.specs.List.{find}
use Rattle.std.proofs.lemmas.Result.{IfOk-weaker}
use Rattle.lt_ast.specs.View.{groupings, word}
use Rattle.lt_formula.specs.declared.role.Role.TheVariants as role
use Rattle.lt_macros.specs.Expansion.{with_groups}
use Rattle.lt_macros.specs.inner.Reading.{environment, meant}
use Rattle.lt_macros.proofs.Runs.{has_name, outputs_found, outputs_many}
use Rattle.lt_macros.proofs.counting_runs.output_count.Goals as goal

pub returns-in-None : goal.returns-in-None
returns-in-None c = λ decimals rows.
    let name = (word c.args.declared.now.node).text in
    sym (ap length (outputs_found decimals rows name c.args.before.now None (sym c.in-None.is ∙ c.node_before.ensures.found ∙ ap (λ n. find (has_name n) (reverse c.args.before.now)) c.as_str.ensures)))

pub returns-in-Some : goal.returns-in-Some
returns-in-Some c =
    IfOk-weaker c.name_count.result _ _
    (λ _ is decimals rows.
    let name = (word c.args.declared.now.node).text in
    let found = c.in-Some.found in
    let node = found.node.now in
    let env = with_groups role.Input 0 (groupings node.inputs) (environment (meant decimals) rows found.environment) in
    is
    ∙ sym (outputs_many role.Output 0 env (groupings node.outputs))
    ∙ sym (ap length (outputs_found decimals rows name c.args.before.now (Some found) (sym c.in-Some.is ∙ c.node_before.ensures.found ∙ ap (λ n. find (has_name n) (reverse c.args.before.now)) c.as_str.ensures))))
    c.name_count.ensures
