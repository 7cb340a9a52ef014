use Rattle.std.proofs.Common.{◌≡◌, List, map, ap, sym, ◌∙◌, string_bytes}
use Rattle.lt_ast.specs.View.{exp, word}
use Rattle.lt_macros.specs.Environment.{Environment}
use Rattle.lt_macros.specs.Denotation.{Denotation, as_expression, exp_denotation}
use Rattle.lt_macros.specs.Expansion.{Runnable, all_given_as, outputs_of}
use Rattle.lt_macros.specs.Tree.{declared, placed}
use Rattle.lt_macros.specs.inner.Asking.{runnables}
use Rattle.lt_macros.specs.inner.Builder.{IsKept, names_at}
use Rattle.lt_macros.specs.inner.Reading.{meant}
use Rattle.lt_macros.specs.inner.Rows.{rows}
use Rattle.lt_macros.proofs.Building.{kept_both}
use Rattle.lt_macros.proofs.Decimals.{decimals_same}
use Rattle.lt_macros.proofs.Runs.{arguments_at, arguments_written}
use Rattle.lt_macros.proofs.calls.build_call.Goals as goal

pub returns-clause-made : goal.returns-clause-made
returns-clause-made c =
    let b = c.args.builder.now in
    let first = c.build_arguments.new.builder in
    let last = c.build_outputs.new.builder in
    let r = c.args.declared.now in
    let env : Environment Denotation = names_at b c.args.environment in
    let kept : IsKept b first = c.in_ok-arguments.ensures.kept in
    let all : IsKept b last = kept_both _ _ _ kept c.in_ok-outputs.ensures.kept in
    let known : List Runnable = runnables b.decimals (rows b.scope) c.args.before.now in
    let arguments : map placed c.in_ok-arguments.arguments.items ≡ arguments_at env r.arguments.items =
    c.in_ok-arguments.ensures.made
    ∙ ap (λ es. map (λ e. as_expression (exp_denotation env (exp e))) es) c.deref.ensures.value
    ∙ arguments_written env r.arguments.items in
    let decimals : last.decimals ≡ env.decimals = all.decimals ∙ sym (decimals_same (meant b.decimals) (rows b.scope) c.args.environment) in
    let outputs : map declared c.in_ok-outputs.outputs.items ≡ outputs_of known (word r.node).text =
    c.in_ok-outputs.ensures.made
    ∙ (λ i. outputs_of (runnables (kept.decimals i) (kept.names i) c.args.before.now) (c.as_str.ensures i)) in
    let names : map declared c.in_ok-names.names.items ≡ all_given_as env.decimals (map word r.names.items.items) (outputs_of known (word r.node).text) =
    c.in_ok-names.ensures.given
    ∙ (λ i. all_given_as (decimals i) (map word (c.deref-2.ensures.value i)) (outputs i)) in
    let node : string_bytes c.in_ok-node.node ≡ (word r.node).text = c.in_ok-node.ensures.ok ∙ c.as_str-2.ensures in
    record { made = λ i. record { node = node i; arguments = arguments i; names = names i }; kept = all }
