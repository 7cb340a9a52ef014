use Rattle.std.proofs.Common.{◌≡◌, length, map, take, ap, sym, subst, ◌∙◌, arith}
use Rattle.std.proofs.lemmas.Result.{IfOk-weaker}
use Rattle.lt_ast.specs.View.{exp, word}
use Rattle.lt_macros.specs.Denotation.{as_expression, exp_denotation}
use Rattle.lt_macros.specs.Expansion.{outputs_of}
use Rattle.lt_macros.specs.inner.Asking.{runnables}
use Rattle.lt_macros.specs.inner.Counting.{AreWithin, waiting}
use Rattle.lt_macros.specs.inner.Figures.{arguments_figure}
use Rattle.lt_macros.specs.inner.Reading.{environment, meant}
use Rattle.lt_macros.specs.inner.Rows.{rows}
use Rattle.lt_macros.proofs.Adding.{adds_length}
use Rattle.lt_macros.proofs.Runs.{counted_many, counted_names}
use Rattle.lt_macros.proofs.Waiting.{pending_kept, within_more}
use Rattle.lt_macros.proofs.counting_runs.put_call.Goals as goal

pub returns-clause-figures : goal.returns-clause-figures
returns-clause-figures c =
    IfOk-weaker c.show_names.result _ _
    (λ _ added decimals f n.
    let old = rows c.args.scope.now in
    let env = environment (meant decimals) old c.args.visible.environment in
    let list = waiting c.put_arguments.new.count in
    let within = c.in_ok-put_arguments.ensures.within 0 (subst (λ k. AreWithin 0 k (waiting c.args.count.now)) (sym c.len.ensures) c.requires.within) in
    let kept = pending_kept decimals old (rows c.show_names.new.scope) f 0 list n added (subst (λ k. AreWithin 0 k list) c.len.ensures within) in
    omega (
      arith,
      c.in_ok-put_arguments.ensures.figures decimals old f n,
      ap (λ es. arguments_figure f (map (λ e. as_expression (exp_denotation env e)) (map exp es))) c.deref.ensures.value,
      kept,
    ))
    c.show_names.ensures.adds

pub returns-clause-within : goal.returns-clause-within
returns-clause-within c =
    IfOk-weaker c.show_names.result _ _
    (λ _ added least w.
    let old = rows c.args.scope.now in
    let new = rows c.show_names.new.scope in
    let list = waiting c.put_arguments.new.count in
    let within = c.in_ok-put_arguments.ensures.within least (subst (λ k. AreWithin least k (waiting c.args.count.now)) (sym c.len.ensures) w) in
    within_more least c.len.result (length new) list (omega (arith, adds_length old new added, c.len.ensures)) within)
    c.show_names.ensures.adds

pub returns-clause-visible : goal.returns-clause-visible
returns-clause-visible c =
    IfOk-weaker c.show_names.result _ _
    (λ _ shown decimals.
    let old = rows c.args.scope.now in
    let names = c.args.declared.now.names.items.items in
    let env = environment (meant decimals) old c.args.visible.environment in
    let outputs = outputs_of (runnables decimals old c.args.before.now) (word c.args.declared.now.node).text in
    let first : c.first_names-names.result.now ≡ take c.in_ok-outputs.outputs names = c.first_names-names.ensures ∙ ap (take c.in_ok-outputs.outputs) c.deref-2.ensures.value in
    counted_names c.args.visible.next c.in_ok-outputs.outputs env.decimals names c.first_names-names.result.now outputs env _ (c.in_ok-outputs.ensures decimals old) first (shown decimals))
    c.show_names.ensures.visible

pub returns-clause-next : goal.returns-clause-next
returns-clause-next c =
    IfOk-weaker c.show_names.result _ _
    (λ v moved decimals.
    let old = rows c.args.scope.now in
    let names = c.args.declared.now.names.items.items in
    let env = environment (meant decimals) old c.args.visible.environment in
    let outputs = outputs_of (runnables decimals old c.args.before.now) (word c.args.declared.now.node).text in
    let first : c.first_names-names.result.now ≡ take c.in_ok-outputs.outputs names = c.first_names-names.ensures ∙ ap (take c.in_ok-outputs.outputs) c.deref-2.ensures.value in
    counted_many c.args.visible.next c.in_ok-outputs.outputs v.next env.decimals names c.first_names-names.result.now outputs (c.in_ok-outputs.ensures decimals old) first moved)
    c.show_names.ensures.next

pub returns-clause-numbers : goal.returns-clause-numbers
returns-clause-numbers c = IfOk-weaker c.show_names.result _ _ (λ _ _. c.in_ok-put_arguments.ensures.numbers) c.show_names.ensures.adds
