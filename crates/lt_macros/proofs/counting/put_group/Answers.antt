use Rattle.std.proofs.Common.{◌+◌, length, map, ap, sym, subst, ◌∙◌, arith}
use Rattle.std.proofs.lemmas.Result.{IfOk-weaker}
use Rattle.lt_ast.specs.View.{word}
use Rattle.lt_macros.specs.Environment.{with_variables}
use Rattle.lt_macros.specs.inner.Counting.{AreWithin, waiting}
use Rattle.lt_macros.specs.inner.Reading.{environment, meant}
use Rattle.lt_macros.specs.inner.Rows.{rows}
use Rattle.lt_macros.proofs.Adding.{adds_length}
use Rattle.lt_macros.proofs.Waiting.{pending_kept, within_more}
use Rattle.lt_macros.proofs.counting.put_group.Goals as goal

pub returns-clause-figures : goal.returns-clause-figures
returns-clause-figures c =
    IfOk-weaker c.show_names.result _ _
    (λ _ added decimals f n.
    let old = rows c.args.scope.now in
    let list = waiting c.put_firsts.new.count in
    let within = c.in_ok-put_firsts.ensures.within 0 (subst (λ k. AreWithin 0 k (waiting c.args.count.now)) (sym c.len.ensures) c.requires.within) in
    let kept = pending_kept decimals old (rows c.show_names.new.scope) f 0 list n added (subst (λ k. AreWithin 0 k list) c.len.ensures within) in
    omega (arith, c.in_ok-put_firsts.ensures.figures decimals old f n c.args.role, kept))
    c.show_names.ensures.adds

pub returns-clause-within : goal.returns-clause-within
returns-clause-within c =
    IfOk-weaker c.show_names.result _ _
    (λ _ added least w.
    let old = rows c.args.scope.now in
    let new = rows c.show_names.new.scope in
    let list = waiting c.put_firsts.new.count in
    let within = c.in_ok-put_firsts.ensures.within least (subst (λ k. AreWithin least k (waiting c.args.count.now)) (sym c.len.ensures) w) in
    within_more least c.len.result (length new) list (omega (arith, adds_length old new added, c.len.ensures)) within)
    c.show_names.ensures.adds

pub returns-clause-visible : goal.returns-clause-visible
returns-clause-visible c =
    IfOk-weaker c.show_names.result _ _
    (λ _ shown decimals.
    shown decimals
    ∙ ap (λ names. with_variables c.args.role c.args.visible.next (map word names) (environment (meant decimals) (rows c.args.scope.now) c.args.visible.environment)) c.deref.ensures.value)
    c.show_names.ensures.visible

pub returns-clause-next : goal.returns-clause-next
returns-clause-next c = IfOk-weaker c.show_names.result _ _ (λ _ is. is ∙ ap (λ names. c.args.visible.next + length names) c.deref.ensures.value) c.show_names.ensures.next

pub returns-clause-numbers : goal.returns-clause-numbers
returns-clause-numbers c = IfOk-weaker c.show_names.result _ _ (λ _ _. c.in_ok-put_firsts.ensures.numbers) c.show_names.ensures.adds
