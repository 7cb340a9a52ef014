use Rattle.std.proofs.Common.{List, length, map, refl, ap, sym, subst, ◌∙◌, arith}
use Rattle.std.proofs.lemmas.List.{length-map}
use Rattle.std.specs.Borrow.{Bor}
use Rattle.lt_ast.specs.declared.name.Name.{Name}
use Rattle.lt_ast.specs.View.{argument, macro, trace, word, words}
use Rattle.lt_macros.specs.inner.Parameters.{name_text}
use Rattle.lt_macros.specs.inner.Handing.{AreRight, IsRight}
use Rattle.lt_macros.specs.inner.HeadNormalForm.{AddsTo}
use Rattle.lt_macros.specs.inner.Leads.{cover_index, cover_with}
use Rattle.lt_macros.specs.inner.Reading.{phrase_view}
use Rattle.lt_macros.specs.inner.Rows.{rows}
use Rattle.lt_macros.specs.declared.scope.Entry.{Entry}
use Rattle.lt_macros.specs.declared.scope.Binding.TheVariants.{Macro as CodeMacro}
use Rattle.lt_macros.proofs.Adding.{adds_both, adds_none, adds_one, all_back}
use Rattle.lt_macros.proofs.HandingOn.{declared_right}
use Rattle.lt_macros.proofs.Leading.{leads_cover, leads_exceptions, leads_let, leads_none, leads_to_name, leads_use, use_smaller}
use Rattle.lt_macros.proofs.Putting.{declared_as}
use Rattle.lt_macros.proofs.Targets.{taken_handed}
use Rattle.lt_macros.proofs.declaring.+declare.Goals as goal

pub led_to-loop-inner-init : goal.led_to-loop-inner-init
led_to-loop-inner-init t c = record { on = leads_none (rows c.args.scope.now) c.args.environment (phrase_view c.args.phrase); within = c.requires.within; adds = adds_none (rows c.args.scope.now); right = c.requires.right }

pub declare-returns-clause-denotation : goal.declare-returns-clause-denotation
declare-returns-clause-denotation t c = λ r.
    let e : Entry = record { name = c.as_str.result; outer = c.args.environment; binding = CodeMacro c.args.declared c.handed_by-handed.result } in
    declared_as r (rows c.args.scope.now) (rows c.truncate.new.self) (rows c.push.new.self) e c.args.declared c.handed_by-handed.result c.in_ok-push.field-0
    (all_back _ _ _ _ c.truncate.ensures.rows c.len-before.ensures (adds_both _ _ _ c.in_ok-inner.ensures.adds c.in_ok-led.ensures.adds)) c.in_ok-push.ensures.rows c.in_ok-push.ensures.number c.as_str.ensures refl

pub declare-returns-clause-work : goal.declare-returns-clause-work
declare-returns-clause-work t c = λ r.
    let e : Entry = record { name = c.as_str.result; outer = c.args.environment; binding = CodeMacro c.args.declared c.handed_by-handed.result } in
    declared_as r (rows c.args.scope.now) (rows c.truncate.new.self) (rows c.push.new.self) e c.args.declared c.handed_by-handed.result c.in_ok-push.field-0
    (all_back _ _ _ _ c.truncate.ensures.rows c.len-before.ensures (adds_both _ _ _ c.in_ok-inner.ensures.adds c.in_ok-led.ensures.adds)) c.in_ok-push.ensures.rows c.in_ok-push.ensures.number c.as_str.ensures refl

pub declare-returns-clause-adds : goal.declare-returns-clause-adds
declare-returns-clause-adds t c =
    let back = all_back _ _ _ _ c.truncate.ensures.rows c.len-before.ensures (adds_both _ _ _ c.in_ok-inner.ensures.adds c.in_ok-led.ensures.adds) in
    subst (AddsTo (rows c.args.scope.now)) (sym c.in_ok-push.ensures.rows) (adds_one _ _ _ (subst (AddsTo (rows c.args.scope.now)) (sym back) (adds_none (rows c.args.scope.now))))

pub declare-returns-clause-right : goal.declare-returns-clause-right
declare-returns-clause-right t c =
    let back = all_back _ _ _ _ c.truncate.ensures.rows c.len-before.ensures (adds_both _ _ _ c.in_ok-inner.ensures.adds c.in_ok-led.ensures.adds) in
    let e : Entry = record { name = c.as_str.result; outer = c.args.environment; binding = CodeMacro c.args.declared c.handed_by-handed.result } in
    let right : IsRight (rows c.args.scope.now) e =
    declared_right (rows c.args.scope.now) (rows c.put_parameters.new.scope) (rows c.led_to.new.scope) c.args.environment c.in_ok-inner.inner c.in_ok-led.led c.args.declared (phrase_view c.phrase_of_body.result) (map name_text c.deref.result.now) c.len-before.result c.len.result c.handed_by-handed.result
    c.args.scope.now.linked c.in_ok-inner.ensures.adds c.in_ok-led.ensures.adds (adds_both _ _ _ c.in_ok-inner.ensures.adds c.in_ok-led.ensures.adds)
    (ap (map name_text) c.deref.ensures.value ∙ c.in_ok-params.ensures) c.phrase_of_body.ensures c.len-before.ensures (omega (arith, c.len.ensures, ap (λ (xs : List (Bor Name)). length xs) c.deref.ensures.value, length-map c.deref.result.now name_text))
    c.in_ok-inner.ensures.denotation c.in_ok-inner.ensures.work c.in_ok-led.ensures.leads c.handed_by-handed.ensures in
    subst AreRight (sym c.in_ok-push.ensures.rows) (subst (λ es. IsRight es e) (sym back) right, subst AreRight (sym back) c.requires.right)

pub led_to-loop-inner-preserved-in-Cover : goal.led_to-loop-inner-preserved-in-Cover
led_to-loop-inner-preserved-in-Cover t c =
    record {
      on = leads_cover (rows c.args.scope.now) (rows c.loop-inner.scope) c.args.environment (phrase_view c.args.phrase) c.loop-inner.environment (phrase_view c.loop-inner.phrase) (phrase_view c.in-Cover.inner) c.loop-inner.cover c.loop-inner.invariant.on c.in-Cover.ensures;
      within = c.loop-inner.invariant.within;
      adds = c.loop-inner.invariant.adds;
      right = c.loop-inner.invariant.right;
    }

pub led_to-loop-inner-preserved-in-Let : goal.led_to-loop-inner-preserved-in-Let
led_to-loop-inner-preserved-in-Let t c =
    record {
      on =
          leads_let (rows c.args.scope.now) (rows c.loop-inner.scope) (rows c.declare.new.scope) c.args.environment (phrase_view c.args.phrase) c.loop-inner.environment c.in_ok-environment-in-Let.environment (phrase_view c.loop-inner.phrase) (macro c.in-Let.declared.now) (trace c.in-Let.body.now) c.loop-inner.cover
          c.loop-inner.invariant.on c.in-Let.ensures c.in_ok-environment-in-Let.ensures.denotation c.in_ok-environment-in-Let.ensures.work c.in_ok-environment-in-Let.ensures.adds;
      within = c.in_ok-environment-in-Let.ensures.within;
      adds = adds_both _ _ _ c.loop-inner.invariant.adds c.in_ok-environment-in-Let.ensures.adds;
      right = c.in_ok-environment-in-Let.ensures.right;
    }

pub led_to-loop-inner-preserved-in-Exceptions : goal.led_to-loop-inner-preserved-in-Exceptions
led_to-loop-inner-preserved-in-Exceptions t c =
    record {
      on =
          leads_exceptions (rows c.args.scope.now) (rows c.loop-inner.scope) (rows c.put_exceptions.new.scope) c.args.environment (phrase_view c.args.phrase) c.loop-inner.environment c.in_ok-environment-in-Exceptions.environment (phrase_view c.loop-inner.phrase) (words c.in-Exceptions.names.now) (trace c.in-Exceptions.body.now) c.loop-inner.cover c.cover_index-index.result
          c.loop-inner.invariant.on c.in-Exceptions.ensures (c.cover_index-index.ensures ∙ ap (cover_index c.loop-inner.cover) c.len.ensures) c.in_ok-environment-in-Exceptions.ensures.denotation c.in_ok-environment-in-Exceptions.ensures.work
          c.loop-inner.scope.linked c.loop-inner.invariant.adds c.in_ok-environment-in-Exceptions.ensures.adds;
      within = c.in_ok-environment-in-Exceptions.ensures.within;
      adds = adds_both _ _ _ c.loop-inner.invariant.adds c.in_ok-environment-in-Exceptions.ensures.adds;
      right = c.in_ok-environment-in-Exceptions.ensures.right;
    }

pub led_to-loop-inner-preserved : goal.led_to-loop-inner-preserved
led_to-loop-inner-preserved t c =
    record {
      on =
          leads_use (rows c.args.scope.now) (rows c.loop-inner.scope) c.args.environment (phrase_view c.args.phrase) c.loop-inner.environment (phrase_view c.loop-inner.phrase) (phrase_view c.phrase_of_argument-phrase.result) c.loop-inner.cover c.cover_with-named.result c.cover_with-cover.result
          (word c.in-Use.used.name.now) (map argument c.in-Use.used.args.now) (length c.in-Use.used.args.now) c.reached_by-reached.result c.in-Some.entry (argument c.in-Some-handed_on.handed.argument.now) c.in-Some-handed_on.handed.covered
          c.loop-inner.invariant.on c.in-Use.ensures (length-map c.in-Use.used.args.now argument) c.reached_by-reached.ensures (c.cover_with-named.ensures ∙ ap (cover_with c.loop-inner.cover c.reached_by-reached.result.covered) c.len-in-Use.ensures)
          c.in-Some.ensures.denotation c.in-Some.ensures.work (taken_handed (rows c.loop-inner.scope) c.in-Some.entry c.in-Use.used.args.now c.in-Some-handed_on.handed (c.in-Some.ensures.right c.loop-inner.invariant.right) c.in-Some-handed_on.ensures)
          (c.cover_with-cover.ensures ∙ ap (cover_with c.cover_with-named.result c.in-Some-handed_on.handed.covered) c.len-in-Use-2.ensures) c.phrase_of_argument-phrase.ensures c.loop-inner.scope.linked c.loop-inner.invariant.adds;
      within = c.loop-inner.invariant.within;
      adds = c.loop-inner.invariant.adds;
      right = c.loop-inner.invariant.right;
    }

pub led_to-loop-inner-smaller : goal.led_to-loop-inner-smaller
led_to-loop-inner-smaller t c =
    use_smaller (rows c.loop-inner.scope) (phrase_view c.loop-inner.phrase) (phrase_view c.phrase_of_argument-phrase.result) (word c.in-Use.used.name.now) (map argument c.in-Use.used.args.now) c.in-Some.entry (argument c.in-Some-handed_on.handed.argument.now) c.in-Some-handed_on.handed.covered c.in-Use.ensures
    (taken_handed (rows c.loop-inner.scope) c.in-Some.entry c.in-Use.used.args.now c.in-Some-handed_on.handed (c.in-Some.ensures.right c.loop-inner.invariant.right) c.in-Some-handed_on.ensures) c.phrase_of_argument-phrase.ensures

pub led_to-returns-then-is_plain-clause-leads : goal.led_to-returns-then-is_plain-clause-leads
led_to-returns-then-is_plain-clause-leads t c =
    leads_to_name (rows c.args.scope.now) (rows c.loop-inner.scope) c.args.environment (phrase_view c.args.phrase) c.loop-inner.environment (phrase_view c.loop-inner.phrase) c.loop-inner.cover c.cover_with-named.result
    (word c.in-Use.used.name.now) (map argument c.in-Use.used.args.now) (length c.in-Use.used.args.now) c.reached_by-reached.result c.in-Some.entry
    c.loop-inner.invariant.on c.in-Use.ensures (length-map c.in-Use.used.args.now argument) c.reached_by-reached.ensures (c.cover_with-named.ensures ∙ ap (cover_with c.loop-inner.cover c.reached_by-reached.result.covered) c.len-in-Use.ensures)
    c.in-Some.ensures.denotation c.in-Some.ensures.work (sym c.is_plain.ensures ∙ c.if-is_plain.true) c.loop-inner.scope.linked c.loop-inner.invariant.adds
