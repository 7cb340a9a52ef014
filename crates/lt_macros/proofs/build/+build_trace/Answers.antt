use Rattle.std.proofs.Common.{◌≡◌, [], ◌<◌, ◌+◌, ◌-◌, ◌*◌, IfOk, length, map, option_map, refl, ap, sym, subst, ◌∙◌, arith, rules}
use Rattle.std.proofs.lemmas.Bool.{eqb-false, eqb-true}
use Rattle.std.proofs.lemmas.List.{nil_from_length}
use Rattle.std.proofs.lemmas.Result.{IfOk-weaker}
use Rattle.lt_ast.specs.Syntax as s
use Rattle.lt_ast.specs.View.{alternatives, exp, groupings, limits, trace as trace_view}
use Rattle.lt_ast.specs.inner.Rows.{part_of}
use Rattle.lt_macros.specs.Denotation.{as_trace, behind_term, chosen, parts_of, trace_denotation, traces_denotation, weight_of}
use Rattle.lt_macros.specs.declared.build.TwoTraces.{TwoTraces}
use Rattle.lt_macros.specs.declared.head_normal_form.HeadNormalForm.{HeadNormalForm}
use Rattle.lt_macros.specs.declared.head_normal_form.HeadNormalForm.TheVariants.{Catch}
use Rattle.lt_macros.specs.inner.Builder.{IsKept, IsReady, form_denotation, names_at, work_at}
use Rattle.lt_macros.specs.inner.Built.{AreBuilt, in_all, numbered}
use Rattle.lt_macros.specs.inner.Numbers.{numbers_view}
use Rattle.lt_macros.specs.inner.Phrase.{joined, joined_by, trace}
use Rattle.lt_macros.specs.inner.Reading.{meant, phrase_view, worked}
use Rattle.lt_macros.specs.inner.Rows.{rows}
use Rattle.lt_macros.specs.Tree.{bounds, declared, expanded}
use Rattle.lt_macros.specs.inner.Work.{alternatives_work, trace_work, traces_work}
use Rattle.lt_ast.specs.inner.Lists.{alternatives_of, traces_of}
use Rattle.lt_ast.proofs.Public.{alternatives_list}
use Rattle.lt_macros.proofs.Building.{builds, enough, joined_trace, kept_both, kept_none, names_kept, ready_kept, same_back, seen_trace, work_kept}
use Rattle.lt_macros.proofs.Built.{assert_built, built_where, catch_built, joined_built, joined_more, joined_none, joined_one, joined_worked, loop_built, part_built, part_worked, parts_whole, raise_built, two_built}
use Rattle.lt_macros.proofs.Exists.{exist_built, exist_less}
use Rattle.lt_macros.proofs.build.+build_trace.Goals as goal

pub build_two-returns : goal.build_two-returns
build_two-returns t c =
    record {
      made =
          two_built c.args.builder.now c.build_trace.new.builder c.args.environment (phrase_view c.args.first) (phrase_view c.args.second) (numbers_view c.args.numbers) (numbers_view c.in_ok-inside.inside) c.in_ok-before.before c.in_ok-behind.behind
          (record { first = c.in_ok-before.before.expanded; second = c.in_ok-behind.behind.expanded; after = c.in_ok-behind.behind.after }) c.in_ok-before.ensures.kept c.in_ok-inside.ensures refl refl refl c.in_ok-before.ensures.made c.in_ok-behind.ensures.made;
      kept = kept_both _ _ _ c.in_ok-before.ensures.kept c.in_ok-behind.ensures.kept;
    }

pub build_loop-returns : goal.build_loop-returns
build_loop-returns t c =
    builds _ _ c.put_loop.result _ (kept_both _ _ _ c.in_ok-turn.ensures.kept c.in_ok-bounds.ensures.kept)
    (IfOk-weaker c.put_loop.result _ _
    (λ _ is.
    is
    ∙ loop_built c.args.builder.now c.build_trace.new.builder c.args.environment (limits c.args.written.now) (trace_view c.args.body.now) (numbers_view c.args.numbers) (numbers_view c.in_ok-inside.inside) (option_map bounds c.in_ok-bounds.bounds) c.in_ok-turn.turn
    c.in_ok-turn.ensures.kept c.in_ok-inside.ensures c.in_ok-bounds.ensures.made c.in_ok-turn.ensures.made)
    c.put_loop.ensures)

pub build_assert-returns : goal.build_assert-returns
build_assert-returns t c =
    builds _ _ c.put.result _ (kept_both _ _ _ c.in_ok-inner.ensures.kept c.in_ok-constraint.ensures.kept)
    (IfOk-weaker c.put.result _ _
    (λ _ is.
    is
    ∙ assert_built c.args.builder.now c.build_trace.new.builder c.args.environment (exp c.args.always.now) (trace_view c.args.body.now) (numbers_view c.args.numbers) (numbers_view c.in_ok-inside.inside) c.in_ok-constraint.constraint c.in_ok-inner.inner
    c.in_ok-inner.ensures.kept c.in_ok-inside.ensures c.in_ok-constraint.ensures.made c.in_ok-inner.ensures.made)
    c.put.ensures)

pub build_exist-build_trace-requires : goal.build_exist-build_trace-requires
build_exist-build_trace-requires t c =
    let less : 5 * trace_work (work_at c.declare_groups.new.builder c.in_ok-locals.locals.environment) (trace_view c.args.body.now) + 4 < 5 * trace_work (work_at c.args.builder.now c.args.environment) (s.exist (groupings c.args.groups.now) (trace_view c.args.body.now)) =
    exist_less (work_at c.args.builder.now c.args.environment) (work_at c.declare_groups.new.builder c.in_ok-locals.locals.environment) (groupings c.args.groups.now) (trace_view c.args.body.now) c.in_ok-locals.ensures.work in
    search (rules, less)

pub build_exist-truncate-requires : goal.build_exist-truncate-requires
build_exist-truncate-requires t c = enough _ _ _ _ c.in_ok-locals.ensures.grown.names c.in_ok-inner.ensures.kept.names c.len-before.ensures

pub build_exist-returns : goal.build_exist-returns
build_exist-returns t c =
    let locals = c.in_ok-locals.locals in
    let all = in_all (locals.next - length locals.declared.items) (map declared locals.declared.items) (expanded c.in_ok-inner.inner.expanded.value) in
    IfOk-weaker c.put_locals.result _ _
    (λ _ made.
    record {
      made =
          made
          ∙ exist_built (names_at c.args.builder.now c.args.environment) (names_at c.declare_groups.new.builder locals.environment) (groupings c.args.groups.now) (trace_view c.args.body.now) (numbers_view c.args.numbers) (numbers_view c.in_ok-inside.inside)
          locals.declared.items locals.next all c.in_ok-inner.inner
          c.in_ok-locals.ensures.declared c.in_ok-locals.ensures.visible c.in_ok-locals.ensures.next c.in_ok-inside.ensures c.in_ok-inner.ensures.made refl;
      kept =
          record {
            names = same_back _ _ _ _ _ c.in_ok-locals.ensures.grown.names c.in_ok-inner.ensures.kept.names c.truncate.ensures.rows c.len-before.ensures;
            decimals = c.in_ok-inner.ensures.kept.decimals ∙ c.in_ok-locals.ensures.grown.decimals;
          };
    })
    c.put_locals.ensures

pub build_parts-build_weight-requires : goal.build_parts-build_weight-requires
build_parts-build_weight-requires t c = ready_kept _ _ _ c.loop-part.invariant.kept c.requires

pub build_parts-build_trace-requires : goal.build_parts-build_trace-requires
build_parts-build_trace-requires t c =
    let more : c.loop-part.part-index < length c.args.written.now = omega (arith, c.loop-part-test.true, c.loop-part.auto.part-index-end) in
    let kept : IsKept c.args.builder.now c.build_weight.new.builder = kept_both _ _ _ c.loop-part.invariant.kept c.in_ok-weight.ensures.kept in
    let ready : IsReady c.build_weight.new.builder c.args.environment = ready_kept _ _ _ kept c.requires in
    let here = ap (λ names. trace_work names (trace_view c.part-item.result.body)) (work_kept c.args.builder.now c.build_weight.new.builder c.args.environment kept) in
    let some : trace_work (work_at c.args.builder.now c.args.environment) (trace_view c.part-item.result.body) < alternatives_work (work_at c.args.builder.now c.args.environment) (alternatives_of (map part_of c.args.written.now)) =
    (part_worked (work_at c.args.builder.now c.args.environment) c.args.written.now c.loop-part.part-index c.part-item.result _ more c.part-item.is c.loop-part.invariant.work).0 in
    let less : 5 * trace_work (work_at c.build_weight.new.builder c.args.environment) (trace_view c.part-item.result.body) + 4 < 5 * alternatives_work (work_at c.args.builder.now c.args.environment) (alternatives_of (map part_of c.args.written.now)) = omega (arith, here, some) in
    search (rules, less, ready)

pub build_parts-loop-part-preserved : goal.build_parts-loop-part-preserved
build_parts-loop-part-preserved t c =
    let more : c.loop-part.part-index < length c.args.written.now = omega (arith, c.loop-part-test.true, c.loop-part.auto.part-index-end) in
    let kept : IsKept c.args.builder.now c.build_weight.new.builder = kept_both _ _ _ c.loop-part.invariant.kept c.in_ok-weight.ensures.kept in
    record {
      tree =
          part_built (names_at c.args.builder.now c.args.environment) c.args.written.now c.loop-part.part-index c.part-item.result c.loop-part.items.items c.push.new.self.items c.in_ok-weight.weight c.in_ok-built.built (numbers_view c.loop-part.numbers) _ more c.part-item.is
          (search rules)
          (c.in_ok-weight.ensures.made ∙ ap (λ names. weight_of names (part_of c.part-item.result)) (names_kept c.args.builder.now c.loop-part.builder c.args.environment c.loop-part.invariant.kept))
          (built_where c.args.builder.now c.build_weight.new.builder c.args.environment (trace (trace_view c.part-item.result.body)) (numbers_view c.loop-part.numbers) (numbers_view c.loop-part.numbers) (numbered c.in_ok-built.built) kept refl c.in_ok-built.ensures.made)
          c.loop-part.invariant.tree;
      work = (part_worked (work_at c.args.builder.now c.args.environment) c.args.written.now c.loop-part.part-index c.part-item.result _ more c.part-item.is c.loop-part.invariant.work).1;
      kept = kept_both _ _ _ kept c.in_ok-built.ensures.kept;
    }

pub build_parts-returns : goal.build_parts-returns
build_parts-returns t c =
    record {
      made = parts_whole (names_at c.args.builder.now c.args.environment) c.args.written.now c.loop-part.part-index c.loop-part.items (numbers_view c.loop-part.numbers) _ c.loop-part-test.false c.loop-part.invariant.tree;
      kept = c.loop-part.invariant.kept;
    }

pub build_choice-build_parts-requires : goal.build_choice-build_parts-requires
build_choice-build_parts-requires t c =
    let env = work_at c.args.builder.now c.args.environment in
    let list : alternatives c.args.written.now ≡ alternatives_of (map part_of c.deref.result.now) = alternatives_list c.args.written.now ∙ ap (λ parts. alternatives_of (map part_of parts)) (sym c.deref.ensures.value) in
    let same = ap (alternatives_work env) list in
    let less : 5 * alternatives_work env (alternatives_of (map part_of c.deref.result.now)) < 5 * alternatives_work env (alternatives c.args.written.now) + 1 = omega (arith, same) in
    search (rules, less)

pub build_trace-build_met-requires : goal.build_trace-build_met-requires
build_trace-build_met-requires t c =
    let kept : IsKept c.args.builder.now c.enter_term.new.self = c.in_ok-enter_term.ensures in
    let same = ap (λ names. worked.phrase names (phrase_view c.args.phrase)) (work_kept c.args.builder.now c.enter_term.new.self c.args.environment kept) in
    let less : 5 * worked.phrase (work_at c.enter_term.new.self c.args.environment) (phrase_view c.args.phrase) + 3 < 5 * worked.phrase (work_at c.args.builder.now c.args.environment) (phrase_view c.args.phrase) + 4 = omega (arith, same) in
    let ready = ready_kept _ _ _ kept c.requires in
    search (rules, less, ready)

pub build_trace-returns : goal.build_trace-returns
build_trace-returns t c =
    let kept : IsKept c.args.builder.now c.enter_term.new.self = c.in_ok-enter_term.ensures in
    record {
      made =
          built_where c.args.builder.now c.enter_term.new.self c.args.environment (phrase_view c.args.phrase) (numbers_view c.args.numbers) (numbers_view c.args.numbers) (numbered c.in_ok-built.built) kept refl c.in_ok-built.ensures.made;
      kept = kept_both _ _ _ kept (kept_both _ _ _ c.in_ok-built.ensures.kept c.leave_to.ensures);
    }

pub build_met-returns : goal.build_met-returns
build_met-returns t c =
    record {
      made = c.in_ok-built.ensures.made ∙ seen_trace _ _ (c.in_ok-form.ensures.denotation c.args.builder.now.decimals);
      kept =
          record {
            names = same_back _ _ _ _ _ c.in_ok-form.ensures.adds c.in_ok-built.ensures.kept.names c.truncate.ensures.rows c.len-before.ensures;
            decimals = c.in_ok-built.ensures.kept.decimals;
          };
    }

pub build_trace_form-returns-in-Nothing : goal.build_trace_form-returns-in-Nothing
build_trace_form-returns-in-Nothing t c =
    builds _ _ c.build_nothing.result _ (kept_none _)
    (subst (λ (h : HeadNormalForm). IfOk c.build_nothing.result (λ b. numbered b ≡ as_trace (form_denotation c.args.builder.now h) (numbers_view c.args.numbers))) (sym c.in-Nothing.is) c.build_nothing.ensures)

pub build_trace_form-returns-in-Raise : goal.build_trace_form-returns-in-Raise
build_trace_form-returns-in-Raise t c =
    builds _ _ c.build_raise.result _ (kept_none _)
    (raise_built c.args.builder.now.decimals (rows c.args.builder.now.scope) c.args.form c.in-Raise.name c.in-Raise.environment (numbers_view c.args.numbers) c.exception-exception.result c.as_str.result.now c.build_raise.result
    c.in-Raise.is c.as_str.ensures (c.exception-exception.ensures (meant c.args.builder.now.decimals)) c.build_raise.ensures)

pub build_catch-returns : goal.build_catch-returns
build_catch-returns t c =
    builds _ _ c.put_catch.result _ c.in_ok-two.ensures.kept
    (catch_built c.args.builder.now.decimals (rows c.args.builder.now.scope) (rows c.build_two.new.builder.scope) (Catch c.args.name c.args.body c.args.handler c.args.environment) c.args.name c.args.body c.args.handler c.args.environment (numbers_view c.args.numbers) c.exception.result c.as_str.result.now c.in_ok-two.two
    c.put_catch.result refl c.as_str.ensures c.in_ok-two.ensures.kept.names (c.exception.ensures (meant c.args.builder.now.decimals)) c.in_ok-two.ensures.made c.put_catch.ensures)

pub build_joined-returns : goal.build_joined-returns
build_joined-returns t c =
    let env = names_at c.args.builder.now c.args.environment in
    let two : TwoTraces = record { first = c.in_ok-before.before.expanded; second = c.in_ok-behind.behind.expanded; after = c.in_ok-behind.behind.after } in
    let first = as_trace (trace_denotation env (trace_view c.args.first.now)) (behind_term (numbers_view c.args.numbers)) in
    let second = as_trace (traces_denotation env (joined_by c.args.join) (traces_of (map trace_view c.args.rest.now))) in
    let built : AreBuilt two first second =
    two_built c.args.builder.now c.build_trace.new.builder c.args.environment (trace (trace_view c.args.first.now)) (joined c.args.join (traces_of (map trace_view c.args.rest.now))) (numbers_view c.args.numbers) (numbers_view c.in_ok-inside.inside) c.in_ok-before.before c.in_ok-behind.behind two
    c.in_ok-before.ensures.kept c.in_ok-inside.ensures refl refl refl c.in_ok-before.ensures.made c.in_ok-behind.ensures.made in
    builds _ _ c.put_joined.result _ (kept_both _ _ _ c.in_ok-before.ensures.kept c.in_ok-behind.ensures.kept)
    (IfOk-weaker c.put_joined.result _ _
    (λ _ is.
    is
    ∙ joined_built (joined_by c.args.join) two first second built
    ∙ joined_trace env (joined_by c.args.join) (trace_view c.args.first.now) c.args.rest.now (numbers_view c.args.numbers) c.requires.some)
    c.put_joined.ensures)

pub build_behind-build_trace-requires : goal.build_behind-build_trace-requires
build_behind-build_trace-requires t c =
    let env = work_at c.args.builder.now c.args.environment in
    let whole = joined_worked env c.args.traces.now c.in-Some.first.now c.in-Some.rest.now c.in-Some.ensures.cases.0 in
    let less : 5 * trace_work env (trace_view c.in-Some.first.now) + 4 < 5 * traces_work env (traces_of (map trace_view c.args.traces.now)) + 2 = omega (arith, whole) in
    search (rules, less)

pub build_behind-build_joined-requires : goal.build_behind-build_joined-requires
build_behind-build_joined-requires t c =
    let kept : IsKept c.args.builder.now c.enter_term.new.self = c.in_ok-enter_term.ensures in
    let env = work_at c.args.builder.now c.args.environment in
    let whole = joined_worked env c.args.traces.now c.in-Some.first.now c.in-Some.rest.now c.in-Some.ensures.cases.0 in
    let same = ap (λ names. traces_work names (s.one_trace (trace_view c.in-Some.first.now) (traces_of (map trace_view c.in-Some.rest.now)))) (work_kept c.args.builder.now c.enter_term.new.self c.args.environment kept) in
    let less : 5 * traces_work (work_at c.enter_term.new.self c.args.environment) (s.one_trace (trace_view c.in-Some.first.now) (traces_of (map trace_view c.in-Some.rest.now))) + 1 < 5 * traces_work env (traces_of (map trace_view c.args.traces.now)) + 2 = omega (arith, whole, same) in
    let not_none = eqb-false _ _ (sym c.is_empty.ensures ∙ c.if-is_empty.false) in
    let some : 0 < length c.in-Some.rest.now = omega (arith, not_none) in
    let ready = ready_kept _ _ _ kept c.requires in
    search (rules, less, some, ready)

pub build_behind-returns-in_default : goal.build_behind-returns-in_default
build_behind-returns-in_default t c =
    let none : c.args.traces.now ≡ [] = nil_from_length _ c.in_default.ensures.cases in
    builds _ _ c.build_nothing.result _ (kept_none _)
    (IfOk-weaker c.build_nothing.result _ _
    (λ _ is. is ∙ joined_none (names_at c.args.builder.now c.args.environment) (joined_by c.args.join) c.args.traces.now (numbers_view c.args.numbers) none)
    c.build_nothing.ensures)

pub build_behind-returns-then-is_empty : goal.build_behind-returns-then-is_empty
build_behind-returns-then-is_empty t c =
    let env = names_at c.args.builder.now c.args.environment in
    let none = eqb-true _ _ (sym c.is_empty.ensures ∙ c.if-is_empty.true) in
    let one = joined_one env (joined_by c.args.join) c.args.traces.now c.in-Some.first.now c.in-Some.rest.now (numbers_view c.args.numbers) c.in-Some.ensures.cases.0 none in
    IfOk-weaker c.build_trace.result _ _ (λ _ built. record { made = built.made ∙ one; kept = built.kept }) c.build_trace.ensures

pub build_behind-returns : goal.build_behind-returns
build_behind-returns t c =
    let kept : IsKept c.args.builder.now c.enter_term.new.self = c.in_ok-enter_term.ensures in
    let env = names_at c.args.builder.now c.args.environment in
    let more = joined_more env (joined_by c.args.join) c.args.traces.now c.in-Some.first.now c.in-Some.rest.now (numbers_view c.args.numbers) c.in-Some.ensures.cases.0 in
    record {
      made =
          c.in_ok-built.ensures.made
          ∙ ap (λ names. as_trace (traces_denotation names (joined_by c.args.join) (s.one_trace (trace_view c.in-Some.first.now) (traces_of (map trace_view c.in-Some.rest.now)))) (numbers_view c.args.numbers)) (names_kept c.args.builder.now c.enter_term.new.self c.args.environment kept)
          ∙ more;
      kept = kept_both _ _ _ kept (kept_both _ _ _ c.in_ok-built.ensures.kept c.leave_to.ensures);
    }

pub build_choice-returns : goal.build_choice-returns
build_choice-returns t c =
    let env = names_at c.args.builder.now c.args.environment in
    let list : alternatives_of (map part_of c.deref.result.now) ≡ alternatives c.args.written.now = ap (λ parts. alternatives_of (map part_of parts)) c.deref.ensures.value ∙ sym (alternatives_list c.args.written.now) in
    builds _ _ c.put_choice.result _ c.in_ok-chosen.ensures.kept
    (IfOk-weaker c.put_choice.result _ _
    (λ _ is.
    is
    ∙ ap chosen c.in_ok-chosen.ensures.made
    ∙ (λ i. chosen (parts_of env (list i) (c.in_ok-inside.ensures i))))
    c.put_choice.ensures)

pub build_met-truncate-requires : goal.build_met-truncate-requires
build_met-truncate-requires t c = enough _ _ _ _ c.in_ok-form.ensures.adds c.in_ok-built.ensures.kept.names c.len-before.ensures
