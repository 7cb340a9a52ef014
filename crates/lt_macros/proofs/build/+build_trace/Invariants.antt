use Rattle.std.proofs.Common.{◌≡◌, false, ◌≤◌, ◌+◌, ◌*◌, map, drop}
use Rattle.lt_ast.specs.Syntax as s
use Rattle.lt_ast.specs.View.{alternatives, exp, groupings, limits, trace as trace_view, word}
use Rattle.lt_ast.specs.inner.Lists.{alternatives_of, traces_of}
use Rattle.lt_ast.specs.inner.Rows.{maybe_trace, part_of}
use Rattle.lt_macros.specs.Denotation.{parts_of}
use Rattle.lt_macros.specs.inner.Builder.{IsKept, names_at, work_at}
use Rattle.lt_macros.specs.inner.Built.{parts_onto}
use Rattle.lt_macros.specs.inner.HeadNormalForm.{form_reads}
use Rattle.lt_macros.specs.inner.Numbers.{numbers_view}
use Rattle.lt_macros.specs.inner.Phrase.{braces, joined, trace}
use Rattle.lt_macros.specs.inner.Reading.{worked, phrase_view}
use Rattle.lt_macros.specs.inner.Rows.{rows}
use Rattle.lt_macros.specs.inner.Work.{alternatives_work}
use Rattle.lt_macros.proofs.build.+build_trace.Given as goal

-- what is left to do is less
abbrev pub decreases-build_trace : goal.decreases-build_trace
decreases-build_trace l = 5 * worked.phrase (work_at l.builder.now l.environment) (phrase_view l.phrase) + 4

abbrev pub decreases-build_met : goal.decreases-build_met
decreases-build_met l = 5 * worked.phrase (work_at l.builder.now l.environment) (phrase_view l.phrase) + 3

abbrev pub decreases-build_trace_form : goal.decreases-build_trace_form
decreases-build_trace_form l = 5 * form_reads worked (rows l.builder.now.scope) l.form + 2

abbrev pub decreases-build_two : goal.decreases-build_two
decreases-build_two l = 5 * (worked.phrase (work_at l.builder.now l.environment) (phrase_view l.first) + worked.phrase (work_at l.builder.now l.environment) (phrase_view l.second)) + 5

abbrev pub decreases-build_loop : goal.decreases-build_loop
decreases-build_loop l = 5 * worked.phrase (work_at l.builder.now l.environment) (trace (s.loop (limits l.written.now) (trace_view l.body.now)))

abbrev pub decreases-build_assert : goal.decreases-build_assert
decreases-build_assert l = 5 * worked.phrase (work_at l.builder.now l.environment) (trace (s.assert (exp l.always.now) (trace_view l.body.now)))

abbrev pub decreases-build_exist : goal.decreases-build_exist
decreases-build_exist l = 5 * worked.phrase (work_at l.builder.now l.environment) (trace (s.exist (groupings l.groups.now) (trace_view l.body.now)))

abbrev pub decreases-build_parts : goal.decreases-build_parts
decreases-build_parts l = 5 * alternatives_work (work_at l.builder.now l.environment) (alternatives_of (map part_of l.written.now))

abbrev pub decreases-build_joined : goal.decreases-build_joined
decreases-build_joined l = 5 * worked.phrase (work_at l.builder.now l.environment) (joined l.join (s.one_trace (trace_view l.first.now) (traces_of (map trace_view l.rest.now)))) + 1

abbrev pub decreases-build_behind : goal.decreases-build_behind
decreases-build_behind l = 5 * worked.phrase (work_at l.builder.now l.environment) (joined l.join (traces_of (map trace_view l.traces.now))) + 2

abbrev pub decreases-build_choice : goal.decreases-build_choice
decreases-build_choice l = 5 * worked.phrase (work_at l.builder.now l.environment) (braces (s.choice false (alternatives l.written.now))) + 1

abbrev pub decreases-build_catch : goal.decreases-build_catch
decreases-build_catch l = 5 * worked.phrase (work_at l.builder.now l.environment) (trace (s.catch (word l.name.now) (trace_view l.body.now) (maybe_trace l.handler.now))) + 1

abbrev pub decreases-build_try : goal.decreases-build_try
decreases-build_try l = 5 * worked.phrase (work_at l.builder.now l.environment) (trace (s.try (trace_view l.body.now) (maybe_trace l.handler.now))) + 1

-- the other alternatives are still to be built
abbrev pub invariant-build_parts-loop-part : goal.invariant-build_parts-loop-part
invariant-build_parts-loop-part l =
    record {
      tree :
          parts_onto l.items.items (parts_of (names_at l.fn.builder l.fn.environment) (alternatives_of (map part_of (drop l.part-index l.written))) (numbers_view l.numbers))
          ≡ parts_of (names_at l.fn.builder l.fn.environment) (alternatives_of (map part_of l.written)) (numbers_view l.fn.before);
      work :
          alternatives_work (work_at l.fn.builder l.fn.environment) (alternatives_of (map part_of (drop l.part-index l.written)))
          ≤ alternatives_work (work_at l.fn.builder l.fn.environment) (alternatives_of (map part_of l.written));
      kept : IsKept l.fn.builder l.builder;
    }
