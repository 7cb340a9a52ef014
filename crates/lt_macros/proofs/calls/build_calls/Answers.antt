use Rattle.std.proofs.Common.{◌≡◌, ◌<◌, ◌+◌, ◌++◌, ◌∷◌, List, [], length, map, take, ap, sym, ◌∙◌, arith}
use Rattle.std.proofs.lemmas.List.{map-append}
use Rattle.lt_ast.specs.View.{run, word}
use Rattle.lt_formula.specs.declared.role.Role.TheVariants as role
use Rattle.lt_macros.specs.Environment.{Environment, with_variables}
use Rattle.lt_macros.specs.Expanded.{Call}
use Rattle.lt_macros.specs.Denotation.{Denotation}
use Rattle.lt_macros.specs.Expansion.{Runnable, call_of, outputs_of, with_calls, with_declared}
use Rattle.lt_macros.specs.Tree.{call}
use Rattle.lt_macros.specs.inner.Asking.{runnables}
use Rattle.lt_macros.specs.inner.Builder.{IsKept, names_at}
use Rattle.lt_macros.specs.inner.Reading.{environment, meant}
use Rattle.lt_macros.specs.inner.Rows.{rows}
use Rattle.lt_macros.proofs.Adding.{adds_length}
use Rattle.lt_macros.proofs.Building.{adds_kept, names_kept}
use Rattle.lt_macros.proofs.Runs.{all_made, calls_left, given, given_more, run_made, runnables_kept, shown_many, shown_names, there_more, visible_more}
use Rattle.lt_macros.proofs.calls.build_calls.Goals as goal

pub build_call-requires-clause-there : goal.build_call-requires-clause-there
build_call-requires-clause-there c =
    let old = rows c.args.builder.now.scope in
    let new = rows c.loop-declared.builder.scope in
    there_more (length old) (length new) c.args.before.now (adds_length old new c.loop-declared.invariant.grown.names) c.requires.there

pub taken_names-names-requires : goal.taken_names-names-requires
taken_names-names-requires c =
    let many : c.len.result ≡ length c.in_ok-made.made.names.items = omega (arith, c.in_ok-made.made.names.ok.0) in
    omega (arith, many, c.in_ok-made.ensures.few, ap length c.deref.ensures.value)

pub loop-declared-preserved : goal.loop-declared-preserved
loop-declared-preserved c =
    let more : c.loop-declared.declared-index < length c.args.runs.now = omega (arith, c.loop-declared-test.true, c.loop-declared.auto.declared-index-end) in
    let b0 = c.args.builder.now in
    let b = c.loop-declared.builder in
    let mid = c.build_call.new.builder in
    let new = rows c.show_names.new.scope in
    let at = c.loop-declared.visible in
    let next = c.in_ok-visible.visible in
    let r = c.declared-item.result in
    let written = r.names.items.items in
    let before = map call c.loop-declared.calls.items in
    let one : Call = call c.in_ok-made.made in
    let kept : IsKept b mid = c.in_ok-made.ensures.made.kept in
    let grown = c.loop-declared.invariant.grown in
    let env : Environment Denotation = names_at b at.environment in
    let inner : Environment Denotation = environment (meant mid.decimals) new next.environment in
    let known : List Runnable = runnables b0.decimals (rows b0.scope) c.args.before.now in
    let same : runnables b.decimals (rows b.scope) c.args.before.now ≡ known =
    ap (λ d. runnables d (rows b.scope) c.args.before.now) grown.decimals ∙ runnables_kept b0.decimals (rows b0.scope) (rows b.scope) c.args.before.now grown.names c.requires.there in
    let made : one ≡ call_of known env (run r) = c.in_ok-made.ensures.made.made ∙ ap (λ ks. call_of ks env (run r)) same in
    let many : c.len.result ≡ length c.in_ok-made.made.names.items = omega (arith, c.in_ok-made.made.names.ok.0) in
    let taken : c.taken_names-names.result.now ≡ take (length c.in_ok-made.made.names.items) written =
    c.taken_names-names.ensures ∙ (λ i. take (many i) (c.deref.ensures.value i)) in
    let shown : inner ≡ with_variables role.Input at.next (map word c.taken_names-names.result.now) env =
    c.in_ok-visible.ensures.visible mid.decimals ∙ ap (with_variables role.Input at.next (map word c.taken_names-names.result.now)) (names_kept b mid at.environment kept) in
    let visible : inner ≡ with_declared role.Input at.next one.names env =
    shown_names at.next env.decimals written c.taken_names-names.result.now (outputs_of known (word r.node).text) c.in_ok-made.made.names.items env inner (ap (λ (x : Call). x.names) made) taken shown in
    let moved : next.next ≡ at.next + length one.names = shown_many at.next next.next written c.taken_names-names.result.now c.in_ok-made.made.names.items c.in_ok-made.ensures.few taken c.in_ok-visible.ensures.next in
    let pushed : map call c.push.new.self.items ≡ before ++ one ∷ [] = ap (map call) c.in_ok-push.ensures.items ∙ map-append call c.loop-declared.calls.items (c.in_ok-made.made ∷ []) in
    record {
      made =
          ap (λ cs. cs ++ calls_left known next.next inner c.args.runs.now (c.loop-declared.declared-index + 1)) pushed
          ∙ run_made known at.next next.next env inner before _ c.args.runs.now c.loop-declared.declared-index r one more c.declared-item.is made visible moved c.loop-declared.invariant.made;
      visible =
          visible
          ∙ (λ i. with_declared role.Input (c.loop-declared.invariant.next i) one.names (c.loop-declared.invariant.visible i))
          ∙ sym (visible_more c.args.first before one (names_at b0 c.args.outer))
          ∙ sym (ap (λ cs. with_calls c.args.first cs (names_at b0 c.args.outer)) pushed);
      next = omega (arith, moved, c.loop-declared.invariant.next, given_more before one, ap (λ cs. length (given cs)) pushed);
      ready = record { within = c.in_ok-visible.ensures.within; right = c.in_ok-visible.ensures.right };
      grown =
          record {
            names = adds_kept (rows b0.scope) (rows b.scope) (rows mid.scope) new grown.names kept.names c.in_ok-visible.ensures.adds;
            decimals = kept.decimals ∙ grown.decimals;
          };
    }

pub returns-clause-calls : goal.returns-clause-calls
returns-clause-calls c =
    all_made (runnables c.args.builder.now.decimals (rows c.args.builder.now.scope) c.args.before.now) c.loop-declared.visible.next (names_at c.loop-declared.builder c.loop-declared.visible.environment) (map call c.loop-declared.calls.items) _ c.args.runs.now c.loop-declared.declared-index
    c.loop-declared-test.false c.loop-declared.invariant.made
