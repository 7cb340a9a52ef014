use Rattle.std.proofs.Common.{rules, ◌≡◌, ◌<◌, Some, Ok, Err, map, length, refl, ap, sym, ◌∙◌, subst, arith}
use Rattle.std.proofs.lemmas.Grind.{common_steps}
use Rattle.std.proofs.lemmas.List.{map_push}
use Rattle.std.proofs.lemmas.Result.{err_from_is_err_and}
use Rattle.lt_ast.specs.View.{program, run}
use Rattle.lt_expand.specs.Calls.{call_view}
use Rattle.lt_expand.specs.Nested.{most_runs, runs_in_nest}
use Rattle.lt_expand.specs.Refusals.{refusals_of}
use Rattle.lt_macros.specs.Answer.{asked_name}
use Rattle.lt_macros.specs.Expansion.{expanded_node}
use Rattle.lt_term.specs.SceneView.{scene}
use Rattle.lt_frontend.specs.Nest as n
use Rattle.lt_frontend.specs.Nest.{IsNestAnswer, runs_with}
use Rattle.lt_frontend.specs.NestView.{nest}
use Rattle.lt_frontend.specs.declared.refusal.Refusal.{Refusal}
use Rattle.lt_frontend.proofs.Nesting.{all_inside, fewer_at, is_made, made_so, onward_first, onward_next, refused_inside, still_few, told_so}
use Rattle.lt_frontend.proofs.Telling.{head_of, refused_expansion}
use Rattle.lt_frontend.proofs.nest.+nest_of.Goals as goal

pub loop-declared-init : goal.loop-declared-init
loop-declared-init t c = onward_first c.args.typed.now.decimals (program c.args.typed.now.program) c.runs_in-declared-items.result.now (map nest c.new-inner.result.items) (ap (map nest) c.new-inner.ensures.items)

pub small_nest-requires : goal.small_nest-requires
small_nest-requires t c =
    let ds = program c.args.typed.now.program in
    let most = runs_in_nest (asked_name c.args.node) ds in
    let less = fewer_at (λ q. runs_in_nest (Some q) ds) most c.runs_in-declared-items.result.now c.loop-declared.declared-index c.declared-item.result c.loop-declared-test.true c.declared-item.is c.runs_in-declared-items.ensures.fewer in
    let below : runs_in_nest (Some c.as_str.result.now) ds < most = subst (λ q. runs_in_nest (Some q) ds < most) (sym c.as_str.ensures) less in
    (omega (arith, c.decreases), (c.requires.nesting, still_few (runs_in_nest (Some c.as_str.result.now) ds) most most_runs below c.requires.few))

pub returns-in_err-small_nest-clause-refused : goal.returns-in_err-small_nest-clause-refused
returns-in_err-small_nest-clause-refused t c =
    let p = err_from_is_err_and c.from_residual.result c.from_residual.ensures.1 in
    let ds = program c.args.typed.now.program in
    let told = told_so (λ reason. IsNestAnswer c.args.typed.now.decimals ds (Some c.as_str.result.now) (Err reason)) (λ reason. IsNestAnswer c.args.typed.now.decimals ds (asked_name c.args.node) (Err reason)) c.in_err-small_nest.field-0.0
    (λ reason h. refused_inside c.args.typed.now.decimals ds (asked_name c.args.node) c.runs_in-declared-items.result.now c.loop-declared.declared-index (map nest c.loop-declared.inner.items) c.declared-item.result c.as_str.result.now reason
    c.runs_in-declared-items.ensures.runs c.loop-declared-test.true c.declared-item.is c.as_str.ensures c.loop-declared.invariant h)
    c.in_err-small_nest.ensures.refused in
    rw (p.1, p.2) told

pub loop-declared-preserved : goal.loop-declared-preserved
loop-declared-preserved t c =
    onward_next c.args.typed.now.decimals (program c.args.typed.now.program) c.runs_in-declared-items.result.now c.loop-declared.declared-index (map nest c.loop-declared.inner.items) (map nest c.push.new.self.items)
    c.declared-item.result c.as_str.result.now (nest c.in_ok-small_nest.field-0) c.loop-declared-test.true c.declared-item.is c.as_str.ensures c.in_ok-small_nest.ensures.made
    (ap (map nest) c.in_ok-push.ensures.items ∙ map_push nest c.loop-declared.inner.items c.in_ok-small_nest.field-0) c.loop-declared.invariant

pub returns-in_err-made-clause-refused : goal.returns-in_err-made-clause-refused
returns-in_err-made-clause-refused t c =
    let p = err_from_is_err_and c.from_residual-in_err-made.result c.from_residual-in_err-made.ensures.1 in
    let ds = program c.args.typed.now.program in
    let wanted = asked_name c.args.node in
    let all = all_inside c.args.typed.now.decimals ds wanted c.runs_in-declared-items.result.now c.loop-declared.declared-index (map nest c.loop-declared.inner.items) c.runs_in-declared-items.ensures.runs c.loop-declared-test.false c.loop-declared.invariant in
    rw (p.1, p.2) (refused_expansion (λ reason. IsNestAnswer c.args.typed.now.decimals ds wanted (Err reason)) c.args.typed.now.decimals (runs_in_nest wanted ds) (expanded_node c.args.typed.now.decimals wanted ds) c.in_err-made.field-0.0
    (λ why e. IsNestAnswer.itself wanted (map nest c.loop-declared.inner.items) why all (head_of (refusals_of c.args.typed.now.decimals (runs_in_nest wanted ds) (expanded_node c.args.typed.now.decimals wanted ds)) why e)) c.in_err-made.ensures)

pub invariant_of-made : goal.invariant_of-made
invariant_of-made t c =
    let made = c.in_ok-made.made.scenario in
    record {
      few_decimals = made.few_decimals;
      few_inputs = made.few_inputs;
      few_drawn = made.few_drawn;
      kinds = made.kinds;
      within = made.within;
      scopes = made.scopes;
      loops = made.loops;
      inside = made.inside;
      at_start = made.at_start;
      narrow = made.narrow;
      named = made.named;
      typed = made.typed;
      linear = made.linear;
      conditions = made.conditions;
      weights = made.weights;
      few_expressions = made.few_expressions;
      few_nodes = made.few_nodes;
      flat = made.flat;
      shallow = made.shallow;
    }

pub invariant_of-made-then-branch : goal.invariant_of-made-then-branch
invariant_of-made-then-branch t c =
    let made = c.in_ok-made.made.scenario in
    record {
      few_decimals = made.few_decimals;
      few_inputs = made.few_inputs;
      few_drawn = made.few_drawn;
      kinds = made.kinds;
      within = made.within;
      scopes = made.scopes;
      loops = made.loops;
      inside = made.inside;
      at_start = made.at_start;
      narrow = made.narrow;
      named = made.named;
      typed = made.typed;
      linear = made.linear;
      conditions = made.conditions;
      weights = made.weights;
      few_expressions = made.few_expressions;
      few_nodes = made.few_nodes;
      flat = made.flat;
      shallow = made.shallow;
    }

pub returns-then-branch-clause-refused : goal.returns-then-branch-clause-refused
returns-then-branch-clause-refused t c =
    let ds = program c.args.typed.now.program in
    let wanted = asked_name c.args.node in
    let inner = map nest c.loop-declared.inner.items in
    let made : n.Nest = record {
      scene = scene c.in_ok-made.made.scenario;
      own_inputs = c.in_ok-made.made.own_inputs;
      runs = runs_with (map call_view c.in_ok-made.made.calls.items) inner;
    } in
    let all = all_inside c.args.typed.now.decimals ds wanted c.runs_in-declared-items.result.now c.loop-declared.declared-index inner c.runs_in-declared-items.ensures.runs c.loop-declared-test.false c.loop-declared.invariant in
    let own = is_made c.args.typed.now.decimals ds wanted inner made c.in_ok-made.made c.in_ok-made.ensures refl refl refl in
    IsNestAnswer.crowded wanted inner made all own (sym c.in_ok-has_too_many_atoms.ensures ∙ c.if-branch.true)

pub returns-clause-made : goal.returns-clause-made
returns-clause-made t c =
    let ds = program c.args.typed.now.program in
    let wanted = asked_name c.args.node in
    let inner = map nest c.loop-declared.inner.items in
    let made : n.Nest = record {
      scene = scene c.in_ok-made.made.scenario;
      own_inputs = c.in_ok-made.made.own_inputs;
      runs = runs_with (map call_view c.in_ok-made.made.calls.items) inner;
    } in
    let all = all_inside c.args.typed.now.decimals ds wanted c.runs_in-declared-items.result.now c.loop-declared.declared-index inner c.runs_in-declared-items.ensures.runs c.loop-declared-test.false c.loop-declared.invariant in
    let own = is_made c.args.typed.now.decimals ds wanted inner made c.in_ok-made.made c.in_ok-made.ensures refl refl refl in
    let answer = IsNestAnswer.has_nest wanted inner made all own (sym c.in_ok-has_too_many_atoms.ensures ∙ c.if-branch.false) in
    made_so c.put_together.result (λ joined. nest joined ≡ made) (λ joined. IsNestAnswer c.args.typed.now.decimals ds wanted (Ok (nest joined)))
    (λ joined e. subst (λ m. IsNestAnswer c.args.typed.now.decimals ds wanted (Ok m)) (sym e) answer) c.put_together.ensures.made
