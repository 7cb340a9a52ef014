use Rattle.std.proofs.Common.{◌≡◌, List, refl, ap, sym, ◌∙◌}
use Rattle.std.proofs.lemmas.Iterator.{YieldsList-from_zip}
use Rattle.std.proofs.lemmas.Iterator.Adapters.{YieldsList-from_vec}
use Rattle.std.proofs.lemmas.Iterator.Consumers.{YieldsList-end}
use Rattle.lt_term.specs.SceneView.{scene}
use Rattle.lt_frontend.specs.Nest.{no_run}
use Rattle.lt_frontend.proofs.Rows.{all_pairs, pairs_before, pushed, runs_before, runs_whole, same_pairs}
use Rattle.lt_frontend.proofs.nest.put_together.Goals as goal

pub loop-call-init : goal.loop-call-init
loop-call-init c = λ rest. ap (λ l. runs_before l rest) c.new-items.ensures.items

pub loop-call-preserved : goal.loop-call-preserved
loop-call-preserved c =
    pushed c.loop-call.items.items c.push.new.self.items c.put_run.result c.loop-call.yielded (c.in-Some.call, c.in-Some.inner) c.in_ok-push.ensures.items c.loop-call.invariant c.put_run.ensures

pub invariant_of-scenario : goal.invariant_of-scenario
invariant_of-scenario c =
    let made = c.args.made.scenario in
    record {
      few_decimals = made.few_decimals;
      few_inputs = made.few_inputs;
      few_drawn = made.few_drawn;
      kinds = made.kinds;
      within = made.within;
      scopes = made.scopes;
      loops = made.loops;
      inside = made.inside;
      at_start = made.at_start;
      narrow = made.narrow;
      named = made.named;
      typed = made.typed;
      linear = made.linear;
      conditions = made.conditions;
      weights = made.weights;
      few_expressions = made.few_expressions;
      few_nodes = made.few_nodes;
      flat = made.flat;
      shallow = made.shallow;
    }

pub returns-clause-made : goal.returns-clause-made
returns-clause-made c =
    let calls = c.args.made.calls.items in
    let inner = c.args.inner.items in
    let e = YieldsList-end (YieldsList-from_zip {s = c.into_iter-call-iterator.result} (YieldsList-from_vec calls (cc) (cc)) (YieldsList-from_vec inner (cc) (cc))) c.loop-call.yielded c.loop-call.call-iterator c.loop-call.yielded_by c.next.result c.next.new.self c.in-None.is c.next.ensures.steps in
    let made = runs_whole c.loop-call.items ∙ c.loop-call.invariant no_run ∙ ap (λ ps. pairs_before ps no_run) (sym (same_pairs c.loop-call.yielded) ∙ e.0) ∙ all_pairs calls inner in
    ap (λ rs. record { scene = scene c.args.made.scenario; own_inputs = c.args.made.own_inputs; runs = rs }) made
