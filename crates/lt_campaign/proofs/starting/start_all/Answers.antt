-- One more session was started, or memory ran out.
use Rattle.std.proofs.Common.{◌∙◌, drop, length, map, subst, suc, sym}
use Rattle.std.specs.declared.result.Result.{Result}
use Rattle.std.proofs.lemmas.Iterator.Adapters.{YieldsList-from_vec}
use Rattle.std.proofs.lemmas.Iterator.Consumers.{YieldsList-so_far, YieldsList-turn}
use Rattle.std.proofs.lemmas.List.{map-id}
use Rattle.std.proofs.lemmas.Result.{err_from_is_err_and}
use Rattle.lt_loop.specs.CoreView.{core_state}
use Rattle.lt_session.specs.SidesView.{inputs_of, oracle_of}
use Rattle.lt_campaign.specs.RunView.{session_view}
use Rattle.lt_campaign.specs.declared.starting.NoMemory.{NoMemory}
use Rattle.lt_campaign.specs.inner.Starting.{StartsAll}
use Rattle.lt_campaign.proofs.Starts.{one_longer, split_there, start_next, start_stops}
use Rattle.lt_campaign.proofs.starting.start_all.Goals as goal

pub loop-core-preserved : goal.loop-core-preserved
loop-core-preserved g c =
    let view = session_view {b = g.M.Machine} g.P.L.Link.state in
    let state = g.P.Spawner.state in
    let one = c.in_ok-start.ensures.starts in
    let so_far = c.loop-core.invariant in
    let old = c.loop-core.sessions.items in
    let new = c.start.new.sessions.items in
    record {
      starts = start_next (core_state {b = g.M.Machine}) (inputs_of c.args.sides) (oracle_of c.args.sides.oracle) c.loop-core.yielded c.in-Some.core (state c.args.spawner.now) (state c.loop-core.spawner) (state c.start.new.spawner) (map view old) (map view new) one.0 so_far.starts one.1 one.2;
      kinds = c.start.ensures.kinds so_far.kinds;
      count = one_longer view old new one.0 c.loop-core.yielded c.in-Some.core one.1 so_far.count;
      room = c.start.ensures.room ∙ so_far.room;
    }

pub returns-in_err-start-clause-starts : goal.returns-in_err-start-clause-starts
returns-in_err-start-clause-starts g c =
    let view = session_view {b = g.M.Machine} g.P.L.Link.state in
    let state = g.P.Spawner.state in
    let one = c.in_err-start.ensures.starts in
    let all = c.args.cores.items in
    let front = c.loop-core.yielded in
    let old = c.loop-core.sessions.items in
    let new = c.start.new.sessions.items in
    let gives = c.into_iter-core-iterator.ensures.into_iter_gives in
    let road = YieldsList-from_vec {s = c.into_iter-core-iterator.result} all gives.0 (gives.1 ∙ c.args.cores.ok.0) in
    let turn = YieldsList-turn road front c.loop-core.core-iterator c.loop-core.yielded_by c.next.result c.next.new.self c.in-Some.core c.in-Some.is c.next.ensures.steps in
    let is = split_there all front c.in-Some.core (sym (map-id front) ∙ YieldsList-so_far road front c.loop-core.core-iterator c.loop-core.yielded_by) turn.0 turn.1 in
    let failed = err_from_is_err_and c.from_residual.result c.from_residual.ensures.1 in
    subst (λ (r : Result (Unit {0}) NoMemory). StartsAll r (inputs_of c.args.sides) (oracle_of c.args.sides.oracle) (map (core_state {b = g.M.Machine}) all) (state c.args.spawner.now) (state c.start.new.spawner) (map view new)) (sym failed.1)
    (start_stops (core_state {b = g.M.Machine}) (inputs_of c.args.sides) (oracle_of c.args.sides.oracle) all front (drop (suc (length front)) all) c.in-Some.core (state c.args.spawner.now) (state c.loop-core.spawner) (state c.start.new.spawner)
    (map view old) (map view new) one.0 is c.loop-core.invariant.starts one.1 one.2)
