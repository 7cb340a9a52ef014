-- The rows of a campaign.
use Rattle.std.proofs.Common.{map, refl, sym}
use Rattle.lt_loop.specs.CoreView.{core_state}
use Rattle.lt_session.specs.SidesView.{inputs_of, oracle_of}
use Rattle.lt_campaign.specs.EndView.{blamed_view}
use Rattle.lt_campaign.specs.RunView.{session_view}
use Rattle.lt_campaign.proofs.Plays.{all_fit, all_started, all_written, no_more_room, no_room, some_started, some_written}
use Rattle.lt_campaign.proofs.Starts.{same_here}
use Rattle.lt_campaign.proofs.campaign.play_campaign.Goals as goal

pub returns-in_default : goal.returns-in_default
returns-in_default g c =
    let now = g.P.Spawner.state c.args.spawner.now in
    let trace = g.S.Sink.state c.args.trace.now in
    no_room (inputs_of c.args.sides) (oracle_of c.args.sides.oracle) (map (core_state {b = g.M.Machine}) c.args.cores.items) now now now trace trace
    c.unplayed.result.end (blamed_view {b = g.M.Machine} c.unplayed.result.blamed) c.unplayed.ensures.end c.unplayed.ensures.none (same_here now) refl

pub returns-then-is_err : goal.returns-then-is_err
returns-then-is_err g c =
    let i = inputs_of c.args.sides in
    let o = oracle_of c.args.sides.oracle in
    let cores = map (core_state {b = g.M.Machine}) c.args.cores.items in
    let state = g.P.Spawner.state in
    let trace = g.S.Sink.state c.args.trace.now in
    let old = state c.args.spawner.now in
    let later = state c.start_all.new.spawner in
    let ss = map (session_view {b = g.M.Machine} g.P.L.Link.state) c.start_all.new.sessions.items in
    let end = c.unplayed-then-is_err in
    no_more_room i o cores old later (state c.close_all.new.spawner) trace trace end.result.end (blamed_view {b = g.M.Machine} end.result.blamed) ss end.ensures.end end.ensures.none
    (some_started i o c.start_all.result cores old later ss (sym c.if-is_err.ensures.value) c.start_all.ensures.starts) (c.close_all.ensures.closes i o c.start_all.ensures.kinds) refl

pub play_sessions-played-requires-clause-fit : goal.play_sessions-played-requires-clause-fit
play_sessions-played-requires-clause-fit g c =
    let i = inputs_of c.args.sides in
    let o = oracle_of c.args.sides.oracle in
    let cores = map (core_state {b = g.M.Machine}) c.args.cores.items in
    let state = g.P.Spawner.state in
    let old = state c.args.spawner.now in
    let later = state c.start_all.new.spawner in
    let ss = map (session_view {b = g.M.Machine} g.P.L.Link.state) c.start_all.new.sessions.items in
    all_fit i o cores old later ss c.requires (all_started i o c.start_all.result cores old later ss (sym c.if-is_err.ensures.value) c.start_all.ensures.starts)

pub returns-in-Ok-played : goal.returns-in-Ok-played
returns-in-Ok-played g c =
    let i = inputs_of c.args.sides in
    let o = oracle_of c.args.sides.oracle in
    let cores = map (core_state {b = g.M.Machine}) c.args.cores.items in
    let state = g.P.Spawner.state in
    let view = session_view {b = g.M.Machine} g.P.L.Link.state in
    let old = state c.args.spawner.now in
    let later = state c.start_all.new.spawner in
    let first = map view c.start_all.new.sessions.items in
    let last = map view c.play_sessions-played.new.sessions.items in
    all_written i o cores old later (state c.close_all-blamed.new.spawner) (g.S.Sink.state c.args.trace.now) (g.S.Sink.state c.play_sessions-played.new.trace) first last
    (all_started i o c.start_all.result cores old later first (sym c.if-is_err.ensures.value) c.start_all.ensures.starts)
    (c.close_all-blamed.ensures.closes i o (c.play_sessions-played.ensures.kinds i o c.start_all.ensures.kinds))
    (blamed_view {b = g.M.Machine} c.close_all-blamed.result) c.close_all-blamed.ensures.blames c.in-Ok-played.ensures.writes

pub returns : goal.returns
returns g c =
    let i = inputs_of c.args.sides in
    let o = oracle_of c.args.sides.oracle in
    let cores = map (core_state {b = g.M.Machine}) c.args.cores.items in
    let state = g.P.Spawner.state in
    let view = session_view {b = g.M.Machine} g.P.L.Link.state in
    let old = state c.args.spawner.now in
    let later = state c.start_all.new.spawner in
    let first = map view c.start_all.new.sessions.items in
    let last = map view c.play_sessions-played.new.sessions.items in
    let end = c.unplayed-in-Err in
    some_written i o cores old later (state c.close_all-blamed.new.spawner) (g.S.Sink.state c.args.trace.now) (g.S.Sink.state c.play_sessions-played.new.trace) first last
    (all_started i o c.start_all.result cores old later first (sym c.if-is_err.ensures.value) c.start_all.ensures.starts)
    (c.close_all-blamed.ensures.closes i o (c.play_sessions-played.ensures.kinds i o c.start_all.ensures.kinds))
    end.result.end (blamed_view {b = g.M.Machine} end.result.blamed) end.ensures.end end.ensures.none c.in-Err.ensures.writes
