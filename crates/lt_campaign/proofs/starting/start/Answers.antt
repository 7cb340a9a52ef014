-- The rows of a start.
use Rattle.std.proofs.Common.{None, Some, Err, [], ◌∷◌, ap, append-nil, map, subst, sym}
use Rattle.lt_loop.specs.declared.event.Wants.TheVariants as wants
use Rattle.lt_loop.specs.InputSource.{InputSource}
use Rattle.lt_rif.specs.declared.end.Who.TheVariants as who
use Rattle.lt_session.specs.Session.{Opens}
use Rattle.lt_session.specs.Side.{IsNotStarted, IsOf, side_link}
use Rattle.lt_session.specs.SidesView.{inputs_of, oracle_of}
use Rattle.lt_campaign.specs.RunView.{session_view}
use Rattle.lt_campaign.specs.Session.{at_controller, at_oracle, both, no_controller, no_oracle}
use Rattle.lt_campaign.specs.declared.session.Session.TheVariants as session
use Rattle.lt_campaign.proofs.Starts.{added_as, kinds_as}
use Rattle.lt_campaign.proofs.starting.start.Goals as goal

pub returns-in-Err-Failed-clause-starts : goal.returns-in-Err-Failed-clause-starts
returns-in-Err-Failed-clause-starts g c =
    let view = session_view {b = g.M.Machine} g.P.L.Link.state in
    let s = session.Unstarted who.Controller None in (
      view s,
      added_as view c.args.sessions.now.items c.add.new.sessions.items c.unstarted.result s c.add.ensures.added c.unstarted.ensures,
      no_controller (subst (λ (x : InputSource). IsNotStarted x (g.P.Spawner.state c.args.spawner.now) (g.P.Spawner.state c.open.new.spawner)) c.controller_source.ensures (c.in-Err-Failed.ensures.failed (ap (λ e. Err e) c.in-Err-Failed.field-0-is))),
    )

pub returns-in-Err-Failed-clause-kinds : goal.returns-in-Err-Failed-clause-kinds
returns-in-Err-Failed-clause-kinds g c =
    kinds_as (inputs_of c.args.sides) (oracle_of c.args.sides.oracle) c.args.sessions.now.items c.add.new.sessions.items c.unstarted.result (session.Unstarted who.Controller None) c.add.ensures.added c.unstarted.ensures tt

pub returns-in-Err-Memory-clause-starts : goal.returns-in-Err-Memory-clause-starts
returns-in-Err-Memory-clause-starts g c =
    ([], sym (append-nil (map (session_view {b = g.M.Machine} g.P.L.Link.state) c.args.sessions.now.items)), at_controller (c.in-Err-Memory.ensures.memory (ap (λ e. Err e) c.in-Err-Memory.field-0-is)))

pub returns-in-Ok-open-clause-starts : goal.returns-in-Ok-open-clause-starts
returns-in-Ok-open-clause-starts g c =
    let view = session_view {b = g.M.Machine} g.P.L.Link.state in
    let state = g.P.Spawner.state in
    let c_link = side_link g.P.L.Link.state c.in-Ok.side in
    let o_link = side_link g.P.L.Link.state c.in-Ok-open.oracle in
    let s = session.Started (record { core = c.args.core; controller = c.in-Ok.side; oracle = c.in-Ok-open.oracle; wants = wants.Turn; broken = None }) in (
      view s,
      added_as view c.args.sessions.now.items c.add-in-Ok-open.new.sessions.items c.started.result s c.add-in-Ok-open.ensures.added c.started.ensures,
      both c_link o_link (state c.open.new.spawner)
          (subst (λ (x : InputSource). Opens x (state c.args.spawner.now) (state c.open.new.spawner) c_link) c.controller_source.ensures c.in-Ok.ensures.opened)
          (subst (λ (x : InputSource). Opens x (state c.open.new.spawner) (state c.open-2.new.spawner) o_link) c.oracle_source.ensures c.in-Ok-open.ensures.opened),
    )

pub returns-in-Ok-open-clause-kinds : goal.returns-in-Ok-open-clause-kinds
returns-in-Ok-open-clause-kinds g c =
    let s = session.Started (record { core = c.args.core; controller = c.in-Ok.side; oracle = c.in-Ok-open.oracle; wants = wants.Turn; broken = None }) in
    kinds_as (inputs_of c.args.sides) (oracle_of c.args.sides.oracle) c.args.sessions.now.items c.add-in-Ok-open.new.sessions.items c.started.result s c.add-in-Ok-open.ensures.added c.started.ensures
    (subst (λ (x : InputSource). IsOf x c.in-Ok.side) c.controller_source.ensures c.in-Ok.ensures.kind, subst (λ (x : InputSource). IsOf x c.in-Ok-open.oracle) c.oracle_source.ensures c.in-Ok-open.ensures.kind)

pub returns-in-Err-Failed-open-clause-starts : goal.returns-in-Err-Failed-open-clause-starts
returns-in-Err-Failed-open-clause-starts g c =
    let view = session_view {b = g.M.Machine} g.P.L.Link.state in
    let state = g.P.Spawner.state in
    let c_link = side_link g.P.L.Link.state c.in-Ok.side in
    let s = session.Unstarted who.Oracle (Some c.in-Ok.side) in (
      view s,
      added_as view c.args.sessions.now.items c.add-in-Err-Failed-open.new.sessions.items c.unstarted-in-Err-Failed-open.result s c.add-in-Err-Failed-open.ensures.added c.unstarted-in-Err-Failed-open.ensures,
      no_oracle c_link (state c.open.new.spawner)
          (subst (λ (x : InputSource). Opens x (state c.args.spawner.now) (state c.open.new.spawner) c_link) c.controller_source.ensures c.in-Ok.ensures.opened)
          (subst (λ (x : InputSource). IsNotStarted x (state c.open.new.spawner) (state c.open-2.new.spawner)) c.oracle_source.ensures (c.in-Err-Failed-open.ensures.failed (ap (λ e. Err e) c.in-Err-Failed-open.field-0-is))),
    )

pub returns-in-Err-Failed-open-clause-kinds : goal.returns-in-Err-Failed-open-clause-kinds
returns-in-Err-Failed-open-clause-kinds g c =
    kinds_as (inputs_of c.args.sides) (oracle_of c.args.sides.oracle) c.args.sessions.now.items c.add-in-Err-Failed-open.new.sessions.items c.unstarted-in-Err-Failed-open.result (session.Unstarted who.Oracle (Some c.in-Ok.side)) c.add-in-Err-Failed-open.ensures.added c.unstarted-in-Err-Failed-open.ensures
    (subst (λ (x : InputSource). IsOf x c.in-Ok.side) c.controller_source.ensures c.in-Ok.ensures.kind)

pub returns-clause-starts : goal.returns-clause-starts
returns-clause-starts g c =
    let view = session_view {b = g.M.Machine} g.P.L.Link.state in
    let state = g.P.Spawner.state in
    let c_link = side_link g.P.L.Link.state c.in-Ok.side in
    let s = session.Unstarted who.Oracle (Some c.in-Ok.side) in (
      view s ∷ [],
      added_as view c.args.sessions.now.items c.add-in-Err-Memory-open.new.sessions.items c.unstarted-in-Err-Memory-open.result s c.add-in-Err-Memory-open.ensures.added c.unstarted-in-Err-Memory-open.ensures,
      at_oracle c_link (state c.open.new.spawner)
          (subst (λ (x : InputSource). Opens x (state c.args.spawner.now) (state c.open.new.spawner) c_link) c.controller_source.ensures c.in-Ok.ensures.opened)
          (c.in-Err-Memory-open.ensures.memory (ap (λ e. Err e) c.in-Err-Memory-open.field-0-is)),
    )

pub returns-clause-kinds : goal.returns-clause-kinds
returns-clause-kinds g c =
    kinds_as (inputs_of c.args.sides) (oracle_of c.args.sides.oracle) c.args.sessions.now.items c.add-in-Err-Memory-open.new.sessions.items c.unstarted-in-Err-Memory-open.result (session.Unstarted who.Oracle (Some c.in-Ok.side)) c.add-in-Err-Memory-open.ensures.added c.unstarted-in-Err-Memory-open.ensures
    (subst (λ (x : InputSource). IsOf x c.in-Ok.side) c.controller_source.ensures c.in-Ok.ensures.kind)
