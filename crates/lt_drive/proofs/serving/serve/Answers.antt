use Rattle.std.proofs.Common.{subst, sym}
use Rattle.lt_loop.specs.Event.{told}
use Rattle.lt_drive.specs.Served.{IsServed, of_controller, of_oracle, of_turn}
use Rattle.lt_drive.proofs.serving.serve.Goals as goal

pub returns-in-Turn-clause-served : goal.returns-in-Turn-clause-served
returns-in-Turn-clause-served g c =
    subst (λ w. IsServed g.R.Reactor.answers
    (record { core = g.R.Reactor.state c.args.core.now; links = record { controller = g.C.Link.state c.args.controller.now; oracle = g.O.Link.state c.args.oracle.now } })
    (record { core = g.R.Reactor.state c.tell.new.core; links = record { controller = g.C.Link.state c.tell.new.controller; oracle = g.O.Link.state c.tell.new.oracle } })
    (g.R.Reactor.shown c.tell.new.core) w c.tell.result) (sym c.in-Turn.is) (of_turn c.tell.result c.tell.ensures.told)

pub returns-in-Controller-clause-served : goal.returns-in-Controller-clause-served
returns-in-Controller-clause-served g c =
    subst (λ w. IsServed g.R.Reactor.answers
    (record { core = g.R.Reactor.state c.args.core.now; links = record { controller = g.C.Link.state c.args.controller.now; oracle = g.O.Link.state c.args.oracle.now } })
    (record { core = g.R.Reactor.state c.tell-in-Controller.new.core; links = record { controller = g.C.Link.state c.tell-in-Controller.new.controller; oracle = g.O.Link.state c.tell-in-Controller.new.oracle } })
    (g.R.Reactor.shown c.tell-in-Controller.new.core) w c.tell-in-Controller.result) (sym c.in-Controller.is)
    (of_controller (g.C.Link.state c.hear-event.new.link) (told c.hear-event.result) c.tell-in-Controller.result c.hear-event.ensures.hears c.tell-in-Controller.ensures.told)

pub returns-in-Oracle-clause-served : goal.returns-in-Oracle-clause-served
returns-in-Oracle-clause-served g c =
    subst (λ w. IsServed g.R.Reactor.answers
    (record { core = g.R.Reactor.state c.args.core.now; links = record { controller = g.C.Link.state c.args.controller.now; oracle = g.O.Link.state c.args.oracle.now } })
    (record { core = g.R.Reactor.state c.tell-in-Oracle.new.core; links = record { controller = g.C.Link.state c.tell-in-Oracle.new.controller; oracle = g.O.Link.state c.tell-in-Oracle.new.oracle } })
    (g.R.Reactor.shown c.tell-in-Oracle.new.core) w c.tell-in-Oracle.result) (sym c.in-Oracle.is)
    (of_oracle (g.O.Link.state c.hear-event-in-Oracle.new.link) (told c.hear-event-in-Oracle.result) c.tell-in-Oracle.result c.hear-event-in-Oracle.ensures.hears c.tell-in-Oracle.ensures.told)
