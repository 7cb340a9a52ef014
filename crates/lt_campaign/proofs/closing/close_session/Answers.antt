-- The rows of an end.
use Rattle.std.proofs.Common.{◌∙◌, ap}
use Rattle.std.specs.declared.option.Option.{Option}
use Rattle.lt_campaign.specs.declared.session.Session.TheVariants as session
use Rattle.lt_campaign.proofs.Closes.{closed_none, closed_one, closed_run}
use Rattle.lt_campaign.proofs.Starts.{same_here}
use Rattle.lt_campaign.proofs.closing.close_session.Goals as goal

pub returns-in-Started-clause-closes : goal.returns-in-Started-clause-closes
returns-in-Started-clause-closes g c =
    let state = g.P.Spawner.state in
    closed_run {b = g.M.Machine} g.P.L.Link.state c.args.session c.in-Started.run' (state c.args.spawner.now) (state c.close.new.spawner) (state c.close-in-Started.new.spawner) c.in-Started.is c.close.ensures c.close-in-Started.ensures

pub returns-in-Unstarted-default-Some-clause-closes : goal.returns-in-Unstarted-default-Some-clause-closes
returns-in-Unstarted-default-Some-clause-closes g c =
    let state = g.P.Spawner.state in
    let s = c.in-Unstarted-default-Some in
    closed_one {b = g.M.Machine} g.P.L.Link.state c.args.session s.who s.side (state c.args.spawner.now) (state c.close-in-Unstarted-default-Some.new.spawner) (s.is ∙ ap (λ (x : Option _). session.Unstarted s.who x) s.controller-is) c.close-in-Unstarted-default-Some.ensures

pub returns-in-Unstarted-default-None-clause-closes : goal.returns-in-Unstarted-default-None-clause-closes
returns-in-Unstarted-default-None-clause-closes g c = λ i o kinds.
    let s = c.in-Unstarted-default-None in
    closed_none {b = g.M.Machine} g.P.L.Link.state c.args.session s.who (g.P.Spawner.state c.args.spawner.now) (s.is ∙ ap (λ (x : Option _). session.Unstarted s.who x) s.controller-is) (same_here (g.P.Spawner.state c.args.spawner.now)) i o
