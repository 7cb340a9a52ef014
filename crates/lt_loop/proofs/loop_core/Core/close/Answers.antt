use Rattle.std.proofs.Common.{ap}
use Rattle.lt_loop.specs.CoreState.{core_giving_up}
use Rattle.lt_loop.specs.CoreView.{core_state}
use Rattle.lt_loop.specs.Event.{ended_side}
use Rattle.lt_loop.proofs.KeepingLemmas.{ends_controller, ends_oracle}
use Rattle.lt_loop.proofs.loop_core.Core.close.Goals as goal

pub returns-in-Controller-clause-same : goal.returns-in-Controller-clause-same
returns-in-Controller-clause-same g c = λ u more other. ends_controller (core_giving_up u (core_state {b = g.M.Machine} c.args.self.now)) (ended_side c.args.side) more other (ap ended_side c.in-Controller.is)

pub returns-in-Oracle-clause-same : goal.returns-in-Oracle-clause-same
returns-in-Oracle-clause-same g c = λ u more other. ends_oracle (core_giving_up u (core_state {b = g.M.Machine} c.args.self.now)) (ended_side c.args.side) more other (ap ended_side c.in-Oracle.is)
