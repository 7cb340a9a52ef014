use Rattle.std.proofs.Common.{length, refl}
use Rattle.lt_formula.specs.View.{valuation_of_known}
use Rattle.lt_space.proofs.Loadings.{cleared_ready, cleared_room, loads_after}
use Rattle.lt_space.proofs.loading.load_into.Goals as goal

pub visit_all-requires-clause-ready : goal.visit_all-requires-clause-ready
visit_all-requires-clause-ready c =
    cleared_ready (valuation_of_known c.args.known.now) c.args.table.now (length c.args.wanted.now) c.args.work.now c.clear.new.self c.requires.expressions c.requires.variables c.requires.room c.clear.ensures

pub visit_all-requires-clause-room : goal.visit_all-requires-clause-room
visit_all-requires-clause-room c = cleared_room (length c.args.wanted.now) c.args.work.now c.clear.new.self c.requires.room c.clear.ensures

pub returns-clause-loads : goal.returns-clause-loads
returns-clause-loads c = loads_after _ _ c.visit_all.result c.args.work.now c.clear.new.self c.visit_all.new.work c.clear.ensures.wide c.visit_all.ensures.loads refl
