use Rattle.lt_solver.proofs.Knowing.{learnt}
use Rattle.lt_solver.proofs.search_scratch.SearchScratch.keep.Goals as goal

pub returns-then-capacity-scope-clause-knows : goal.returns-then-capacity-scope-clause-knows
returns-then-capacity-scope-clause-knows c is = learnt c.args.space.now c.keep.new.self.circuit c.args.self.now.same.items (c.keep.ensures.copied c.if-keep.true).0 c.requires.ties
