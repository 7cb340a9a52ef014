use Rattle.lt_solver.proofs.Knowing.{known_of}
use Rattle.lt_solver.proofs.search_scratch.SearchScratch.is_known.Goals as goal

pub returns-then-self : goal.returns-then-self
returns-then-self c knows is = known_of c.args.self.now c.args.space.now (knows c.if-self.true) (c.is_for.ensures is)
