use Rattle.std.proofs.Common.{arith}
use Rattle.lt_macros.specs.inner.Keyed.{keys}
use Rattle.lt_macros.proofs.Indexes.{outer_read, outer_within, run_inside}
use Rattle.lt_macros.proofs.scope.Scope.before_run.Goals as goal

pub run-requires : goal.run-requires
run-requires c = omega (arith, c.requires.some, c.requires.within, c.args.self.now.keyed.size)

pub index-requires : goal.index-requires
index-requires c = omega (arith, c.run.ensures, run_inside c.args.self.now.entries.items (keys c.args.self.now.index) c.args.environment c.args.self.now.keyed c.requires.some c.requires.within)

pub returns-clause-outer : goal.returns-clause-outer
returns-clause-outer c = outer_read c.args.self.now.entries.items (keys c.args.self.now.index) c.args.environment c.run.result c.index.result.now c.args.self.now.keyed c.requires.some c.requires.within c.run.ensures c.index.ensures

pub returns-clause-older : goal.returns-clause-older
returns-clause-older c = outer_within c.args.self.now.entries.items (keys c.args.self.now.index) c.args.environment c.run.result c.index.result.now c.args.self.now.linked c.args.self.now.keyed c.requires.some c.requires.within c.run.ensures c.index.ensures
