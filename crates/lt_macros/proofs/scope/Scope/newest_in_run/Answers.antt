use Rattle.std.proofs.Common.{ap, ◌∙◌, arith}
use Rattle.lt_macros.specs.inner.Hidden.{newest_below}
use Rattle.lt_macros.specs.inner.Keyed.{keys}
use Rattle.lt_macros.proofs.Indexes.{key_with}
use Rattle.lt_macros.proofs.scope.Scope.newest_in_run.Goals as goal

pub run-run-requires : goal.run-run-requires
run-run-requires c = omega (arith, c.requires.some, c.requires.within, c.args.self.now.keyed.size)

pub newest-requires : goal.newest-requires
newest-requires c = omega (arith, c.requires.within, c.args.self.now.keyed.size)

pub returns : goal.returns
returns c = c.newest.ensures ∙ ap (λ run. newest_below (keys c.args.self.now.index) (key_with run c.args.kind c.args.name) c.args.environment) c.run-run.ensures
