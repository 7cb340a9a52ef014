use Rattle.std.proofs.Common.{◌∙◌, arith}
use Rattle.std.proofs.lemmas.List.{length-reverse}
use Rattle.lt_macros.specs.inner.Hidden.{key_in}
use Rattle.lt_macros.specs.inner.Keyed.{keys}
use Rattle.lt_macros.specs.inner.Rows.{rows}
use Rattle.lt_macros.specs.declared.key.NameKind.TheVariants.{Exception}
use Rattle.lt_macros.proofs.Environments.{exception_nowhere}
use Rattle.lt_macros.proofs.Indexes.{below, raised_at, raised_on}
use Rattle.lt_macros.proofs.scope.Scope.exception.Goals as goal

pub index-requires : goal.index-requires
index-requires c =
    omega (
      arith,
      c.if-number-gt0.true,
      c.newest_in_run-number.ensures,
      below (keys c.args.self.now.index) (key_in (keys c.args.self.now.index) c.loop-environment.environment Exception c.args.name) c.loop-environment.environment,
      c.loop-environment.invariant.within,
      length-reverse c.args.self.now.entries.items,
    )

pub returns-then-number-gt0 : goal.returns-then-number-gt0
returns-then-number-gt0 c = λ r.
    c.loop-environment.invariant.denotation r
    ∙ raised_at r c.args.self.now.entries.items (keys c.args.self.now.index) c.args.name c.loop-environment.environment c.newest_in_run-number.result c.index.result.now c.declared_as.result c.args.self.now.linked c.args.self.now.keyed
    (omega (arith, c.loop-environment-test.true)) (omega (arith, c.loop-environment.invariant.within, length-reverse c.args.self.now.entries.items)) c.newest_in_run-number.ensures (omega (arith, c.if-number-gt0.true))
    c.index.ensures c.declared_as.ensures

pub loop-environment-preserved : goal.loop-environment-preserved
loop-environment-preserved c =
    record {
      within = omega (arith, c.before_run-environment.ensures.older, c.loop-environment.invariant.within);
      denotation = λ r. c.loop-environment.invariant.denotation r
          ∙ raised_on r c.args.self.now.entries.items (keys c.args.self.now.index) c.args.name c.loop-environment.environment c.newest_in_run-number.result c.before_run-environment.result c.args.self.now.linked c.args.self.now.keyed
          (omega (arith, c.loop-environment-test.true)) (omega (arith, c.loop-environment.invariant.within, length-reverse c.args.self.now.entries.items)) c.newest_in_run-number.ensures (omega (arith, c.if-number-gt0.false)) c.before_run-environment.ensures.outer;
    }

pub returns : goal.returns
returns c = λ r. c.loop-environment.invariant.denotation r ∙ exception_nowhere r (rows c.args.self.now) c.loop-environment.environment c.args.name.now (omega (arith, c.loop-environment-test.false))
