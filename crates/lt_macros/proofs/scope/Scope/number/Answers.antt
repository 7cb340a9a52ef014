use Rattle.std.proofs.Common.{◌∙◌, arith}
use Rattle.std.proofs.lemmas.List.{length-reverse}
use Rattle.lt_macros.specs.inner.Hidden.{key_in}
use Rattle.lt_macros.specs.inner.Keyed.{keys}
use Rattle.lt_macros.specs.inner.Rows.{rows}
use Rattle.lt_macros.specs.declared.key.NameKind.TheVariants.{Name}
use Rattle.lt_macros.proofs.Environments.{found_nowhere}
use Rattle.lt_macros.proofs.Indexes.{below, found_at, found_on}
use Rattle.lt_macros.proofs.scope.Scope.number.Goals as goal

pub returns-then-number-gt0-clause-denotation : goal.returns-then-number-gt0-clause-denotation
returns-then-number-gt0-clause-denotation c = λ r.
    c.loop-environment.invariant.denotation r
    ∙ found_at r c.args.self.now.entries.items (keys c.args.self.now.index) c.args.name c.loop-environment.environment c.newest_in_run-number.result c.args.self.now.linked c.args.self.now.keyed
    (omega (arith, c.loop-environment-test.true)) (omega (arith, c.loop-environment.invariant.within, length-reverse c.args.self.now.entries.items)) c.newest_in_run-number.ensures (omega (arith, c.if-number-gt0.true))

pub returns-then-number-gt0-clause-work : goal.returns-then-number-gt0-clause-work
returns-then-number-gt0-clause-work c = λ r.
    c.loop-environment.invariant.work r
    ∙ found_at r c.args.self.now.entries.items (keys c.args.self.now.index) c.args.name c.loop-environment.environment c.newest_in_run-number.result c.args.self.now.linked c.args.self.now.keyed
    (omega (arith, c.loop-environment-test.true)) (omega (arith, c.loop-environment.invariant.within, length-reverse c.args.self.now.entries.items)) c.newest_in_run-number.ensures (omega (arith, c.if-number-gt0.true))

pub returns-then-number-gt0-clause-within : goal.returns-then-number-gt0-clause-within
returns-then-number-gt0-clause-within c =
    omega (arith, c.newest_in_run-number.ensures, below (keys c.args.self.now.index) (key_in (keys c.args.self.now.index) c.loop-environment.environment Name c.args.name) c.loop-environment.environment, c.loop-environment.invariant.within)

pub loop-environment-preserved : goal.loop-environment-preserved
loop-environment-preserved c =
    record {
      within = omega (arith, c.before_run-environment.ensures.older, c.loop-environment.invariant.within);
      denotation = λ r. c.loop-environment.invariant.denotation r
          ∙ found_on r c.args.self.now.entries.items (keys c.args.self.now.index) c.args.name c.loop-environment.environment c.newest_in_run-number.result c.before_run-environment.result c.args.self.now.linked c.args.self.now.keyed
          (omega (arith, c.loop-environment-test.true)) (omega (arith, c.loop-environment.invariant.within, length-reverse c.args.self.now.entries.items)) c.newest_in_run-number.ensures (omega (arith, c.if-number-gt0.false)) c.before_run-environment.ensures.outer;
      work = λ r. c.loop-environment.invariant.work r
          ∙ found_on r c.args.self.now.entries.items (keys c.args.self.now.index) c.args.name c.loop-environment.environment c.newest_in_run-number.result c.before_run-environment.result c.args.self.now.linked c.args.self.now.keyed
          (omega (arith, c.loop-environment-test.true)) (omega (arith, c.loop-environment.invariant.within, length-reverse c.args.self.now.entries.items)) c.newest_in_run-number.ensures (omega (arith, c.if-number-gt0.false)) c.before_run-environment.ensures.outer;
    }

pub returns-clause-denotation : goal.returns-clause-denotation
returns-clause-denotation c = λ r. c.loop-environment.invariant.denotation r ∙ found_nowhere r (rows c.args.self.now) c.loop-environment.environment c.args.name.now (omega (arith, c.loop-environment-test.false))

pub returns-clause-work : goal.returns-clause-work
returns-clause-work c = λ r. c.loop-environment.invariant.work r ∙ found_nowhere r (rows c.args.self.now) c.loop-environment.environment c.args.name.now (omega (arith, c.loop-environment-test.false))
