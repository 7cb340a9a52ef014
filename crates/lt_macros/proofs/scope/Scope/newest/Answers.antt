use Rattle.std.proofs.Common.{◌∙◌, sym, arith}
use Rattle.lt_macros.specs.inner.Reading.{meant}
use Rattle.lt_macros.specs.inner.Rows.{rows}
use Rattle.lt_macros.proofs.Adding.{right_at}
use Rattle.lt_macros.proofs.Environments.{makes, newest_is, newest_there, newest_nowhere}
use Rattle.lt_macros.proofs.scope.Scope.newest.Goals as goal

pub returns-then-is_name-clause-denotation : goal.returns-then-is_name-clause-denotation
returns-then-is_name-clause-denotation c = λ r. c.loop-environment.invariant.denotation r ∙ newest_is r (rows c.args.self.now) c.loop-environment.environment c.index-entry.result.now
    (makes r c.args.self.now.entries.items c.loop-environment.environment c.index-entry.result.now c.args.self.now.linked c.loop-environment-test.true c.loop-environment.invariant.within c.index-entry.ensures)

pub returns-then-is_name-clause-work : goal.returns-then-is_name-clause-work
returns-then-is_name-clause-work c = λ r. c.loop-environment.invariant.work r ∙ newest_is r (rows c.args.self.now) c.loop-environment.environment c.index-entry.result.now
    (makes r c.args.self.now.entries.items c.loop-environment.environment c.index-entry.result.now c.args.self.now.linked c.loop-environment-test.true c.loop-environment.invariant.within c.index-entry.ensures)

pub returns-then-is_name-clause-linked : goal.returns-then-is_name-clause-linked
returns-then-is_name-clause-linked c = (makes (meant 0) c.args.self.now.entries.items c.loop-environment.environment c.index-entry.result.now c.args.self.now.linked c.loop-environment-test.true c.loop-environment.invariant.within c.index-entry.ensures).linked

pub returns-then-is_name-clause-right : goal.returns-then-is_name-clause-right
returns-then-is_name-clause-right c = λ right. right_at c.args.self.now.entries.items c.loop-environment.environment c.index-entry.result.now c.args.self.now.linked c.loop-environment-test.true c.loop-environment.invariant.within c.index-entry.ensures right

pub loop-environment-smaller : goal.loop-environment-smaller
loop-environment-smaller c = (makes (meant 0) c.args.self.now.entries.items c.loop-environment.environment c.index-entry.result.now c.args.self.now.linked c.loop-environment-test.true c.loop-environment.invariant.within c.index-entry.ensures).outer

pub loop-environment-preserved : goal.loop-environment-preserved
loop-environment-preserved c =
    record {
      within = (makes (meant 0) c.args.self.now.entries.items c.loop-environment.environment c.index-entry.result.now c.args.self.now.linked c.loop-environment-test.true c.loop-environment.invariant.within c.index-entry.ensures).within;
      denotation = λ r. c.loop-environment.invariant.denotation r ∙ newest_there r (rows c.args.self.now) c.loop-environment.environment c.index-entry.result.now
          (makes r c.args.self.now.entries.items c.loop-environment.environment c.index-entry.result.now c.args.self.now.linked c.loop-environment-test.true c.loop-environment.invariant.within c.index-entry.ensures)
          (sym c.is_name.ensures ∙ c.if-is_name.false);
      work = λ r. c.loop-environment.invariant.work r ∙ newest_there r (rows c.args.self.now) c.loop-environment.environment c.index-entry.result.now
          (makes r c.args.self.now.entries.items c.loop-environment.environment c.index-entry.result.now c.args.self.now.linked c.loop-environment-test.true c.loop-environment.invariant.within c.index-entry.ensures)
          (sym c.is_name.ensures ∙ c.if-is_name.false);
    }

pub returns-clause-denotation : goal.returns-clause-denotation
returns-clause-denotation c = λ r. c.loop-environment.invariant.denotation r ∙ newest_nowhere r (rows c.args.self.now) c.loop-environment.environment (omega (arith, c.loop-environment-test.false))

pub returns-clause-work : goal.returns-clause-work
returns-clause-work c = λ r. c.loop-environment.invariant.work r ∙ newest_nowhere r (rows c.args.self.now) c.loop-environment.environment (omega (arith, c.loop-environment-test.false))
