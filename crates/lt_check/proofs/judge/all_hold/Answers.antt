use Rattle.std.proofs.Common.{◌∙◌, ap, arith, nat_lt, sym}
use Rattle.std.specs.List.{list_all}
use Rattle.std.proofs.lemmas.Bool.Decides.{nat_tests}
use Rattle.std.proofs.lemmas.List.{take_all}
use Rattle.lt_formula.specs.View.{table_len}
use Rattle.lt_check.specs.inner.JudgeView.{context_of, scenario_of, step_of}
use Rattle.lt_check.specs.inner.QuestionView.{constraint_holds}
use Rattle.lt_check.proofs.Judges.{all_next, all_there, one_not}
use Rattle.lt_check.proofs.judge.all_hold.Goals as goal

pub holds-requires-clause-number : goal.holds-requires-clause-number
holds-requires-clause-number c =
    let below = all_there (λ n. nat_lt n (table_len (scenario_of c.args.question.now).table)) c.args.constraints.now c.loop-constraint.constraint-index c.loop-constraint-test.true c.requires.numbers in
    grind (arith, nat_tests, below)

pub returns-then-not-branch-clause-holds : goal.returns-then-not-branch-clause-holds
returns-then-not-branch-clause-holds c =
    let are = constraint_holds (context_of c.args.question.now) (step_of c.args.question.now) c.args.lasts.now in
    one_not are c.args.constraints.now c.loop-constraint.constraint-index c.loop-constraint-test.true (sym c.in_ok-holds.ensures.holds ∙ c.if-not-branch.true)

pub loop-constraint-preserved : goal.loop-constraint-preserved
loop-constraint-preserved c =
    let are = constraint_holds (context_of c.args.question.now) (step_of c.args.question.now) c.args.lasts.now in
    record {
      searcher = c.in_ok-holds.ensures.searcher;
      tells = c.in_ok-holds.ensures.tells;
      lasts = c.in_ok-holds.ensures.lasts ∙ c.loop-constraint.invariant.lasts;
      holds = all_next are c.args.constraints.now c.loop-constraint.constraint-index c.loop-constraint-test.true c.loop-constraint.invariant.holds (sym c.in_ok-holds.ensures.holds ∙ c.if-not-branch.false);
    }

pub returns-clause-holds : goal.returns-clause-holds
returns-clause-holds c =
    let are = constraint_holds (context_of c.args.question.now) (step_of c.args.question.now) c.args.lasts.now in
    sym (ap (list_all are) (sym (take_all c.loop-constraint.constraint-index c.args.constraints.now (omega (arith, c.loop-constraint-test.false)))) ∙ c.loop-constraint.invariant.holds)
