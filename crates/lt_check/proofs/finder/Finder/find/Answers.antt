use Rattle.std.proofs.Common.{◌∙◌, ◌++◌, ◌∷◌, [], List, ap, subst, sym}
use Rattle.lt_term.specs.Offers.{offers_of}
use Rattle.lt_term.specs.SceneView.{numbers_of}
use Rattle.lt_term.specs.View.{process}
use Rattle.lt_term.proofs.Passing.{nodes_pass}
use Rattle.lt_check.specs.declared.finder.Task.{Task}
use Rattle.lt_check.specs.declared.finder.Task.TheVariants as task
use Rattle.lt_check.specs.inner.FinderView.{IsFit, NumbersPass}
use Rattle.lt_check.specs.inner.JudgeView.{context_of, step_of}
use Rattle.lt_check.specs.inner.QuestionView.{kinds_in}
use Rattle.lt_check.proofs.FinderSeeks.{seeks_first, seeks_less, seeks_on, task_fits, tasks_left}
use Rattle.lt_check.proofs.finder.Finder.find.Goals as goal

pub loop-task-init : goal.loop-task-init
loop-task-init c =
    let m = context_of c.args.question.now in
    let p = process c.args.term.now in
    let whole = offers_of (kinds_in m) p in
    let is = c.of-tree.ensures.tree (kinds_in m) in
    let fit : IsFit m c.of-tree.new.self c.of-tree.result = record { within = c.of-tree.ensures.within; passes = subst (NumbersPass m) (sym is) (nodes_pass (numbers_of m.scenario.now) (kinds_in m) p c.requires.passes) } in
    record {
      searcher = c.requires.searcher;
      seeks =
          seeks_first m (step_of c.args.question.now) _ c.of-tree.result whole (c.in_ok-push.ensures.items ∙ ap (λ (ts : List Task). ts ++ task.Visit c.of-tree.result ∷ []) c.clear-2.ensures.items) c.clear.ensures.items c.requires.tells fit is;
    }

pub go_on-requires-clause-ready : goal.go_on-requires-clause-ready
go_on-requires-clause-ready c =
    let m = context_of c.args.question.now in
    let s = c.loop-task.invariant.seeks in
    record {
      tasks = tasks_left m (step_of c.args.question.now) c.loop-task.self _ s c.pop.new.self.items c.in-Some.task c.in-Some.ensures.items;
      found = s.ready.found;
      tells = s.ready.tells;
    }

pub go_on-requires-clause-fit : goal.go_on-requires-clause-fit
go_on-requires-clause-fit c =
    task_fits (context_of c.args.question.now) (step_of c.args.question.now) c.loop-task.self _ c.loop-task.invariant.seeks c.pop.new.self.items c.in-Some.task c.in-Some.ensures.items

pub loop-task-preserved : goal.loop-task-preserved
loop-task-preserved c =
    let goes = c.in_ok-go_on.ensures.goes_on c.if-not-branch.false in
    record {
      searcher = c.in_ok-go_on.ensures.searcher;
      seeks =
          seeks_on (context_of c.args.question.now) (step_of c.args.question.now) c.loop-task.self _ c.loop-task.invariant.seeks c.pop.new.self.items c.in-Some.task c.in-Some.ensures.items c.go_on.new.self goes.ready goes.finds;
    }

pub loop-task-smaller : goal.loop-task-smaller
loop-task-smaller c =
    let goes = c.in_ok-go_on.ensures.goes_on c.if-not-branch.false in
    seeks_less (context_of c.args.question.now) (step_of c.args.question.now) c.loop-task.self _ c.loop-task.invariant.seeks c.pop.new.self.items c.in-Some.task c.in-Some.ensures.items c.go_on.new.self goes.falls
