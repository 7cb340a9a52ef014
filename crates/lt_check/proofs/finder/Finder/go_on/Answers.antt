use Rattle.std.proofs.Common.{◌∙◌, ◌++◌, ◌∷◌, [], List, ap, append_assoc, arith, refl, subst, sym}
use Rattle.lt_term.proofs.Public.{grows_not}
use Rattle.lt_check.specs.declared.finder.Finder.{Finder}
use Rattle.lt_check.specs.declared.finder.Task.{Task}
use Rattle.lt_check.specs.declared.finder.Task.TheVariants as task
use Rattle.lt_check.specs.inner.FinderView.{GoesOn, TaskIsFit, todo_of}
use Rattle.lt_check.specs.inner.JudgeView.{context_of, step_of}
use Rattle.lt_check.proofs.FinderTasks.{right_not, right_waits}
use Rattle.lt_check.proofs.finder.Finder.go_on.Goals as goal

pub returns-then-len-found-clause-goes_on : goal.returns-then-len-found-clause-goes_on
returns-then-len-found-clause-goes_on c =
    let m = context_of c.args.question.now in
    let step = step_of c.args.question.now in
    let old = c.args.self.now in
    λ done.
    subst (λ (t : Task). GoesOn m step old old (todo_of m old.unfolded t)) (sym c.in-Right.is)
    (right_not m step old old c.requires.ready (grows_not old.unfolded) c.requires.ready.tells c.in-Right.left c.in-Right.right c.in-Right.found (omega (arith, c.len.ensures, old.found.ok.0, c.if-len-found.true)) refl refl)

pub returns-in_ok-push-in-Right-2-clause-goes_on : goal.returns-in_ok-push-in-Right-2-clause-goes_on
returns-in_ok-push-in-Right-2-clause-goes_on c =
    let m = context_of c.args.question.now in
    let step = step_of c.args.question.now in
    let old = c.args.self.now in
    let new : Finder = record old { tasks = c.push-in-Right.new.self } in
    let a = c.in-Right.left in
    let b = c.in-Right.right in
    let n = c.in-Right.found in
    let fits = subst (λ (t : Task). TaskIsFit m old.unfolded t) c.in-Right.is c.requires.fit in
    let ts = c.in_ok-push-in-Right-2.ensures.items ∙ ap (λ (xs : List Task). xs ++ task.Visit b ∷ []) c.in_ok-push-in-Right.ensures.items ∙ append_assoc old.tasks.items (task.Check a n ∷ []) (task.Visit b ∷ []) in
    λ done.
    subst (λ (t : Task). GoesOn m step old new (todo_of m old.unfolded t)) (sym c.in-Right.is)
    (right_waits m step old new c.requires.ready (grows_not old.unfolded) c.requires.ready.tells a b n fits.0 fits.1 (omega (arith, c.len.ensures, old.found.ok.0, c.if-len-found.false)) ts refl)

pub returns-in_ok-push-in-Right-2-clause-ready : goal.returns-in_ok-push-in-Right-2-clause-ready
returns-in_ok-push-in-Right-2-clause-ready c =
    let m = context_of c.args.question.now in
    let step = step_of c.args.question.now in
    let old = c.args.self.now in
    let new : Finder = record old { tasks = c.push-in-Right.new.self } in
    let a = c.in-Right.left in
    let b = c.in-Right.right in
    let n = c.in-Right.found in
    let fits = subst (λ (t : Task). TaskIsFit m old.unfolded t) c.in-Right.is c.requires.fit in
    let ts = c.in_ok-push-in-Right-2.ensures.items ∙ ap (λ (xs : List Task). xs ++ task.Visit b ∷ []) c.in_ok-push-in-Right.ensures.items ∙ append_assoc old.tasks.items (task.Check a n ∷ []) (task.Visit b ∷ []) in
    (right_waits m step old new c.requires.ready (grows_not old.unfolded) c.requires.ready.tells a b n fits.0 fits.1 (omega (arith, c.len.ensures, old.found.ok.0, c.if-len-found.false)) ts refl).ready
