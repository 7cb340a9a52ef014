use Rattle.std.proofs.Common.{◌≡◌, ◌∙◌, Bool, ap, arith, refl, subst, sym, take}
use Rattle.std.specs.Prelude.{IfSome}
use Rattle.std.specs.declared.option.Option.{Option}
use Rattle.lt_term.proofs.Public.{grows_not}
use Rattle.lt_check.specs.declared.memo.Memo.{Memo}
use Rattle.lt_check.specs.inner.FinderView.{tree_in}
use Rattle.lt_check.specs.inner.JudgeView.{context_of, step_of}
use Rattle.lt_check.specs.inner.MemoView.{Tells}
use Rattle.lt_check.specs.inner.QuestionView.{constraint_holds, lives_in}
use Rattle.lt_check.proofs.FinderSteps.{still_ready}
use Rattle.lt_check.proofs.FinderTasks.{checked, unchecked}
use Rattle.lt_check.proofs.finder.Finder.check.Goals as goal

pub returns-then-len-found-clause-goes_on : goal.returns-then-len-found-clause-goes_on
returns-then-len-found-clause-goes_on c =
    λ done.
    unchecked (context_of c.args.question.now) (step_of c.args.question.now) c.args.self.now _ c.requires.ready (grows_not c.args.self.now.unfolded) c.requires.ready.tells c.args.left c.args.found (omega (arith, c.len.ensures, c.args.self.now.found.ok.0, c.if-len-found.true)) refl refl

pub returns-in_default-clause-ready : goal.returns-in_default-clause-ready
returns-in_default-clause-ready c =
    let m = context_of c.args.question.now in
    let step = step_of c.args.question.now in
    let stays = c.in_ok-lives.ensures.stays in
    let tells = subst (λ (x : Memo). Tells (constraint_holds m step) x) (sym stays.memo) c.requires.ready.tells in
    still_ready m step c.args.self.now _ c.requires.ready stays.grows tells stays.tasks stays.found

pub returns-then-not-lives-clause-goes_on : goal.returns-then-not-lives-clause-goes_on
returns-then-not-lives-clause-goes_on c =
    let m = context_of c.args.question.now in
    let step = step_of c.args.question.now in
    let stays = c.in_ok-lives.ensures.stays in
    let tells = subst (λ (x : Memo). Tells (constraint_holds m step) x) (sym stays.memo) c.requires.ready.tells in
    let is = subst (λ (a : Option Bool). IfSome a (λ b. b ≡ lives_in m (tree_in m c.args.self.now.unfolded c.args.left))) c.in-Some.is c.in_ok-lives.ensures.lives in
    λ done.
    checked m step c.args.self.now _ c.requires.ready stays.grows tells c.args.left c.args.found _ (sym c.if-not-lives.true ∙ is) stays.tasks stays.found

pub returns-then-not-lives-clause-ready : goal.returns-then-not-lives-clause-ready
returns-then-not-lives-clause-ready c =
    let m = context_of c.args.question.now in
    let step = step_of c.args.question.now in
    let stays = c.in_ok-lives.ensures.stays in
    let tells = subst (λ (x : Memo). Tells (constraint_holds m step) x) (sym stays.memo) c.requires.ready.tells in
    still_ready m step c.args.self.now _ c.requires.ready stays.grows tells stays.tasks stays.found

pub returns-clause-goes_on : goal.returns-clause-goes_on
returns-clause-goes_on c =
    let m = context_of c.args.question.now in
    let step = step_of c.args.question.now in
    let stays = c.in_ok-lives.ensures.stays in
    let tells = subst (λ (x : Memo). Tells (constraint_holds m step) x) (sym stays.memo) c.requires.ready.tells in
    let is = subst (λ (a : Option Bool). IfSome a (λ b. b ≡ lives_in m (tree_in m c.args.self.now.unfolded c.args.left))) c.in-Some.is c.in_ok-lives.ensures.lives in
    λ done.
    checked m step c.args.self.now _ c.requires.ready stays.grows tells c.args.left c.args.found _ (sym c.if-not-lives.false ∙ is) stays.tasks (c.truncate.ensures.items ∙ ap (take c.args.found) stays.found)

pub returns-clause-ready : goal.returns-clause-ready
returns-clause-ready c =
    let m = context_of c.args.question.now in
    let step = step_of c.args.question.now in
    let stays = c.in_ok-lives.ensures.stays in
    let tells = subst (λ (x : Memo). Tells (constraint_holds m step) x) (sym stays.memo) c.requires.ready.tells in
    let is = subst (λ (a : Option Bool). IfSome a (λ b. b ≡ lives_in m (tree_in m c.args.self.now.unfolded c.args.left))) c.in-Some.is c.in_ok-lives.ensures.lives in
    (checked m step c.args.self.now _ c.requires.ready stays.grows tells c.args.left c.args.found _ (sym c.if-not-lives.false ∙ is) stays.tasks (c.truncate.ensures.items ∙ ap (take c.args.found) stays.found)).ready
