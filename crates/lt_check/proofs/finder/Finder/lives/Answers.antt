use Rattle.std.proofs.Common.{◌∙◌, ◌++◌, ◌∷◌, [], Bool, List, Some, ap, refl, subst}
use Rattle.std.specs.declared.option.Option.{Option}
use Rattle.lt_term.proofs.Public.{grows_not}
use Rattle.lt_term.specs.declared.root.Later.{Later}
use Rattle.lt_check.specs.declared.finder.Finder.{Finder}
use Rattle.lt_check.specs.inner.FinderView.{IsLifeOf, tree_in}
use Rattle.lt_check.specs.inner.JudgeView.{context_of}
use Rattle.lt_check.proofs.FinderLives.{later_fits, one_lives, stays_on, waits_first, waits_left, waits_less, waits_on}
use Rattle.lt_check.proofs.finder.Finder.lives.Goals as goal

pub loop-later-init : goal.loop-later-init
loop-later-init c =
    let u = c.args.self.now.unfolded in
    record {
      searcher = c.requires.searcher;
      waits =
          waits_first (context_of c.args.question.now) c.args.self.now _ c.args.tree (record { tasks = refl; found = refl; memo = refl; grows = grows_not u })
          (c.in_ok-push.ensures.items ∙ ap (λ (ls : List Later). ls ++ c.args.tree ∷ []) c.clear.ensures.items) c.requires.fit;
    }

pub root_lives-requires-clause-fit : goal.root_lives-requires-clause-fit
root_lives-requires-clause-fit c =
    later_fits (context_of c.args.question.now) c.args.self.now c.loop-later.self _ c.loop-later.invariant.waits c.pop.new.self.items c.in-Some.later c.in-Some.ensures.items

pub root_lives-requires-clause-waiting : goal.root_lives-requires-clause-waiting
root_lives-requires-clause-waiting c =
    waits_left (context_of c.args.question.now) c.args.self.now c.loop-later.self _ c.loop-later.invariant.waits c.pop.new.self.items c.in-Some.later c.in-Some.ensures.items

pub loop-later-smaller : goal.loop-later-smaller
loop-later-smaller c =
    let m = context_of c.args.question.now in
    let now = c.loop-later.self in
    let popped : Finder = record now { waiting = c.pop.new.self } in
    let new = c.root_lives.new.self in
    let life = subst (λ (a : Option Bool). IsLifeOf m (tree_in m now.unfolded c.in-Some.later) popped new a) (c.in-Some-false.is ∙ ap Some c.in-Some-false.field-0-test) c.in_ok-root_lives.ensures.lives in
    waits_less m c.args.self.now now _ c.loop-later.invariant.waits c.pop.new.self.items c.in-Some.later c.in-Some.ensures.items new life.0 life.1 life.2

pub loop-later-preserved : goal.loop-later-preserved
loop-later-preserved c =
    let m = context_of c.args.question.now in
    let now = c.loop-later.self in
    let popped : Finder = record now { waiting = c.pop.new.self } in
    let new = c.root_lives.new.self in
    let told = c.in_ok-root_lives.ensures in
    let life = subst (λ (a : Option Bool). IsLifeOf m (tree_in m now.unfolded c.in-Some.later) popped new a) (c.in-Some-false.is ∙ ap Some c.in-Some-false.field-0-test) told.lives in
    record {
      searcher = told.searcher;
      waits =
          waits_on m c.args.self.now now _ c.loop-later.invariant.waits c.pop.new.self.items c.in-Some.later c.in-Some.ensures.items new life.0 life.1 life.2 life.3 told.stays.tasks told.stays.found told.stays.memo told.stays.grows;
    }

pub returns-in-Some-true-clause-lives : goal.returns-in-Some-true-clause-lives
returns-in-Some-true-clause-lives c =
    let m = context_of c.args.question.now in
    let now = c.loop-later.self in
    let popped : Finder = record now { waiting = c.pop.new.self } in
    let life = subst (λ (a : Option Bool). IsLifeOf m (tree_in m now.unfolded c.in-Some.later) popped c.root_lives.new.self a) (c.in-Some-true.is ∙ ap Some c.in-Some-true.field-0-test) c.in_ok-root_lives.ensures.lives in
    one_lives m c.args.self.now now _ c.loop-later.invariant.waits c.pop.new.self.items c.in-Some.later c.in-Some.ensures.items life

pub returns-in-Some-true-clause-stays : goal.returns-in-Some-true-clause-stays
returns-in-Some-true-clause-stays c =
    let s = c.in_ok-root_lives.ensures.stays in
    stays_on (context_of c.args.question.now) c.args.self.now c.loop-later.self c.root_lives.new.self c.loop-later.invariant.waits.stays s.tasks s.found s.memo s.grows

pub returns-in-None-clause-stays : goal.returns-in-None-clause-stays
returns-in-None-clause-stays c =
    let s = c.in_ok-root_lives.ensures.stays in
    stays_on (context_of c.args.question.now) c.args.self.now c.loop-later.self c.root_lives.new.self c.loop-later.invariant.waits.stays s.tasks s.found s.memo s.grows
