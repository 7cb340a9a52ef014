use Rattle.std.proofs.Common.{◌∙◌, ◌++◌, ◌∷◌, [], ℕ, Bool, List, Some, ap, append_assoc, false, refl, subst, sym}
use Rattle.std.specs.declared.option.Option.{Option}
use Rattle.std.proofs.lemmas.Result.{IfOk-weaker}
use Rattle.lt_term.specs.Offers.{TermTree}
use Rattle.lt_term.specs.UnfoldingView.{RootIsWithin, root_of}
use Rattle.lt_term.specs.declared.root.Later.{Later}
use Rattle.lt_term.specs.declared.root.Root.{Root}
use Rattle.lt_term.proofs.Unfoldings.{on_ok}
use Rattle.lt_check.specs.declared.finder.Finder.{Finder}
use Rattle.lt_check.specs.inner.FinderView.{IsLifeOf, NumbersPass}
use Rattle.lt_check.specs.inner.JudgeView.{context_of}
use Rattle.lt_check.specs.inner.QuestionView.{kinds_in, leaf_in}
use Rattle.lt_check.proofs.FinderLives.{leaf_life, life_from, order_life, stays_from}
use Rattle.lt_check.proofs.FinderTasks.{leaf_same}
use Rattle.lt_check.proofs.Finders.{fits_kept}
use Rattle.lt_check.proofs.finder.Finder.root_lives.Goals as goal

pub choice_lives-requires-clause-waiting : goal.choice_lives-requires-clause-waiting
choice_lives-requires-clause-waiting c =
    fits_kept (context_of c.args.question.now) c.args.self.now.unfolded c.unfold.new.self c.in_ok-offer.ensures.grows c.args.self.now.waiting.items c.requires.waiting

pub returns-in-Leaf-clause-lives : goal.returns-in-Leaf-clause-lives
returns-in-Leaf-clause-lives c =
    let m = context_of c.args.question.now in
    let old = c.args.self.now in
    let u = c.unfold.new.self in
    let new : Finder = record old { unfolded = u; judge = c.lives.new.self } in
    let is = sym (leaf_same m u c.in-Leaf.offer) ∙ ap (root_of (kinds_in m) u) (sym c.in-Leaf.is) ∙ c.in_ok-offer.ensures.tree (kinds_in m) in
    IfOk-weaker c.lives.result _ _
    (λ (a : Option Bool) h. subst (λ (x : TermTree ℕ). IsLifeOf m x old new a) is (leaf_life m old new c.in_ok-offer.ensures.grows c.requires.waiting (leaf_in m u c.in-Leaf.offer) a refl h)) c.lives.ensures.lives

pub returns-in_ok-push-in-Order-2-clause-lives : goal.returns-in_ok-push-in-Order-2-clause-lives
returns-in_ok-push-in-Order-2-clause-lives c =
    let m = context_of c.args.question.now in
    let old = c.args.self.now in
    let u = c.unfold.new.self in
    let new : Finder = record old { unfolded = u; waiting = c.push-in-Order.new.self } in
    let a = c.in-Order.left in
    let b = c.in-Order.right in
    let is = ap (root_of (kinds_in m) u) (sym c.in-Order.is) ∙ c.in_ok-offer.ensures.tree (kinds_in m) in
    let there = subst (λ (r : Root). RootIsWithin u r) c.in-Order.is c.in_ok-offer.ensures.within in
    let ts = c.in_ok-push-in-Order-2.ensures.items ∙ ap (λ (xs : List Later). xs ++ a ∷ []) c.in_ok-push-in-Order.ensures.items ∙ append_assoc old.waiting.items (b ∷ []) (a ∷ []) in
    subst (λ (x : TermTree ℕ). IsLifeOf m x old new (Some false)) is
    (order_life m old new c.in_ok-offer.ensures.grows c.requires.waiting a b there.0 there.1 (subst (NumbersPass m) (sym is) c.requires.fit.passes) ts)

pub returns-in-Choice-clause-lives : goal.returns-in-Choice-clause-lives
returns-in-Choice-clause-lives c =
    let m = context_of c.args.question.now in
    let old = c.args.self.now in
    let is = ap (root_of (kinds_in m) c.unfold.new.self) (sym c.in-Choice.is) ∙ c.in_ok-offer.ensures.tree (kinds_in m) in
    IfOk-weaker c.choice_lives.result _ _
    (λ (a : Option Bool) h. life_from m old c.choice_lives.new.self c.unfold.new.self c.in_ok-offer.ensures.grows c.requires.waiting is a h) c.choice_lives.ensures.lives

pub returns-in-Choice-clause-stays : goal.returns-in-Choice-clause-stays
returns-in-Choice-clause-stays c =
    on_ok c.choice_lives.result (stays_from (context_of c.args.question.now) c.args.self.now c.choice_lives.new.self c.unfold.new.self c.in_ok-offer.ensures.grows) c.choice_lives.ensures.stays
