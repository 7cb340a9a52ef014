use Rattle.std.proofs.Common.{rules, ◌≡◌, ◌∙◌, ap, sym, subst, suc, ℕ}
use Rattle.lt_term.specs.Counted.{IsCounted}
use Rattle.lt_term.specs.Offers.{in_turn, offers_of, offers_of_each}
use Rattle.lt_term.specs.Process.{Process, count}
use Rattle.lt_term.specs.Tree.{branch, leaf, more, no_branch, ordered, stop, vanish, with_leaves}
use Rattle.lt_term.specs.Unfolded.{under}
use Rattle.lt_term.specs.UnfoldedView.{rules_at, term_of}
use Rattle.lt_term.specs.View.{choices, process}
use Rattle.lt_term.proofs.UnfoldingLaws.{loop-root, pri-root, try-root}
use Rattle.lt_term.proofs.Unfoldings.{choice-chosen, grows_not, later-at, later-put, rules-kept}
use Rattle.lt_term.proofs.Views.{process_any}
use Rattle.lt_term.proofs.unfolding.Unfolding.choose.Goals as goal

pub returns-in-Count-clause-grows : goal.returns-in-Count-clause-grows
returns-in-Count-clause-grows c = grows_not c.args.self.now

pub returns-in-Any-clause-grows : goal.returns-in-Any-clause-grows
returns-in-Any-clause-grows c = grows_not c.args.self.now

pub returns-in-Pri-clause-grows : goal.returns-in-Pri-clause-grows
returns-in-Pri-clause-grows c = grows_not c.args.self.now

pub returns-in_ok-inner-in-Loop-clause-tree : goal.returns-in_ok-inner-in-Loop-clause-tree
returns-in_ok-inner-in-Loop-clause-tree c kinds =
    let u = c.args.self.now in
    let rs = rules_at kinds u.rules.items u.instants.items c.args.rules in
    let w = c.in_ok-inner-in-Loop.ensures in
    let p = process c.in-Loop.body.value in
    let t : term_of c.of.result ≡ p = search rules in
    let left = later-put u.rules.items c.put_rule.new.self.rules.items u.instants.items c.put_rule.new.self.instants.items _ c.args.rules c.in_ok-inner-in-Loop.inner w.chain w.instants kinds c.of.result p t c.of.ensures.rules in
    let right = ap (λ r. under kinds r (leaf vanish)) (rules-kept u c.put_rule.new.self w.grows kinds c.args.rules c.requires.rules) in
    (λ i. ordered (left i) (right i)) ∙ sym (loop-root kinds p rs) ∙ ap (λ q. under kinds rs (offers_of kinds q)) (sym (ap process c.in-Loop.is))

pub returns-in_ok-inner-in-Try-clause-tree : goal.returns-in_ok-inner-in-Try-clause-tree
returns-in_ok-inner-in-Try-clause-tree c kinds =
    let u = c.args.self.now in
    let v = c.put_rule-in-Try.new.self in
    let rs = rules_at kinds u.rules.items u.instants.items c.args.rules in
    let w = c.in_ok-inner-in-Try.ensures in
    let p = process c.in-Try.body.value in
    let h = process c.in-Try.otherwise.value in
    let t : term_of c.of-in-Try.result ≡ p = search rules in
    let s : term_of c.of-right-in-Try.result ≡ h = search rules in
    let left = later-put u.rules.items v.rules.items u.instants.items v.instants.items _ c.args.rules c.in_ok-inner-in-Try.inner w.chain w.instants kinds c.of-in-Try.result p t c.of-in-Try.ensures.rules in
    let right = later-at kinds v.rules.items v.instants.items c.of-right-in-Try.result h c.args.rules s c.of-right-in-Try.ensures.rules ∙ ap (λ r. under kinds r (offers_of kinds h)) (rules-kept u v w.grows kinds c.args.rules c.requires.rules) in
    (λ i. ordered (left i) (right i)) ∙ sym (try-root kinds p h rs) ∙ ap (λ q. under kinds rs (offers_of kinds q)) (sym (ap process c.in-Try.is))

pub returns-in-Pri-clause-tree : goal.returns-in-Pri-clause-tree
returns-in-Pri-clause-tree c kinds =
    let u = c.args.self.now in
    let rs = rules_at kinds u.rules.items u.instants.items c.args.rules in
    let p = process c.in-Pri.first.value in
    let h = process c.in-Pri.second.value in
    let t : term_of c.of-in-Pri.result ≡ p = search rules in
    let s : term_of c.of-right.result ≡ h = search rules in
    let left = later-at kinds u.rules.items u.instants.items c.of-in-Pri.result p c.args.rules t c.of-in-Pri.ensures.rules in
    let right = later-at kinds u.rules.items u.instants.items c.of-right.result h c.args.rules s c.of-right.ensures.rules in
    (λ i. ordered (left i) (right i)) ∙ sym (pri-root kinds p h rs) ∙ ap (λ q. under kinds rs (offers_of kinds q)) (sym (ap process c.in-Pri.is))

pub returns-in-Count-clause-tree : goal.returns-in-Count-clause-tree
returns-in-Count-clause-tree c kinds =
    let u = c.args.self.now in
    let p = process c.in-Count.body.value in
    let i = c.in-Count.counter in
    let done = c.in-Count.done in
    let bs = branch (more i done) (with_leaves (in_turn (count i (suc done) p)) (offers_of kinds p)) (branch (stop i done) (leaf vanish) no_branch) in
    choice-chosen kinds u.rules.items u.instants.items c.args.rules bs (process c.args.term.now) (ap (λ t. offers_of kinds (process t)) c.in-Count.is)

pub returns-in-Any-clause-tree : goal.returns-in-Any-clause-tree
returns-in-Any-clause-tree c kinds =
    let u = c.args.self.now in
    choice-chosen kinds u.rules.items u.instants.items c.args.rules (offers_of_each kinds (choices c.in-Any.parts.items)) (process c.args.term.now) (ap (offers_of kinds) (ap process c.in-Any.is ∙ process_any c.in-Any.parts))

pub returns-in-Any-clause-within : goal.returns-in-Any-clause-within
returns-in-Any-clause-within c =
    let P : Process ℕ → Type 0 = IsCounted in
    (c.requires.rules, subst P (ap process c.in-Any.is ∙ process_any c.in-Any.parts) c.requires.counted)
