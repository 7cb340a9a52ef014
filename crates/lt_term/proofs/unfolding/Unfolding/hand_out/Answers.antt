use Rattle.std.proofs.Common.{arith, ◌≡◌, ◌-◌, suc}
use Rattle.lt_term.specs.declared.root.Offer.TheVariants as offer
use Rattle.lt_term.proofs.Unfoldings.{grows_not, if_ok, leaf-out, link-effort, link-outer, none-out, nothing-out, rule_effort-some}
use Rattle.lt_term.proofs.unfolding.Unfolding.hand_out.Goals as goal

pub returns-then-rules-eq0-clause-tree : goal.returns-then-rules-eq0-clause-tree
returns-then-rules-eq0-clause-tree c kinds = none-out kinds c.args.self.now.rules.items c.args.self.now.instants.items c.args.rules _ c.if-rules-eq0.true

pub returns-then-rules-eq0-clause-grows : goal.returns-then-rules-eq0-clause-grows
returns-then-rules-eq0-clause-grows c = grows_not c.args.self.now

pub vanish_by-requires-clause-rules : goal.vanish_by-requires-clause-rules
vanish_by-requires-clause-rules c =
    let n = c.args.rules in
    let at : suc (n - 1) ≡ n = omega (arith, c.if-rules-eq0.false) in
    link-outer c.args.self.now n (n - 1) c.index.result.now at c.requires.0 c.index.ensures

pub raise_by-requires-clause-rules : goal.raise_by-requires-clause-rules
raise_by-requires-clause-rules c =
    let n = c.args.rules in
    let at : suc (n - 1) ≡ n = omega (arith, c.if-rules-eq0.false) in
    link-outer c.args.self.now n (n - 1) c.index.result.now at c.requires.0 c.index.ensures

pub go_by-requires-clause-rules : goal.go_by-requires-clause-rules
go_by-requires-clause-rules c =
    let n = c.args.rules in
    let at : suc (n - 1) ≡ n = omega (arith, c.if-rules-eq0.false) in
    link-outer c.args.self.now n (n - 1) c.index.result.now at c.requires.0 c.index.ensures

pub returns-in-Nothing-clause-tree : goal.returns-in-Nothing-clause-tree
returns-in-Nothing-clause-tree c kinds =
    let n = c.args.rules in
    let at : suc (n - 1) ≡ n = omega (arith, c.if-rules-eq0.false) in
    nothing-out c.args.self.now n (n - 1) c.index.result.now at c.requires.0 c.index.ensures kinds c.args.offer c.in-Nothing.is

pub returns-in-Nothing-clause-within : goal.returns-in-Nothing-clause-within
returns-in-Nothing-clause-within c =
    let n = c.args.rules in
    let at : suc (n - 1) ≡ n = omega (arith, c.if-rules-eq0.false) in
    (link-outer c.args.self.now n (n - 1) c.index.result.now at c.requires.0 c.index.ensures, tt)

pub returns-in-Nothing-clause-grows : goal.returns-in-Nothing-clause-grows
returns-in-Nothing-clause-grows c = grows_not c.args.self.now

pub returns-in-Nothing-clause-falls : goal.returns-in-Nothing-clause-falls
returns-in-Nothing-clause-falls c =
    let n = c.args.rules in
    let at : suc (n - 1) ≡ n = omega (arith, c.if-rules-eq0.false) in
    let e = link-effort c.args.self.now n (n - 1) c.index.result.now at c.requires.0 c.index.ensures in
    let some = rule_effort-some c.index.result.now.rule in
    omega (arith, e, some)

pub returns-in-Vanish-clause-tree : goal.returns-in-Vanish-clause-tree
returns-in-Vanish-clause-tree c kinds =
    let n = c.args.rules in
    let at : suc (n - 1) ≡ n = omega (arith, c.if-rules-eq0.false) in
    leaf-out c.args.self.now n (n - 1) c.index.result.now at c.requires.0 c.index.ensures kinds c.args.offer offer.Vanish _ c.in-Vanish.is (c.vanish_by.ensures.tree kinds)

pub returns-in-Vanish-clause-grows : goal.returns-in-Vanish-clause-grows
returns-in-Vanish-clause-grows c = grows_not c.args.self.now

pub returns-in-Vanish-clause-falls : goal.returns-in-Vanish-clause-falls
returns-in-Vanish-clause-falls c =
    let n = c.args.rules in
    let at : suc (n - 1) ≡ n = omega (arith, c.if-rules-eq0.false) in
    let e = link-effort c.args.self.now n (n - 1) c.index.result.now at c.requires.0 c.index.ensures in
    omega (arith, e, c.vanish_by.ensures.falls)

pub returns-in-Raise-clause-tree : goal.returns-in-Raise-clause-tree
returns-in-Raise-clause-tree c kinds =
    let n = c.args.rules in
    let at : suc (n - 1) ≡ n = omega (arith, c.if-rules-eq0.false) in
    leaf-out c.args.self.now n (n - 1) c.index.result.now at c.requires.0 c.index.ensures kinds c.args.offer (offer.Raise c.in-Raise.exception) _ c.in-Raise.is (c.raise_by.ensures.tree kinds)

pub returns-in-Raise-clause-grows : goal.returns-in-Raise-clause-grows
returns-in-Raise-clause-grows c = grows_not c.args.self.now

pub returns-in-Raise-clause-falls : goal.returns-in-Raise-clause-falls
returns-in-Raise-clause-falls c =
    let n = c.args.rules in
    let at : suc (n - 1) ≡ n = omega (arith, c.if-rules-eq0.false) in
    let e = link-effort c.args.self.now n (n - 1) c.index.result.now at c.requires.0 c.index.ensures in
    omega (arith, e, c.raise_by.ensures.falls)

pub returns-in-Go-clause-tree : goal.returns-in-Go-clause-tree
returns-in-Go-clause-tree c =
    let n = c.args.rules in
    let at : suc (n - 1) ≡ n = omega (arith, c.if-rules-eq0.false) in
    if_ok _ _ c.go_by.result (λ stage h kinds. leaf-out c.args.self.now n (n - 1) c.index.result.now at c.requires.0 c.index.ensures kinds c.args.offer (offer.Go c.in-Go.instant) _ c.in-Go.is (h kinds)) c.go_by.ensures.tree

pub returns-in-Go-clause-falls : goal.returns-in-Go-clause-falls
returns-in-Go-clause-falls c =
    let n = c.args.rules in
    let at : suc (n - 1) ≡ n = omega (arith, c.if-rules-eq0.false) in
    let e = link-effort c.args.self.now n (n - 1) c.index.result.now at c.requires.0 c.index.ensures in
    if_ok _ _ c.go_by.result (λ stage h. omega (arith, e, h)) c.go_by.ensures.falls
