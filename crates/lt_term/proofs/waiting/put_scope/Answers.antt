use Rattle.std.proofs.Common.{◌≡◌, ◌∙◌, ◌-◌, ap, sym, suc, arith, map}
use Rattle.lt_term.specs.Unfolded.{in_scope, instant_of}
use Rattle.lt_term.specs.UnfoldedView.{chain_at, rule_of}
use Rattle.lt_term.proofs.Unfoldings.{outer-earlier, scope-end, scope-step}
use Rattle.lt_term.proofs.waiting.put_scope.Goals as goal

pub loop-number-smaller : goal.loop-number-smaller
loop-number-smaller c =
    let n = c.loop-number.number in
    let at : suc (n - 1) ≡ n = omega (arith, c.loop-number-test.true) in
    outer-earlier c.args.links.now n (n - 1) c.index-links-number.result at c.loop-number.invariant.within c.requires.linked c.index-links-number.is

pub loop-number-preserved : goal.loop-number-preserved
loop-number-preserved c =
    let n = c.loop-number.number in
    let at : suc (n - 1) ≡ n = omega (arith, c.loop-number-test.true) in
    let ls = c.args.links.now in
    let l = c.index-links-number.result in
    let less = outer-earlier ls n (n - 1) l at c.loop-number.invariant.within c.requires.linked c.index-links-number.is in
    record {
      within = omega (arith, less, c.loop-number.invariant.within);
      scope =
          ap (in_scope (map (rule_of (λ i. instant_of 0)) (chain_at ls l.outer))) (c.in_ok-put_local.ensures (λ i. instant_of 0))
          ∙ sym (scope-step ls n (n - 1) l at c.loop-number.invariant.within c.requires.linked c.index-links-number.is c.loop-number.locals.items)
          ∙ c.loop-number.invariant.scope;
    }

pub returns : goal.returns
returns c =
    sym (scope-end c.args.links.now c.loop-number.number (omega (arith, c.loop-number-test.false)) c.loop-number.locals.items)
    ∙ c.loop-number.invariant.scope
