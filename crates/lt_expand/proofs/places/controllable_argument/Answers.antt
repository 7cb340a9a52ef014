use Rattle.std.proofs.Common.{◌≤◌, rules, length}
use Rattle.lt_expand.specs.inner.Judged.{kinds}
use Rattle.lt_expand.proofs.Refused.{argument_found, argument_none, arguments_none}
use Rattle.lt_expand.proofs.places.controllable_argument.Goals as goal

pub returns-in-Some : goal.returns-in-Some
returns-in-Some c =
    argument_found c.args.from.now (kinds c.args.over.now) c.deref-call-items.result.now c.loop-call.call-index c.call-item.result c.deref.result.now c.in-Some.at c.requires c.deref-call-items.ensures.value
    c.loop-call-test.true c.call-item.is c.loop-call.invariant c.deref.ensures.value c.in-Some.ensures

pub loop-call-preserved : goal.loop-call-preserved
loop-call-preserved c =
    argument_none (kinds c.args.over.now) c.deref-call-items.result.now c.loop-call.call-index c.call-item.result c.deref.result.now
    c.loop-call-test.true c.call-item.is c.loop-call.invariant c.deref.ensures.value (search rules)

pub returns : goal.returns
returns c =
    let all : length c.deref-call-items.result.now ≤ c.loop-call.call-index = search rules in
    arguments_none c.args.from.now (kinds c.args.over.now) c.deref-call-items.result.now c.loop-call.call-index c.requires c.deref-call-items.ensures.value all c.loop-call.invariant
