use Rattle.std.proofs.Common.{◌≡◌, ◌<◌, ◌+◌, length, length-append, map, ap, arith, rules}
use Rattle.std.specs.List.{flat_map}
use Rattle.std.proofs.lemmas.List.{length-map, take_all}
use Rattle.lt_macros.specs.Expanded.{Call}
use Rattle.lt_macros.specs.Tree.{call, declared}
use Rattle.lt_macros.proofs.Measured.{given_more}
use Rattle.lt_macros.proofs.measuring.number_of_inputs.Goals as goal

pub loop-call-init : goal.loop-call-init
loop-call-init c = omega (arith, c.in_ok-number.ensures, ap length c.deref.ensures.value)

pub loop-call-preserved : goal.loop-call-preserved
loop-call-preserved c =
    let items = c.deref-call-items.result.now in
    let more : c.loop-call.call-index < length items = omega (arith, c.loop-call-test.true, c.loop-call.auto.call-index-end) in
    let plus : c.in_ok-number-2.number ≡ c.loop-call.number + c.in_ok-more.more = search rules in
    omega (
      arith,
      plus,
      given_more items c.loop-call.call-index c.call-item.result more c.call-item.is,
      c.loop-call.invariant,
      c.in_ok-more.ensures,
      ap length c.deref-in-loop-call.ensures.value,
    )

pub returns : goal.returns
returns c =
    let items = c.deref-call-items.result.now in
    let node = c.args.node.now in
    omega (
      arith,
      c.loop-call.invariant,
      ap (λ cs. length (flat_map (λ (d : Call). d.names) (map call cs))) (take_all c.loop-call.call-index items c.loop-call-test.false),
      ap (λ cs. length (flat_map (λ (d : Call). d.names) (map call cs))) c.deref-call-items.ensures.value,
      length-append (map declared node.inputs.items) (flat_map (λ (d : Call). d.names) (map call node.calls.items)),
      length-map node.inputs.items declared,
    )
