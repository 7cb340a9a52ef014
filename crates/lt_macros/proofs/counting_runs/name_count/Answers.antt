use Rattle.std.proofs.Common.{◌≡◌, ◌<◌, ◌+◌, length, map, ap, arith, rules}
use Rattle.lt_ast.specs.inner.Lists.{groups_of}
use Rattle.lt_ast.specs.inner.Rows.{group_of}
use Rattle.lt_ast.proofs.Public.{groups_list}
use Rattle.lt_macros.specs.Denotation.{groups_names}
use Rattle.lt_macros.proofs.Grouped.{none_left}
use Rattle.lt_macros.proofs.Runs.{group_names_more}
use Rattle.lt_macros.proofs.counting_runs.name_count.Goals as goal

pub loop-group-preserved : goal.loop-group-preserved
loop-group-preserved c =
    let items = c.deref-group-items.result.now in
    let more : c.loop-group.group-index < length items = omega (arith, c.loop-group-test.true, c.loop-group.auto.group-index-end) in
    let plus : c.in_ok-count.count ≡ c.loop-group.count + length c.group-item.result.names.items.items = search rules in
    group_names_more items c.loop-group.group-index c.loop-group.count c.in_ok-count.count _ c.group-item.result more c.group-item.is plus c.loop-group.invariant

pub returns : goal.returns
returns c =
    let items = c.deref-group-items.result.now in
    omega (
      arith,
      c.loop-group.invariant,
      ap (λ gs. length (groups_names gs)) (none_left items c.loop-group.group-index c.loop-group-test.false),
      ap (λ gs. length (groups_names (groups_of (map group_of gs)))) c.deref-group-items.ensures.value,
      ap (λ gs. length (groups_names gs)) (groups_list c.args.groups.now),
    )
