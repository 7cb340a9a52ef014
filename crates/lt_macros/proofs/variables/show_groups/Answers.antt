use Rattle.std.proofs.Common.{◌≡◌, ◌<◌, ◌+◌, ℕ, length, map, refl, ap, sym, ◌∙◌, arith}
use Rattle.lt_ast.specs.View.{groupings, word}
use Rattle.lt_ast.specs.inner.Lists.{groups_of}
use Rattle.lt_ast.specs.inner.Rows.{group_of}
use Rattle.lt_ast.proofs.Public.{groups_list}
use Rattle.lt_macros.specs.Environment.{with_variables}
use Rattle.lt_macros.specs.inner.Reading.{environment, meant}
use Rattle.lt_macros.specs.inner.Rows.{rows}
use Rattle.lt_macros.proofs.Adding.{adds_both, adds_none}
use Rattle.lt_macros.proofs.Grouped.{all_visible, group_visible}
use Rattle.lt_macros.proofs.variables.show_groups.Goals as goal

pub loop-group-preserved : goal.loop-group-preserved
loop-group-preserved c =
    let items = c.deref-group-items.result.now in
    let more : c.loop-group.group-index < length items = omega (arith, c.loop-group-test.true, c.loop-group.auto.group-index-end) in
    let at = c.loop-group.visible in
    let made = c.in_ok-visible.visible in
    let old = rows c.loop-group.scope in
    let new = rows c.show_names.new.scope in
    let seen : c.deref.result.now ≡ c.group-item.result.names.items.items = c.deref.ensures.value in
    let counted : made.next ≡ at.next + length c.group-item.result.names.items.items = c.in_ok-visible.ensures.next ∙ ap (λ ns. at.next + length ns) seen in
    let shown : (d : ℕ) → environment (meant d) new made.environment ≡ with_variables c.args.role at.next (map word c.group-item.result.names.items.items) (environment (meant d) old at.environment) =
    λ d. c.in_ok-visible.ensures.visible d ∙ ap (λ ns. with_variables c.args.role at.next (map word ns) (environment (meant d) old at.environment)) seen in
    record {
      visible = λ d.
          group_visible c.args.role (environment (meant d) old at.environment) (environment (meant d) new made.environment) _ at.next made.next items c.loop-group.group-index c.group-item.result
          more c.group-item.is (shown d) counted (c.loop-group.invariant.visible d);
      within = c.in_ok-visible.ensures.within;
      adds = adds_both (rows c.args.scope.now) old new c.loop-group.invariant.adds c.in_ok-visible.ensures.adds;
      right = c.in_ok-visible.ensures.right;
    }

pub returns-clause-visible : goal.returns-clause-visible
returns-clause-visible c =
    λ d.
    let at = c.loop-group.visible in
    all_visible c.args.role (environment (meant d) (rows c.loop-group.scope) at.environment) (environment (meant d) (rows c.args.scope.now) c.args.outer) at.next c.args.first c.deref-group-items.result.now c.loop-group.group-index (groupings c.args.groups.now)
    c.loop-group-test.false (ap (λ gs. groups_of (map group_of gs)) c.deref-group-items.ensures.value ∙ sym (groups_list c.args.groups.now)) (c.loop-group.invariant.visible d)

pub loop-group-init : goal.loop-group-init
loop-group-init c = record { visible = λ d. refl; within = c.requires.within; adds = adds_none (rows c.args.scope.now); right = c.requires.right }
