use Rattle.std.proofs.Common.{◌<◌, length, ap, sym, ◌∙◌, arith}
use Rattle.lt_macros.specs.Expansion.{groups_variables, with_groups}
use Rattle.lt_macros.specs.inner.Started.{sum_from}
use Rattle.lt_macros.specs.inner.Figures.{variables_figure}
use Rattle.lt_macros.specs.inner.Reading.{environment, meant}
use Rattle.lt_macros.specs.inner.Rows.{rows}
use Rattle.lt_macros.proofs.Adding.{adds_both}
use Rattle.lt_macros.proofs.Grouped.{group_visible, none_left}
use Rattle.lt_macros.proofs.Opened.{as_many, group_counted, group_put}
use Rattle.lt_macros.proofs.counting.put_variables.Goals as goal

pub loop-group-preserved : goal.loop-group-preserved
loop-group-preserved c =
    let more : c.loop-group.group-index < length c.args.groups.now = omega (arith, c.loop-group-test.true, c.loop-group.auto.group-index-end) in
    let at = c.loop-group.visible in
    let made = c.in_ok-visible.visible in
    let old = rows c.loop-group.scope in
    let new = rows c.put_group.new.scope in
    record {
      figures = λ decimals f n.
          group_put f c.args.role (environment (meant decimals) old at.environment) (environment (meant decimals) new made.environment) at.next made.next c.args.groups.now c.loop-group.group-index c.group-item.result
          (sum_from decimals old f c.loop-group.count n) (sum_from decimals new f c.put_group.new.count n) _ more c.group-item.is (c.in_ok-visible.ensures.figures decimals f n) (c.in_ok-visible.ensures.visible decimals) c.in_ok-visible.ensures.next
          (c.loop-group.invariant.figures decimals f n);
      visible = λ decimals.
          group_visible c.args.role (environment (meant decimals) old at.environment) (environment (meant decimals) new made.environment) _ at.next made.next c.args.groups.now c.loop-group.group-index c.group-item.result
          more c.group-item.is (c.in_ok-visible.ensures.visible decimals) c.in_ok-visible.ensures.next (c.loop-group.invariant.visible decimals);
      next = λ n m env other.
          group_counted c.args.role n n env env at.next made.next _ c.args.groups.now c.loop-group.group-index c.group-item.result more c.group-item.is c.in_ok-visible.ensures.next (c.loop-group.invariant.next n m env other);
      inside = c.in_ok-visible.ensures.inside;
      numbers = c.in_ok-visible.ensures.numbers ∙ c.loop-group.invariant.numbers;
      within = λ least w. c.in_ok-visible.ensures.within least (c.loop-group.invariant.within least w);
      adds = adds_both (rows c.args.scope.now) old new c.loop-group.invariant.adds c.in_ok-visible.ensures.adds;
      right = c.in_ok-visible.ensures.right;
    }

pub returns-clause-figures : goal.returns-clause-figures
returns-clause-figures c =
    λ decimals f n.
    let at = c.loop-group.visible in
    let none = none_left c.args.groups.now c.loop-group.group-index c.loop-group-test.false in
    omega (arith, c.loop-group.invariant.figures decimals f n, ap (λ gs. variables_figure f (groups_variables c.args.role at.next (environment (meant decimals) (rows c.loop-group.scope) at.environment) gs)) none)

pub returns-clause-visible : goal.returns-clause-visible
returns-clause-visible c =
    λ decimals.
    let at = c.loop-group.visible in
    sym (ap (λ gs. with_groups c.args.role at.next gs (environment (meant decimals) (rows c.loop-group.scope) at.environment)) (none_left c.args.groups.now c.loop-group.group-index c.loop-group-test.false))
    ∙ c.loop-group.invariant.visible decimals

pub returns-clause-next : goal.returns-clause-next
returns-clause-next c =
    λ n env.
    omega (arith, c.loop-group.invariant.next n n env env, ap (λ gs. length (groups_variables c.args.role n env gs)) (none_left c.args.groups.now c.loop-group.group-index c.loop-group-test.false))

pub loop-group-init : goal.loop-group-init
loop-group-init c = grind (arith, as_many)
