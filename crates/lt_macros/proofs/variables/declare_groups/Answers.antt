use Rattle.std.proofs.Common.{◌≡◌, ◌<◌, ◌+◌, length, map, ap, sym, ◌∙◌, arith}
use Rattle.lt_ast.specs.inner.Lists.{groups_of}
use Rattle.lt_ast.specs.inner.Rows.{group_of}
use Rattle.lt_ast.specs.View.{groupings, word}
use Rattle.lt_ast.proofs.Public.{groups_list}
use Rattle.lt_macros.specs.Environment.{Environment, with_variables}
use Rattle.lt_macros.specs.Denotation.{Denotation}
use Rattle.lt_macros.specs.inner.Builder.{IsKept, names_at, work_at}
use Rattle.lt_macros.specs.inner.Reading.{environment, meant, worked}
use Rattle.lt_macros.specs.inner.Rows.{rows}
use Rattle.lt_macros.specs.Tree.{declared}
use Rattle.lt_macros.specs.inner.Work.{with_ones}
use Rattle.lt_macros.proofs.Building.{adds_kept, names_kept, work_kept}
use Rattle.lt_macros.proofs.Grouped.{group_counted, group_declared, group_visible, group_worked, all_declared, all_visible, all_worked}
use Rattle.lt_macros.proofs.variables.declare_groups.Goals as goal

pub loop-group-preserved : goal.loop-group-preserved
loop-group-preserved c =
    let more : c.loop-group.group-index < length c.deref-group-items.result.now = omega (arith, c.loop-group-test.true, c.loop-group.auto.group-index-end) in
    let kept : IsKept c.loop-group.builder c.declare_names.new.builder = c.in_ok-declare_names.ensures.kept in
    let seen : c.deref.result.now ≡ c.group-item.result.names.items.items = c.deref.ensures.value in
    let counted : c.in_ok-visible.visible.next ≡ c.loop-group.next + length c.group-item.result.names.items.items = c.in_ok-visible.ensures.next ∙ ap (λ ns. c.loop-group.next + length ns) seen in
    let inner : Environment Denotation = environment (meant c.declare_names.new.builder.decimals) (rows c.show_names.new.scope) c.in_ok-visible.visible.environment in
    let shown : inner ≡ with_variables c.args.role c.loop-group.next (map word c.group-item.result.names.items.items) (names_at c.loop-group.builder c.loop-group.environment) =
    c.in_ok-visible.ensures.visible c.declare_names.new.builder.decimals ∙ (λ i. with_variables c.args.role c.loop-group.next (map word (seen i)) (names_kept c.loop-group.builder c.declare_names.new.builder c.loop-group.environment kept i)) in
    let works : environment worked (rows c.show_names.new.scope) c.in_ok-visible.visible.environment ≡ with_ones (map word c.group-item.result.names.items.items) (work_at c.loop-group.builder c.loop-group.environment) =
    c.in_ok-visible.ensures.work ∙ (λ i. with_ones (map word (seen i)) (work_kept c.loop-group.builder c.declare_names.new.builder c.loop-group.environment kept i)) in
    record {
      declared =
          group_declared c.args.role (names_at c.loop-group.builder c.loop-group.environment) inner c.loop-group.next c.in_ok-visible.visible.next c.deref-group-items.result.now c.loop-group.group-index c.group-item.result
          (map declared c.loop-group.declared.items) (map declared c.declare_names.new.declared.items) _ more c.group-item.is c.in_ok-declare_names.ensures.made shown counted c.loop-group.invariant.declared;
      visible =
          group_visible c.args.role (names_at c.loop-group.builder c.loop-group.environment) inner _ c.loop-group.next c.in_ok-visible.visible.next c.deref-group-items.result.now c.loop-group.group-index c.group-item.result
          more c.group-item.is shown counted c.loop-group.invariant.visible;
      next =
          group_counted c.args.first c.loop-group.next c.in_ok-visible.visible.next c.loop-group.declared.items c.declare_names.new.declared.items _ c.group-item.result.names.items.items c.in_ok-declare_names.ensures.made c.loop-group.invariant.next counted;
      work = λ body.
          group_worked (work_at c.loop-group.builder c.loop-group.environment) (environment worked (rows c.show_names.new.scope) c.in_ok-visible.visible.environment) c.deref-group-items.result.now c.loop-group.group-index c.group-item.result body _
          more c.group-item.is works (c.loop-group.invariant.work body);
      ready = record { within = c.in_ok-visible.ensures.within; right = c.in_ok-visible.ensures.right };
      grown =
          record {
            names = adds_kept (rows c.args.builder.now.scope) (rows c.loop-group.builder.scope) (rows c.declare_names.new.builder.scope) (rows c.show_names.new.scope) c.loop-group.invariant.grown.names kept.names c.in_ok-visible.ensures.adds;
            decimals = kept.decimals ∙ c.loop-group.invariant.grown.decimals;
          };
    }

pub returns-clause-declared : goal.returns-clause-declared
returns-clause-declared c =
    all_declared c.args.role (names_at c.loop-group.builder c.loop-group.environment) (names_at c.args.builder.now c.args.outer) c.loop-group.next c.args.first c.deref-group-items.result.now c.loop-group.group-index (groupings c.args.groups.now)
    (map declared c.loop-group.declared.items) c.loop-group-test.false (ap (λ gs. groups_of (map group_of gs)) c.deref-group-items.ensures.value ∙ sym (groups_list c.args.groups.now)) c.loop-group.invariant.declared

pub returns-clause-visible : goal.returns-clause-visible
returns-clause-visible c =
    all_visible c.args.role (names_at c.loop-group.builder c.loop-group.environment) (names_at c.args.builder.now c.args.outer) c.loop-group.next c.args.first c.deref-group-items.result.now c.loop-group.group-index (groupings c.args.groups.now)
    c.loop-group-test.false (ap (λ gs. groups_of (map group_of gs)) c.deref-group-items.ensures.value ∙ sym (groups_list c.args.groups.now)) c.loop-group.invariant.visible

pub returns-clause-work : goal.returns-clause-work
returns-clause-work c = λ body.
    all_worked (work_at c.loop-group.builder c.loop-group.environment) (work_at c.args.builder.now c.args.outer) c.deref-group-items.result.now c.loop-group.group-index (groupings c.args.groups.now) body
    c.loop-group-test.false (ap (λ gs. groups_of (map group_of gs)) c.deref-group-items.ensures.value ∙ sym (groups_list c.args.groups.now)) (c.loop-group.invariant.work body)
