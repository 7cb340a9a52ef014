use Rattle.lt_macros.proofs.Building.{adding}
use Rattle.std.proofs.Common.{◌<◌, length, map, ap, sym, ◌∙◌, arith, rules}
use Rattle.std.proofs.lemmas.List.{drop_all}
use Rattle.lt_ast.specs.View.{word}
use Rattle.lt_macros.specs.Environment.{with_variables}
use Rattle.lt_macros.specs.inner.Reading.{environment, meant, worked}
use Rattle.lt_macros.specs.inner.Rows.{rows}
use Rattle.lt_macros.proofs.Adding.{adds_both}
use Rattle.lt_macros.proofs.Grouped.{name_visible, name_worked}
use Rattle.lt_macros.proofs.variables.show_names.Goals as goal

pub loop-name-preserved : goal.loop-name-preserved
loop-name-preserved c =
    let more : c.loop-name.name-index < length c.args.names.now = omega (arith, c.loop-name-test.true, c.loop-name.auto.name-index-end) in
    record {
      visible = λ d.
          name_visible c.args.role (environment (meant d) (rows c.loop-name.scope) c.loop-name.environment) (environment (meant d) (rows c.show_name.new.scope) c.in_ok-environment.environment) _ c.loop-name.next c.in_ok-next.next c.args.names.now c.loop-name.name-index c.name-item.result more c.name-item.is
          (c.in_ok-environment.ensures.visible d) (search rules) (c.loop-name.invariant.visible d);
      work =
          name_worked (environment worked (rows c.loop-name.scope) c.loop-name.environment) (environment worked (rows c.show_name.new.scope) c.in_ok-environment.environment) _ c.args.names.now c.loop-name.name-index c.name-item.result more c.name-item.is
          c.in_ok-environment.ensures.work c.loop-name.invariant.work;
      next = search rules;
      within = c.in_ok-environment.ensures.within;
      adds = adds_both (rows c.args.scope.now) (rows c.loop-name.scope) (rows c.show_name.new.scope) c.loop-name.invariant.adds c.in_ok-environment.ensures.adds;
      right = c.in_ok-environment.ensures.right;
    }

pub returns-clause-visible : goal.returns-clause-visible
returns-clause-visible c =
    λ d.
    sym (ap (λ names. with_variables c.args.role c.loop-name.next (map word names) (environment (meant d) (rows c.loop-name.scope) c.loop-name.environment)) (drop_all c.loop-name.name-index c.args.names.now c.loop-name-test.false))
    ∙ c.loop-name.invariant.visible d

pub loop-name-init : goal.loop-name-init
loop-name-init c = grind (arith, adding)
