use Rattle.std.proofs.Common.{ap, ◌∙◌}
use Rattle.lt_ast.specs.View.{groupings}
use Rattle.lt_formula.specs.declared.role.Role.TheVariants as role
use Rattle.lt_macros.specs.Expansion.{groups_variables}
use Rattle.lt_macros.specs.inner.Rows.{rows}
use Rattle.lt_macros.proofs.Adding.{adds_both}
use Rattle.lt_macros.proofs.calls.build_own_outputs.Goals as goal

pub returns-clause-outputs : goal.returns-clause-outputs
returns-clause-outputs c =
    c.in_ok-outputs.ensures.declared
    ∙ ap (λ env. groups_variables role.Output 0 env (groupings c.args.from.node.now.outputs)) (c.in_ok-inputs.ensures.visible c.args.builder.now.decimals)

pub returns-clause-grown : goal.returns-clause-grown
returns-clause-grown c =
    record {
      names = adds_both (rows c.args.builder.now.scope) (rows c.show_groups.new.scope) (rows c.declare_groups.new.builder.scope) c.in_ok-inputs.ensures.adds c.in_ok-outputs.ensures.grown.names;
      decimals = c.in_ok-outputs.ensures.grown.decimals;
    }
