use Rattle.std.proofs.Common.{map}
use Rattle.lt_ast.specs.View.{argument}
use Rattle.lt_macros.specs.Denotation.{argument_denotation}
use Rattle.lt_macros.specs.inner.Reading.{environment, meant}
use Rattle.lt_macros.specs.inner.Rows.{rows}
use Rattle.lt_macros.proofs.Stepping.{macro_entry}
use Rattle.lt_macros.proofs.head_normal_form.step_from_entry.Goals as goal

pub returns-in-Macro-clause-denotation : goal.returns-in-Macro-clause-denotation
returns-in-Macro-clause-denotation c =
    macro_entry (rows c.args.scope.now) (rows c.enter.new.scope) c.args.entry c.in-Macro.declared _ c.args.at (λ d. map (λ a. argument_denotation (environment (meant d) (rows c.args.scope.now) c.args.environment) a) (map argument c.args.args.now))
    c.enter.result c.in-Macro.is c.enter.ensures.denotation
