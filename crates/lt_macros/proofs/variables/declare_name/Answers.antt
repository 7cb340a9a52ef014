use Rattle.std.proofs.Common.{◌∙◌, sym}
use Rattle.lt_ast.specs.View.{written_range}
use Rattle.lt_macros.specs.Literals.{range_of}
use Rattle.lt_macros.specs.inner.Reading.{meant}
use Rattle.lt_macros.specs.inner.Rows.{rows}
use Rattle.lt_macros.proofs.Decimals.{decimals_same}
use Rattle.lt_macros.proofs.variables.declare_name.Goals as goal

pub returns : goal.returns
returns c =
    let all = decimals_same (meant c.args.builder.now.decimals) (rows c.args.builder.now.scope) c.args.environment in
    let range = c.in_ok-range.ensures ∙ (λ i. range_of (sym all i) c.args.role (c.kind_of-kind.ensures i) (written_range c.args.group.now.range)) in
    record {
      made = λ i. record { name = (c.in_ok-text.ensures.ok ∙ c.as_str.ensures) i; kind = c.kind_of-kind.ensures i; range = range i; first = c.in_ok-first.ensures.made i };
      kept = c.in_ok-first.ensures.kept;
    }
