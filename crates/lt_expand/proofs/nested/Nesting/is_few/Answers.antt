use Rattle.std.proofs.Common.{refl, sym, ap, ◌∙◌, nat_le}
use Rattle.lt_ast.specs.View.{program as declarations}
use Rattle.lt_macros.specs.Answer.{asked_name}
use Rattle.lt_types.specs.Environment.{at_start}
use Rattle.lt_expand.specs.Nested.{most_runs, runs_in_nest}
use Rattle.lt_expand.proofs.Unrun.{first_runs_none}
use Rattle.lt_expand.proofs.nested.Nesting.is_few.Goals as goal

pub returns-in-None : goal.returns-in-None
returns-in-None c = λ typed nesting.
    let ds = declarations typed.program in
    let well = (c.well_typed_is_unrefused.ensures typed.decimals ds).1 typed.unrefused in
    sym ((λ i. nat_le (runs_in_nest (asked_name (c.in-None.is i)) ds) most_runs) ∙ ap (λ k. nat_le k most_runs) (first_runs_none (at_start typed.decimals) ds refl well.0))
