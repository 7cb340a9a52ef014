use Rattle.std.proofs.Common.{Err, Ok, nat_lt, ap, sym, ◌∙◌}
use Rattle.std.proofs.lemmas.Result.{err_from_is_err_and}
use Rattle.lt_ast.specs.View.{program}
use Rattle.lt_expand.specs.Nested.{runs_in_nest}
use Rattle.lt_macros.specs.Answer.{asked_name}
use Rattle.lt_frontend.specs.Prepared.{IsScenarioAnswer}
use Rattle.lt_frontend.proofs.Telling.{as_asked, expansion_told, runs_told, scene_told, text_told, types_told}
use Rattle.lt_frontend.proofs.preparing.scenario_of.Goals as goal

pub returns-in_err-program-clause-refused : goal.returns-in_err-program-clause-refused
returns-in_err-program-clause-refused c =
    let p = err_from_is_err_and c.from_residual.result c.from_residual.ensures.1 in
    rw (p.1, p.2) (text_told (λ reason. IsScenarioAnswer c.args.decimals (asked_name c.args.node) c.args.text.now (Err reason)) c.args.text.now c.in_err-program.field-0.0 (λ why is. IsScenarioAnswer.no_program why is) c.in_err-program.ensures.refused)

pub returns-in_err-typed-clause-refused : goal.returns-in_err-typed-clause-refused
returns-in_err-typed-clause-refused c =
    let p = err_from_is_err_and c.from_residual-in_err-typed.result c.from_residual-in_err-typed.ensures.1 in
    rw (p.1, p.2) (types_told c.args.decimals (asked_name c.args.node) c.args.text.now (program c.in_ok-program.program) c.in_err-typed.field-0.0 c.in_ok-program.ensures.found c.in_err-typed.ensures.refused)

pub returns-in_err-made-clause-refused : goal.returns-in_err-made-clause-refused
returns-in_err-made-clause-refused c =
    let p = err_from_is_err_and c.from_residual-in_err-made.result c.from_residual-in_err-made.ensures.1 in
    let same = c.in_ok-typed.ensures.same in
    let answer = as_asked c.args.decimals c.in_ok-typed.typed.decimals (asked_name c.args.node) (program c.in_ok-program.program) (program c.in_ok-typed.typed.program) (Err c.in_err-made.field-0.0) same.1 (ap program same.0) c.in_err-made.ensures in
    rw (p.1, p.2) (expansion_told c.args.decimals (asked_name c.args.node) c.args.text.now (program c.in_ok-program.program) c.in_err-made.field-0.0 c.in_ok-program.ensures.found c.in_ok-typed.ensures.typed answer)

pub returns-then-runs_others-clause-refused : goal.returns-then-runs_others-clause-refused
returns-then-runs_others-clause-refused c =
    let same = c.in_ok-typed.ensures.same in
    let answer = as_asked c.args.decimals c.in_ok-typed.typed.decimals (asked_name c.args.node) (program c.in_ok-program.program) (program c.in_ok-typed.typed.program) (Ok c.in_ok-made.made) same.1 (ap program same.0) c.in_ok-made.ensures in
    let some = ap (λ ds. nat_lt 0 (runs_in_nest (asked_name c.args.node) ds)) (sym (ap program same.0)) ∙ sym c.has_runs-runs_others.ensures ∙ c.if-runs_others.true in
    runs_told c.args.decimals (asked_name c.args.node) c.args.text.now (program c.in_ok-program.program) c.in_ok-made.made c.in_ok-program.ensures.found c.in_ok-typed.ensures.typed some answer

pub returns-clause-made : goal.returns-clause-made
returns-clause-made c =
    let same = c.in_ok-typed.ensures.same in
    let answer = as_asked c.args.decimals c.in_ok-typed.typed.decimals (asked_name c.args.node) (program c.in_ok-program.program) (program c.in_ok-typed.typed.program) (Ok c.in_ok-made.made) same.1 (ap program same.0) c.in_ok-made.ensures in
    let none = ap (λ ds. nat_lt 0 (runs_in_nest (asked_name c.args.node) ds)) (sym (ap program same.0)) ∙ sym c.has_runs-runs_others.ensures ∙ c.if-runs_others.false in
    scene_told c.args.decimals (asked_name c.args.node) c.args.text.now (program c.in_ok-program.program) c.in_ok-made.made c.in_ok-program.ensures.found c.in_ok-typed.ensures.typed none answer

pub invariant_of-made : goal.invariant_of-made
invariant_of-made c =
    let made = c.in_ok-made.made in
    record {
      few_decimals = made.few_decimals;
      few_inputs = made.few_inputs;
      few_drawn = made.few_drawn;
      kinds = made.kinds;
      within = made.within;
      scopes = made.scopes;
      loops = made.loops;
      inside = made.inside;
      at_start = made.at_start;
      narrow = made.narrow;
      named = made.named;
      typed = made.typed;
      linear = made.linear;
      conditions = made.conditions;
      weights = made.weights;
      few_expressions = made.few_expressions;
      few_nodes = made.few_nodes;
      flat = made.flat;
      shallow = made.shallow;
    }
