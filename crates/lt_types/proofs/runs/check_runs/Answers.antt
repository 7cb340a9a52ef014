use Rattle.std.proofs.Common.{rules, ◌∙◌, arith}
use Rattle.lt_ast.specs.View.{run}
use Rattle.lt_types.proofs.Scopes.{run_from, runs_first, runs_next, with_runs_next}
use Rattle.lt_types.proofs.runs.check_runs.Goals as goal

pub loop-declared-preserved : goal.loop-declared-preserved
loop-declared-preserved c =
    record {
      refusals =
          c.loop-declared.invariant.refusals
          ∙ runs_next c.args.from c.loop-declared.scope c.check_run.new.scope c.args.runs.now c.loop-declared.declared-index c.declared-item.result
          (search rules) c.declared-item.is c.loop-declared.invariant.from c.in_ok-check_run.ensures.answered c.in_ok-check_run.ensures.declared;
      declared =
          c.loop-declared.invariant.declared
          ∙ with_runs_next c.loop-declared.scope c.check_run.new.scope c.args.runs.now c.loop-declared.declared-index c.declared-item.result
          (search rules) c.declared-item.is c.in_ok-check_run.ensures.declared;
      from = run_from c.args.from c.loop-declared.scope c.check_run.new.scope (run c.declared-item.result) c.loop-declared.invariant.from c.in_ok-check_run.ensures.declared;
    }

pub returns-in_err-check_run : goal.returns-in_err-check_run
returns-in_err-check_run c = grind (arith, runs_first)
