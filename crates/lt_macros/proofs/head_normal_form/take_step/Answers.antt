use Rattle.std.proofs.Common.{Ok, map, refl}
use Rattle.lt_ast.specs.Syntax as s
use Rattle.lt_ast.specs.View.{argument, macro, trace, word, words}
use Rattle.lt_ast.specs.inner.Rows.{maybe_trace}
use Rattle.lt_macros.specs.inner.Phrase as pure
use Rattle.lt_macros.specs.inner.Reading.{phrase_view}
use Rattle.lt_macros.specs.inner.Rows.{rows}
use Rattle.lt_macros.specs.declared.head_normal_form.Step.TheVariants.{Done, Further, Previous}
use Rattle.lt_macros.specs.declared.scope.Phrase.TheVariants as code_phrase
use Rattle.lt_macros.proofs.Stepping.{steps_cover, steps_form, steps_let, steps_pre, steps_same, steps_under, steps_use}
use Rattle.lt_macros.proofs.head_normal_form.take_step.Goals as goal

pub returns-in-Cover-clause-steps : goal.returns-in-Cover-clause-steps
returns-in-Cover-clause-steps c =
    steps_under c.args.position (rows c.args.scope.now) (rows c.args.scope.now) c.args.environment (phrase_view c.args.phrase) (phrase_view c.inside_cover-bare.result) (Ok (Further c.in-Cover.inner c.args.environment)) c.inside_cover-bare.ensures.denotation c.inside_cover-bare.ensures.work
    (steps_cover c.args.position (rows c.args.scope.now) c.args.environment (phrase_view c.inside_cover-bare.result) c.in-Cover.inner c.in-Cover.ensures c.requires.within)

pub returns-in-Use-clause-steps : goal.returns-in-Use-clause-steps
returns-in-Use-clause-steps c =
    steps_under c.args.position (rows c.args.scope.now) (rows c.step_from_use.new.scope) c.args.environment (phrase_view c.args.phrase) (phrase_view c.inside_cover-bare.result) c.step_from_use.result c.inside_cover-bare.ensures.denotation c.inside_cover-bare.ensures.work
    (steps_use c.args.position (rows c.args.scope.now) (rows c.step_from_use.new.scope) c.args.environment (phrase_view c.inside_cover-bare.result) (word c.in-Use.used.name.now) (map argument c.in-Use.used.args.now) c.step_from_use.result c.in-Use.ensures c.step_from_use.ensures.steps)

pub returns-in-Pre-clause-steps : goal.returns-in-Pre-clause-steps
returns-in-Pre-clause-steps c =
    steps_under c.args.position (rows c.args.scope.now) (rows c.args.scope.now) c.args.environment (phrase_view c.args.phrase) (phrase_view c.inside_cover-bare.result) (Ok (Previous c.in-Pre.name c.in-Pre.at c.args.environment)) c.inside_cover-bare.ensures.denotation c.inside_cover-bare.ensures.work
    (steps_pre c.args.position (rows c.args.scope.now) c.args.environment (phrase_view c.inside_cover-bare.result) c.in-Pre.name c.in-Pre.at c.in-Pre.ensures c.requires.within)

pub returns-in_ok-inner-in-Let-clause-steps : goal.returns-in_ok-inner-in-Let-clause-steps
returns-in_ok-inner-in-Let-clause-steps c =
    steps_under c.args.position (rows c.args.scope.now) (rows c.declare.new.scope) c.args.environment (phrase_view c.args.phrase) (phrase_view c.inside_cover-bare.result) (Ok (Further (code_phrase.Trace c.in-Let.body) c.in_ok-inner-in-Let.inner)) c.inside_cover-bare.ensures.denotation c.inside_cover-bare.ensures.work
    (steps_let c.args.position (rows c.args.scope.now) (rows c.declare.new.scope) c.args.environment c.in_ok-inner-in-Let.inner (phrase_view c.inside_cover-bare.result) (macro c.in-Let.declared.now) c.in-Let.body c.in-Let.ensures
    c.in_ok-inner-in-Let.ensures.denotation c.in_ok-inner-in-Let.ensures.work c.in_ok-inner-in-Let.ensures.within (code_phrase.Trace c.in-Let.body) refl)

pub returns-in-Exceptions-clause-steps : goal.returns-in-Exceptions-clause-steps
returns-in-Exceptions-clause-steps c =
    steps_under c.args.position (rows c.args.scope.now) (rows c.step_from_exceptions.new.scope) c.args.environment (phrase_view c.args.phrase) (phrase_view c.inside_cover-bare.result) c.step_from_exceptions.result c.inside_cover-bare.ensures.denotation c.inside_cover-bare.ensures.work
    (steps_same c.args.position (rows c.args.scope.now) (rows c.step_from_exceptions.new.scope) c.args.environment (phrase_view c.inside_cover-bare.result) (pure.trace (s.exceptions (words c.in-Exceptions.names.now) (trace c.in-Exceptions.body.now))) c.step_from_exceptions.result c.in-Exceptions.ensures c.step_from_exceptions.ensures.steps)

pub returns-in-Trap-clause-steps : goal.returns-in-Trap-clause-steps
returns-in-Trap-clause-steps c =
    steps_under c.args.position (rows c.args.scope.now) (rows c.step_from_trap.new.scope) c.args.environment (phrase_view c.args.phrase) (phrase_view c.inside_cover-bare.result) c.step_from_trap.result c.inside_cover-bare.ensures.denotation c.inside_cover-bare.ensures.work
    (steps_same c.args.position (rows c.args.scope.now) (rows c.step_from_trap.new.scope) c.args.environment (phrase_view c.inside_cover-bare.result) (pure.trace (s.trap (word c.in-Trap.name.now) (trace c.in-Trap.body.now) (maybe_trace c.in-Trap.handler.now))) c.step_from_trap.result c.in-Trap.ensures c.step_from_trap.ensures.steps)

pub returns-in-HeadNormalForm-clause-steps : goal.returns-in-HeadNormalForm-clause-steps
returns-in-HeadNormalForm-clause-steps c =
    steps_under c.args.position (rows c.args.scope.now) (rows c.args.scope.now) c.args.environment (phrase_view c.args.phrase) (phrase_view c.inside_cover-bare.result) (Ok (Done c.form_at.result)) c.inside_cover-bare.ensures.denotation c.inside_cover-bare.ensures.work
    (steps_form c.args.position (rows c.args.scope.now) c.args.environment (phrase_view c.inside_cover-bare.result) c.form_at.result (c.form_at.ensures c.in-HeadNormalForm.ensures) c.requires.within)
