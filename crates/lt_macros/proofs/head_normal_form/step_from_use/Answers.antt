use Rattle.std.proofs.Common.{length, map, sym, ◌∙◌}
use Rattle.std.proofs.lemmas.List.{length-map}
use Rattle.lt_ast.specs.View.{argument, word}
use Rattle.lt_macros.specs.inner.Rows.{rows}
use Rattle.lt_macros.proofs.Stepping.{steps_covered, steps_entry, steps_handed, steps_hidden, steps_unknown}
use Rattle.lt_macros.proofs.Targets.{taken_handed}
use Rattle.lt_macros.proofs.head_normal_form.step_from_use.Goals as goal

pub returns-then-is_hidden-clause-steps : goal.returns-then-is_hidden-clause-steps
returns-then-is_hidden-clause-steps c =
    steps_hidden c.args.position (rows c.args.scope.now) c.args.environment (word c.args.used.name.now) (map argument c.args.used.args.now) (length c.args.used.args.now) c.reached_by-reached.result
    (length-map c.args.used.args.now argument) c.reached_by-reached.ensures (sym c.is_hidden.ensures ∙ c.if-is_hidden.true)

pub returns-in_default-clause-steps : goal.returns-in_default-clause-steps
returns-in_default-clause-steps c =
    steps_unknown c.args.position (rows c.args.scope.now) c.args.environment (word c.args.used.name.now) (map argument c.args.used.args.now) (length c.args.used.args.now) c.reached_by-reached.result
    (length-map c.args.used.args.now argument) c.reached_by-reached.ensures (sym c.is_hidden.ensures ∙ c.if-is_hidden.false) c.in_default.ensures.denotation

pub returns-in_default-handed_on-clause-steps : goal.returns-in_default-handed_on-clause-steps
returns-in_default-handed_on-clause-steps c =
    steps_entry c.args.position (rows c.args.scope.now) (rows c.step_from_entry.new.scope) c.args.environment (word c.args.used.name.now) (map argument c.args.used.args.now) (length c.args.used.args.now) c.reached_by-reached.result c.in-Some.entry c.step_from_entry.result
    (length-map c.args.used.args.now argument) c.reached_by-reached.ensures (sym c.is_hidden.ensures ∙ c.if-is_hidden.false) c.in-Some.ensures.denotation c.in-Some.ensures.work
    c.step_from_entry.ensures.denotation c.step_from_entry.ensures.work c.step_from_entry.ensures.within

pub returns-then-is_hidden-2-clause-steps : goal.returns-then-is_hidden-2-clause-steps
returns-then-is_hidden-2-clause-steps c =
    steps_covered c.args.position (rows c.args.scope.now) c.args.environment (word c.args.used.name.now) (map argument c.args.used.args.now) (length c.args.used.args.now) c.reached_by-reached.result c.in-Some.entry (argument c.in-Some-handed_on.handed.argument.now) c.in-Some-handed_on.handed.covered
    (length-map c.args.used.args.now argument) c.reached_by-reached.ensures (sym c.is_hidden.ensures ∙ c.if-is_hidden.false) c.in-Some.ensures.denotation
    (taken_handed (rows c.args.scope.now) c.in-Some.entry c.args.used.args.now c.in-Some-handed_on.handed (c.in-Some.ensures.right c.requires.right) c.in-Some-handed_on.ensures)
    (sym c.is_hidden-2.ensures ∙ c.if-is_hidden-2.true)

pub returns-clause-steps : goal.returns-clause-steps
returns-clause-steps c =
    steps_handed c.args.position (rows c.args.scope.now) c.args.environment (word c.args.used.name.now) (map argument c.args.used.args.now) (length c.args.used.args.now) c.reached_by-reached.result c.in-Some.entry (argument c.in-Some-handed_on.handed.argument.now) c.in-Some-handed_on.handed.covered c.phrase_of_argument.result
    (length-map c.args.used.args.now argument) c.reached_by-reached.ensures (sym c.is_hidden.ensures ∙ c.if-is_hidden.false) c.in-Some.ensures.denotation c.in-Some.ensures.work
    (taken_handed (rows c.args.scope.now) c.in-Some.entry c.args.used.args.now c.in-Some-handed_on.handed (c.in-Some.ensures.right c.requires.right) c.in-Some-handed_on.ensures)
    (sym c.is_hidden-2.ensures ∙ c.if-is_hidden-2.false) c.phrase_of_argument.ensures c.requires.within
