use Rattle.std.proofs.Common.{◌+◌, [], ◌∷◌, ◌∙◌, ap, map, arith}
use Rattle.lt_ast.specs.View.{run, trace}
use Rattle.lt_grammar.specs.Nesting.{most_levels}
use Rattle.lt_parser.specs.inner.Onto.{runs_after, runs_onto}
use Rattle.lt_parser.specs.inner.Reading.{a_trace, outcome, some_runs}
use Rattle.lt_parser.specs.inner.Tokens.{lexemes}
use Rattle.lt_parser.proofs.RunsTaken.{a_body_first, run_pushed, run_taken, runs_onto-none}
use Rattle.lt_parser.proofs.Steps.{err_by, reads_by}
use Rattle.lt_parser.proofs.runs.+parse_more_runs.Goals as goal

pub returns-in_err-body-clause-reads : goal.returns-in_err-body-clause-reads
returns-in_err-body-clause-reads given c =
    let ts = lexemes c.args.tokens.now in
    let before = c.args.before.items in
    err_by (λ x k. k (map run x.0.items) (trace x.1)) (λ x. lexemes x.2.now) (runs_after c.args.depth before) (a_trace c.args.depth) (λ k x. k (runs_onto before []) x) ts ts c.in_err-body.field-0.0 c.from_residual.result
    (λ k. a_body_first c.args.depth (λ more x. k (runs_onto before more) x) ts c.in_default.ensures.found)
    c.in_err-body.ensures.reads c.from_residual.ensures.1

pub returns-in_default-clause-reads : goal.returns-in_default-clause-reads
returns-in_default-clause-reads given c = λ k.
    let before = c.args.before.items in
    a_body_first c.args.depth (λ more x. k (runs_onto before more) x) (lexemes c.args.tokens.now) c.in_default.ensures.found
    ∙ c.in_ok-body.ensures.reads (λ x. k (runs_onto before []) x)
    ∙ ap (λ rs. outcome most_levels (k rs (trace c.in_ok-body.body)) (lexemes c.in_ok-body.rest.now)) (runs_onto-none before)

pub returns-clause-reads : goal.returns-clause-reads
returns-clause-reads given c =
    let d = c.args.depth in
    let before = c.args.before.items in
    let deep = c.in_ok-inside.ensures.deep in
    let rest = lexemes c.in_ok-declared.rest.now in
    reads_by (λ x k. k (map run x.0.items) (trace x.1)) (λ x. lexemes x.2.now) (runs_after d before) (runs_after (d + 1) c.push.new.self.items) (lexemes c.args.tokens.now) rest c.parse_more_runs.result
    (λ k.
    run_taken d (d + 1) c.in_ok-inside.inside (λ more x. k (runs_onto before more) x) c.in-Some.start (lexemes c.args.tokens.now) (lexemes c.in-Some.next.now) c.in-Some.ensures.found (omega arith) deep.0 deep.2
    ∙ c.in_ok-declared.ensures.reads (λ r. some_runs (d + 1) (λ rs x. k (runs_onto before (r ∷ rs)) x))
    ∙ run_pushed (d + 1) before c.push.new.self.items c.in_ok-declared.declared c.in_ok-push.ensures.items k rest)
    c.parse_more_runs.ensures.reads
