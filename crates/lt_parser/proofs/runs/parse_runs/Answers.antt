use Rattle.std.proofs.Common.{ap, map, sym}
use Rattle.lt_ast.specs.View.{run, trace}
use Rattle.lt_grammar.specs.Nesting.{most_levels}
use Rattle.lt_parser.specs.inner.Onto.{runs_after}
use Rattle.lt_parser.specs.inner.Reading.{outcome, some_runs}
use Rattle.lt_parser.specs.inner.Tokens.{lexemes}
use Rattle.lt_parser.proofs.Steps.{reads_by}
use Rattle.lt_parser.proofs.runs.parse_runs.Goals as goal

pub returns-clause-reads : goal.returns-clause-reads
returns-clause-reads c =
    let ts = lexemes c.args.tokens.now in
    reads_by (λ x k. k (map run x.0.items) (trace x.1)) (λ x. lexemes x.2.now) (λ k. some_runs 0 k) (runs_after 0 c.new.result.items) ts ts c.parse_more_runs.result
    (λ k. ap (λ xs. outcome most_levels (runs_after 0 xs k) ts) (sym c.new.ensures.items))
    c.parse_more_runs.ensures.reads
