use Rattle.std.proofs.Common.{length}
use Rattle.lt_formula.specs.Table.{spelled}
use Rattle.lt_formula.specs.View.{table_expressions}
use Rattle.lt_term.specs.Limits.{most_nodes}
use Rattle.lt_term.specs.Named.{parts_in}
use Rattle.lt_term.specs.View.{process, process_over}
use Rattle.lt_marks.proofs.Sizes.{body_few}
use Rattle.lt_marks.proofs.Starts.{body_narrow, body_starts}
use Rattle.lt_marks.proofs.laws.body_is_at_start.Goals as goal

pub returns-clause-begins : goal.returns-clause-begins
returns-clause-begins c = let s = c.args.scenario.now in body_starts (spelled (table_expressions s.table)) (process s.body) s.at_start

pub returns-clause-narrow : goal.returns-clause-narrow
returns-clause-narrow c = let s = c.args.scenario.now in body_narrow (spelled (table_expressions s.table)) (process s.body) s.narrow

pub returns-clause-few : goal.returns-clause-few
returns-clause-few c =
    let s = c.args.scenario.now in
    body_few (spelled (table_expressions s.table)) (process s.body) (length (parts_in (process_over s.table s.body))) most_nodes s.few_nodes
