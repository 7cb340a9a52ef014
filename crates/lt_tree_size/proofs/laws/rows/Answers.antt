use Rattle.lt_tree_size.proofs.Weighings.{assert_row, catch_row, exist_row, instant_row, nodes_are_size, par_row, seq_row, try_row}
use Rattle.lt_tree_size.proofs.laws.rows.Goals as goal

pub returns-clause-sizes : goal.returns-clause-sizes
returns-clause-sizes c = nodes_are_size

pub returns-clause-sequences : goal.returns-clause-sequences
returns-clause-sequences c = seq_row

pub returns-clause-sides : goal.returns-clause-sides
returns-clause-sides c = par_row

pub returns-clause-constraints : goal.returns-clause-constraints
returns-clause-constraints c = assert_row

pub returns-clause-locals : goal.returns-clause-locals
returns-clause-locals c = exist_row

pub returns-clause-handlers : goal.returns-clause-handlers
returns-clause-handlers c = catch_row

pub returns-clause-tries : goal.returns-clause-tries
returns-clause-tries c = try_row

pub returns-clause-instants : goal.returns-clause-instants
returns-clause-instants c = instant_row
