use Rattle.std.proofs.Common.{length, map}
use Rattle.lt_formula.specs.Table.{spelled}
use Rattle.lt_formula.specs.View.{table_expressions, table_kinds, valuation_of_known}
use Rattle.lt_space.specs.Circuit.{formula_at}
use Rattle.lt_space.specs.Meaning.{formulas_of}
use Rattle.lt_space.specs.inner.Work.{formulas_in, joined_onto}
use Rattle.lt_space.proofs.Loadings.{IsJoined}
use Rattle.lt_space.proofs.loading.join_all.Given as goal

-- what is joined so far, with what is left, is what is due
abbrev pub invariant-loop-exp : goal.invariant-loop-exp
invariant-loop-exp l =
    IsJoined (valuation_of_known l.known) l.table (joined_onto (formula_at (formulas_in l.fn.work) l.first) (formulas_of (valuation_of_known l.known) (table_kinds l.table) (map (spelled (table_expressions l.table)) l.wanted)))
    l.fn.work l.root l.rest l.work

abbrev pub decreases-loop-exp : goal.decreases-loop-exp
decreases-loop-exp l = length l.rest
