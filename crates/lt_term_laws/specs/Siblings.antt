-- What is done beside something else.
use Rattle.std.specs.Prelude.{◌≡◌, ℕ, List}
use Rattle.lt_num.specs.declared.kind.Kind.{Kind}
use Rattle.lt_formula.specs.Expression.{Expression}
use Rattle.lt_term.specs.Offers.{offers_of}
use Rattle.lt_term.specs.Process.{Process, pri, par}
use Rattle.lt_term.specs.Tree.{raised, leaf, ordered}

-- A choice by priority beside a term is a choice between both alternatives beside it.
abbrev pub PriorityIsJudgedWithSiblings : Type 0
PriorityIsJudgedWithSiblings =
    (kinds : List Kind) (a b beside : Process Expression) → offers_of kinds (par (pri a b) beside) ≡ ordered (offers_of kinds (par a beside)) (offers_of kinds (par b beside))

-- What the first side raises is raised, whatever the second one does.
abbrev pub FirstSideIsHeardFirst : Type 0
FirstSideIsHeardFirst = (kinds : List Kind) (z : ℕ) (a b : Process Expression) → offers_of kinds a ≡ leaf (raised z) → offers_of kinds (par a b) ≡ leaf (raised z)
