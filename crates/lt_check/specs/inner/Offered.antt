-- What a term of the code offers.
use Rattle.lt_formula.specs.Expression.{Expression}
use Rattle.lt_term.specs.Offers.{TermTree, offers_of}
use Rattle.lt_term.specs.Process.{with_constraints}
use Rattle.lt_term.specs.View.{kinds_of, process}
use Rattle.lt_term.specs.declared.scenario.Scenario.{Scenario}
use Rattle.lt_term.specs.declared.term.Term.{Term}
use Rattle.lt_instant.specs.inner.DrawContextView.{meaning_of}

-- what a term offers, with expressions in place of numbers
abbrev pub offered_by : Scenario → Term → TermTree Expression
offered_by s term = offers_of (kinds_of s.locals.items) (with_constraints (meaning_of s.table) (process term))
