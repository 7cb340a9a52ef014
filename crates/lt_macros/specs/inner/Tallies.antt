-- Figures as the code has them.
use Rattle.std.specs.Prelude.{ℕ}
use Rattle.lt_macros.specs.inner.Figures.{Figure, nodes, deep_terms, deep_expressions, wide_choices, locals}
use Rattle.lt_macros.specs.declared.tally.Tally.{Tally}

-- a figure
abbrev pub counted : Tally → Figure → ℕ
counted t nodes = t.nodes
counted t deep_terms = t.deep_terms
counted t deep_expressions = t.deep_expressions
counted t wide_choices = t.wide_choices
counted t locals = t.locals
