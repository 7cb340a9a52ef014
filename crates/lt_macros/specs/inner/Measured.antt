-- The figures of what a list of the code has.
use Rattle.std.specs.Prelude.{ℕ, ◌+◌, List, [], ◌∷◌}
use Rattle.lt_macros.specs.Tree.{expanded, placed}
use Rattle.lt_macros.specs.inner.Figures.{Figure, expanded_figure, expression_figure}
use Rattle.lt_macros.specs.declared.tree.Part.{Part}

-- of alternatives that stand so deep
abbrev pub alternatives_figure : Figure → ℕ → List Part → ℕ
alternatives_figure f depth [] = 0
alternatives_figure f depth (p ∷ ps) = expression_figure f 1 (placed p.weight) + (expanded_figure f depth (expanded p.body.value) + alternatives_figure f depth ps)
