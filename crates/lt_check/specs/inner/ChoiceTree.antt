-- The tree of a choice of what is unfolded.
use Rattle.std.specs.Prelude.{ℕ}
use Rattle.lt_term.specs.Offers.{TermTree}
use Rattle.lt_term.specs.Tree.{weighted}
use Rattle.lt_term.specs.UnfoldingView.{parts_of, scope_of}
use Rattle.lt_term.specs.declared.unfolding.Unfolding.{Unfolding}
use Rattle.lt_instant.specs.declared.draw_context.DrawContext.{DrawContext}
use Rattle.lt_check.specs.declared.choice.Choice.{Choice}
use Rattle.lt_check.specs.inner.QuestionView.{kinds_in}

-- the tree of a choice
abbrev pub choice_tree : DrawContext → Unfolding → Choice → TermTree ℕ
choice_tree m u c = weighted (scope_of u c.rules) (parts_of (kinds_in m) u c.parts c.rules)
