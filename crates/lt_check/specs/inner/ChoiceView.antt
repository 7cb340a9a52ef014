-- Choices of what is unfolded.
use Rattle.lt_term.specs.UnfoldingView.{RootIsWithin}
use Rattle.lt_term.specs.declared.root.Root.TheVariants as root
use Rattle.lt_term.specs.declared.unfolding.Unfolding.{Unfolding}
use Rattle.lt_check.specs.declared.choice.Choice.{Choice}

-- what a choice names is there
abbrev pub ChoiceIsWithin : Unfolding → Choice → Type 0
ChoiceIsWithin u c = RootIsWithin u (root.Choice c.parts c.rules)
