-- The tally of a tree.
use Rattle.std.specs.Prelude.{◌≡◌, ℕ}
use Rattle.lt_term.specs.Offers.{TermTree}
use Rattle.lt_term.specs.Size.{capped}
use Rattle.lt_tree_size.specs.Tally.{nodes, vanishes, goes, raises}
use Rattle.lt_tree_size.specs.declared.tally.Tally as code

-- a tally is that of a tree
pub record IsTally (k : code.Tally) (t : TermTree ℕ) : Type 0 where
  pub nodes_are : k.nodes ≡ capped (nodes t)
  pub vanishes_are : k.vanishes ≡ capped (vanishes t)
  pub goes_are : k.goes ≡ capped (goes t)

-- so many leaves of a tree raise an exception
abbrev pub IsRaised : ℕ → ℕ → TermTree ℕ → Type 0
IsRaised n z t = n ≡ capped (raises z t)
