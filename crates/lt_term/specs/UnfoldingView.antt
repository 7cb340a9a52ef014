-- What is unfolded: the trees and instants that it has by number.
use Rattle.std.specs.Prelude.{◌≡◌, ◌≤◌, ◌<◌, ℕ, List, ◌++◌, length}
use Rattle.lt_num.specs.declared.kind.Kind.{Kind}
use Rattle.lt_formula.specs.Limits.{most_turns}
use Rattle.lt_term.specs.Counted.{AreCounted, IsCounted}
use Rattle.lt_term.specs.Offers.{TermTree}
use Rattle.lt_term.specs.Tree.{Lasts}
use Rattle.lt_term.specs.Unfolded.{Instant, Rule, TermBranches}
use Rattle.lt_term.specs.UnfoldedView.{instant_at, parts_at, root_at, rules_at, scope_at, term_of, tree_at}
use Rattle.lt_term.specs.View.{choices, process}
use Rattle.lt_term.specs.declared.instants.Made.{Made}
use Rattle.lt_term.specs.declared.root.Later.{Later}
use Rattle.lt_term.specs.declared.root.Offer.{Offer}
use Rattle.lt_term.specs.declared.root.Offer.TheVariants as offer
use Rattle.lt_term.specs.declared.root.Parts.{Parts}
use Rattle.lt_term.specs.declared.root.Parts.TheVariants as parts
use Rattle.lt_term.specs.declared.root.Root.{Root}
use Rattle.lt_term.specs.declared.root.Root.TheVariants as root
use Rattle.lt_term.specs.declared.unfolding.Unfolding.{Unfolding}
use Rattle.lt_term.specs.declared.waiting.Link.{Link}

-- the tree of what is not unfolded yet, where locals have these kinds
abbrev pub tree_of : List Kind → Unfolding → Later → TermTree ℕ
tree_of kinds u later = tree_at kinds u.rules.items u.instants.items later

-- the tree of a root
abbrev pub root_of : List Kind → Unfolding → Root → TermTree ℕ
root_of kinds u r = root_at kinds u.rules.items u.instants.items r

-- the rules of a number
abbrev pub rules_of : List Kind → Unfolding → ℕ → List (Rule ℕ)
rules_of kinds u n = rules_at kinds u.rules.items u.instants.items n

-- the parts of a choice, under the rules of a number
abbrev pub parts_of : List Kind → Unfolding → Parts → ℕ → TermBranches ℕ
parts_of kinds u ps n = parts_at kinds u.rules.items u.instants.items ps n

-- the locals in scope of the weights of a choice
abbrev pub scope_of : Unfolding → ℕ → Lasts
scope_of u n = scope_at u.rules.items n

-- an instant by number
abbrev pub instant_in : List Kind → Unfolding → ℕ → Instant ℕ
instant_in kinds u n = instant_at kinds u.instants.items n

-- how many rules, and how many instants
abbrev pub rules_in : Unfolding → ℕ
rules_in u = length u.rules.items

abbrev pub instants_in : Unfolding → ℕ
instants_in u = length u.instants.items

-- What is not unfolded yet has its rules, and its loops have no more turns done than they may have.
pub record IsWithin (u : Unfolding) (later : Later) : Type 0 where
  pub rules : later.rules ≤ rules_in u
  pub counted : IsCounted (term_of later)

-- an instant of a leaf is there
abbrev pub OfferIsWithin : Unfolding → Offer → Type 0
OfferIsWithin u (offer.Go i) = i < instants_in u
OfferIsWithin u o = Unit {0}

-- the loops of parts have no more turns done than they may have
abbrev pub PartsAreCounted : Parts → Type 0
PartsAreCounted (parts.Among cs) = AreCounted (choices cs.now.items)
PartsAreCounted (parts.Turns i done t) = (done ≤ most_turns) × IsCounted (process t.now.value)

-- what a root names is there
abbrev pub RootIsWithin : Unfolding → Root → Type 0
RootIsWithin u (root.Leaf o) = OfferIsWithin u o
RootIsWithin u (root.Order a b) = IsWithin u a × IsWithin u b
RootIsWithin u (root.Choice ps n) = (n ≤ rules_in u) × PartsAreCounted ps

-- What was there is there still, and something more may stand behind it.
pub record Grows (old new : Unfolding) : Type 0 where
  pub more_rules : List Link
  pub more_instants : List Made
  pub rules : new.rules.items ≡ old.rules.items ++ more_rules
  pub instants : new.instants.items ≡ old.instants.items ++ more_instants
