-- What rules and instants by number stand for, and so the trees that are not unfolded yet.
use Rattle.std.specs.Borrow.{Bor}
use Rattle.std.specs.Prelude.{ℕ, suc, List, [], ◌∷◌, ◌++◌, None, Some, length, map, slice_index_or}
use Rattle.std.specs.declared.option.Option.{Option}
use Rattle.lt_num.specs.declared.kind.Kind.{Kind}
use Rattle.lt_term.specs.Offers.{TermLeaf, TermTree, in_turn, offers_of, offers_of_each}
use Rattle.lt_term.specs.Process.{Process, eps, loop, count}
use Rattle.lt_term.specs.Tree.{Lasts, vanish, nothing, raised, leaf, ordered, weighted, no_branch, branch, more, stop, with_leaves}
use Rattle.lt_term.specs.Unfolded.{Instant, Rule, by_seq, by_turn, by_par, by_joined, by_assert, by_exist, by_catch, by_try, TermBranches, each_under, going, in_scope, instant_by, instant_of, under}
use Rattle.lt_term.specs.View.{choices, process}
use Rattle.lt_term.specs.declared.instants.Made.{Made}
use Rattle.lt_term.specs.declared.instants.Made.TheVariants as made
use Rattle.lt_term.specs.declared.root.Later.{Later}
use Rattle.lt_term.specs.declared.root.Offer.{Offer}
use Rattle.lt_term.specs.declared.root.Offer.TheVariants as offer
use Rattle.lt_term.specs.declared.root.Parts.{Parts}
use Rattle.lt_term.specs.declared.root.Parts.TheVariants as parts
use Rattle.lt_term.specs.declared.root.Root.{Root}
use Rattle.lt_term.specs.declared.root.Root.TheVariants as root
use Rattle.lt_term.specs.declared.term.Term.{Term}
use Rattle.lt_term.specs.declared.waiting.Link.{Link}
use Rattle.lt_term.specs.declared.waiting.Waiting.{Waiting}
use Rattle.lt_term.specs.declared.waiting.Waiting.TheVariants as wait

-- a rule, over the instants that it names
abbrev pub rule_of : (ℕ → Instant ℕ) → Waiting → Rule ℕ
rule_of at (wait.Seq b) = by_seq (process b.now.value)
rule_of at (wait.Turn t) = by_turn (loop (process t.now.value))
rule_of at (wait.Again i done t) = by_turn (count i (suc done) (process t.now.value))
rule_of at (wait.Par b) = by_par (process b.now.value)
rule_of at (wait.Joined i) = by_joined (at i)
rule_of at (wait.Assert c) = by_assert c
rule_of at (wait.Exist x v) = by_exist x v
rule_of at (wait.Catch z h) = by_catch z (process h.now.value)
rule_of at (wait.Try h) = by_try (process h.now.value)

-- the instant of a number; beyond the last one, any
abbrev pub numbered : List (Instant ℕ) → ℕ → Instant ℕ
numbered is n = slice_index_or is n (instant_of 0)

-- an instant, of what is among these
abbrev pub made_of : List Kind → List (Instant ℕ) → Made → Instant ℕ
made_of kinds is (made.Con c) = instant_of c
made_of kinds is (made.Under i r) = instant_by kinds (rule_of (numbered is) r) (numbered is i)

-- what each element makes of what the earlier ones made, behind what was there
abbrev pub grown : {A B : Type 0} → (List A → B → A) → List A → List B → List A
grown f xs [] = xs
grown f xs (b ∷ bs) = grown f (xs ++ f xs b ∷ []) bs

-- the instants that are made in turn
abbrev pub instants_of : List Kind → List Made → List (Instant ℕ)
instants_of kinds ms = grown (made_of kinds) [] ms

-- the one of a number
abbrev pub instant_at : List Kind → List Made → ℕ → Instant ℕ
instant_at kinds ms n = numbered (instants_of kinds ms) n

-- the chain of a number: the innermost rule first
abbrev pub chain_among : List (List Waiting) → ℕ → List Waiting
chain_among chains n = slice_index_or chains n []

-- the chain of a link: its rule, and an earlier chain
abbrev pub chain_of : List (List Waiting) → Link → List Waiting
chain_of chains l = l.rule ∷ chain_among chains l.outer

-- the chains of links; that of 0 has no rule
abbrev pub chains_of : List Link → List (List Waiting)
chains_of ls = grown chain_of ([] ∷ []) ls

-- the chain of a number
abbrev pub chain_at : List Link → ℕ → List Waiting
chain_at ls n = chain_among (chains_of ls) n

-- its rules
abbrev pub rules_at : List Kind → List Link → List Made → ℕ → List (Rule ℕ)
rules_at kinds ls ms n = map (rule_of (instant_at kinds ms)) (chain_at ls n)

-- a term that may be over
abbrev pub process_of : Option (Bor Term) → Process ℕ
process_of None = eps
process_of (Some t) = process t.now

-- the term of a tree that is not unfolded yet
abbrev pub term_of : Later → Process ℕ
term_of later = process_of later.term

-- its tree
abbrev pub tree_at : List Kind → List Link → List Made → Later → TermTree ℕ
tree_at kinds ls ms l = under kinds (rules_at kinds ls ms l.rules) (offers_of kinds (term_of l))

-- a leaf
abbrev pub leaf_at : List Kind → List Made → Offer → TermLeaf ℕ
leaf_at kinds ms offer.Nothing = nothing
leaf_at kinds ms offer.Vanish = vanish
leaf_at kinds ms (offer.Raise z) = raised z
leaf_at kinds ms (offer.Go i) = going (instant_at kinds ms i)

-- one more turn of a counted loop, and its end
abbrev pub turns_of : List Kind → ℕ → ℕ → Process ℕ → TermBranches ℕ
turns_of kinds i done t =
    let once = with_leaves (in_turn (count i (suc done) t)) (offers_of kinds t) in
    branch (more i done) once (branch (stop i done) (leaf vanish) no_branch)

-- the parts of a choice, without rules
abbrev pub branches_of : List Kind → Parts → TermBranches ℕ
branches_of kinds (parts.Among cs) = offers_of_each kinds (choices cs.now.items)
branches_of kinds (parts.Turns i done t) = turns_of kinds i done (process t.now.value)

-- how many parts there are
abbrev pub parts_count : Parts → ℕ
parts_count (parts.Among cs) = length cs.now.items
parts_count (parts.Turns i done t) = 2

-- the parts of a choice, under the rules of a number
abbrev pub parts_at : List Kind → List Link → List Made → Parts → ℕ → TermBranches ℕ
parts_at kinds ls ms ps n = each_under kinds (rules_at kinds ls ms n) (branches_of kinds ps)

-- the locals in scope of its weights
abbrev pub scope_at : List Link → ℕ → Lasts
scope_at ls n = in_scope (map (rule_of (λ i. instant_of 0)) (chain_at ls n)) []

-- the tree of a root
abbrev pub root_at : List Kind → List Link → List Made → Root → TermTree ℕ
root_at kinds ls ms (root.Leaf o) = leaf (leaf_at kinds ms o)
root_at kinds ls ms (root.Order a b) = ordered (tree_at kinds ls ms a) (tree_at kinds ls ms b)
root_at kinds ls ms (root.Choice ps n) = weighted (scope_at ls n) (parts_at kinds ls ms ps n)
