-- How far a root is, and how much is left to be done for it.
use Rattle.std.specs.Prelude.{ℕ, suc, ◌+◌, ◌≤◌, Bool, true, false, List, [], ◌∷◌}
use Rattle.lt_num.specs.declared.kind.Kind.{Kind}
use Rattle.lt_term.specs.Offers.{TermTree}
use Rattle.lt_term.specs.Process.{Process, eps, dead, con, raise, seq, loop, count, any, pri, par, assert, exist, catch, try}
use Rattle.lt_term.specs.Tree.{leaf}
use Rattle.lt_term.specs.Unfolded.{under}
use Rattle.lt_term.specs.UnfoldedView.{chain_at, leaf_at, term_of}
use Rattle.lt_term.specs.UnfoldingView.{IsWithin, OfferIsWithin, RootIsWithin, root_of, rules_in, rules_of, tree_of}
use Rattle.lt_term.specs.View.{process}
use Rattle.lt_term.specs.declared.unfolding.Stage.{Stage}
use Rattle.lt_term.specs.declared.unfolding.Stage.TheVariants as stage
use Rattle.lt_term.specs.declared.unfolding.Unfolding.{Unfolding}
use Rattle.lt_term.specs.declared.waiting.Waiting.{Waiting}
use Rattle.lt_term.specs.declared.waiting.Waiting.TheVariants as wait

-- a bound of the steps to the root of a term, with those that its rules take
abbrev pub effort : {C : Type 0} → Process C → ℕ
effort eps = 1
effort dead = 1
effort (con c) = 1
effort (raise z) = 1
effort (seq a b) = suc (effort a) + suc (effort b)
effort (loop t) = 1
effort (count i done t) = 1
effort (any cs) = 1
effort (pri a b) = 1
effort (par a b) = suc (effort a) + suc (suc (effort b))
effort (assert c t) = suc (suc (effort t))
effort (exist x v t) = suc (suc (effort t))
effort (catch z t h) = suc (effort t) + suc (effort h)
effort (try t h) = 1

-- whether a term is a choice between trees
abbrev pub is_choice : {C : Type 0} → Process C → Bool
is_choice (loop t) = true
is_choice (count i done t) = true
is_choice (any cs) = true
is_choice (pri a b) = true
is_choice (try t h) = true
is_choice p = false

-- a bound of the steps that a rule takes
abbrev pub rule_effort : Waiting → ℕ
rule_effort (wait.Seq b) = suc (effort (process b.now.value))
rule_effort (wait.Turn t) = 1
rule_effort (wait.Again i done t) = 1
rule_effort (wait.Par b) = suc (suc (effort (process b.now.value)))
rule_effort (wait.Joined i) = 1
rule_effort (wait.Assert c) = 1
rule_effort (wait.Exist x v) = 1
rule_effort (wait.Catch z h) = suc (effort (process h.now.value))
rule_effort (wait.Try h) = 1

-- that of some rules
abbrev pub chain_effort : List Waiting → ℕ
chain_effort [] = 0
chain_effort (r ∷ rs) = rule_effort r + chain_effort rs

-- the tree of a stage
abbrev pub tree_of_stage : List Kind → Unfolding → Stage → TermTree ℕ
tree_of_stage kinds u (stage.In later) = tree_of kinds u later
tree_of_stage kinds u (stage.Out o n) =
    under kinds (rules_of kinds u n) (leaf (leaf_at kinds u.instants.items o))
tree_of_stage kinds u (stage.At r) = root_of kinds u r

-- what a stage names is there
abbrev pub StageIsWithin : Unfolding → Stage → Type 0
StageIsWithin u (stage.In later) = IsWithin u later
StageIsWithin u (stage.Out o n) = (n ≤ rules_in u) × OfferIsWithin u o
StageIsWithin u (stage.At r) = RootIsWithin u r

-- that of the rules of a number
abbrev pub effort_at : Unfolding → ℕ → ℕ
effort_at u n = chain_effort (chain_at u.rules.items n)

-- a bound of the steps that are left
abbrev pub stage_effort : Unfolding → Stage → ℕ
stage_effort u (stage.In later) = suc (effort (term_of later) + effort_at u later.rules)
stage_effort u (stage.Out o n) = suc (effort_at u n)
stage_effort u (stage.At r) = 0
