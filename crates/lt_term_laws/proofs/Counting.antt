-- How often counted loops turn.
use Rattle.std.proofs.Common.{◌≡◌, ◌≢◌, ℕ, ◌<◌, ◌≤◌, Bool, true, false, nat_le, if◌then◌else◌, [], All, inl, inr, refl, arith, leb-true}
use Rattle.std.proofs.lemmas.List.Elements.{All-append, All-cons, All-nil}
use Rattle.lt_formula.specs.Expression.{Expression}
use Rattle.lt_term.specs.Offers.{TermLeaf, TermTree, in_turn, offers_of}
use Rattle.lt_term.specs.Process.{Process}
use Rattle.lt_term.specs.Tree.{leaf, ordered, weighted, Branches, no_branch, branch, leaf_node, ordered_node, vanish, nothing, raised, go, with_leaves, branches_with_leaves, flattened, flattened_each}
use Rattle.lt_term_laws.specs.Counting.{CountedLoopsKeepTheirBounds, TurnsTakeInstants}

-- a loop that may end has done enough turns
enough : (lo done : ℕ) (b : Bool) → nat_le lo done ≡ b → 0 < (if b then 1 else 0) → lo ≤ done
enough lo done true e h = leb-true lo done e
enough lo done false e h = absurd (omega (arith, h))

pub bounds : CountedLoopsKeepTheirBounds
bounds s c inputs kinds can_hold i done t position (n, e, inl (w, l)) = inl (omega (arith, w), (n, e, l))
bounds s c inputs kinds can_hold i done t position (n, e, inr (m, d, inl (w, (z, u)))) = inr (enough _ done _ refl w, omega (arith, e, d, z))
bounds s c inputs kinds can_hold i done t position (n, e, inr (m, d, inr (k, f, b))) = absurd b

-- what a turn makes of a leaf isn't a leaf that vanishes
leaf_turns : (again : Process Expression) (l : TermLeaf Expression) → All (λ n. n ≢ leaf_node vanish) (flattened (in_turn again l))
leaf_turns again vanish = All-cons (λ n. n ≢ leaf_node vanish) (leaf_node nothing) [] (λ h. absurd (cc)) (All-nil (λ n. n ≢ leaf_node vanish))
leaf_turns again nothing = All-cons (λ n. n ≢ leaf_node vanish) (leaf_node nothing) [] (λ h. absurd (cc)) (All-nil (λ n. n ≢ leaf_node vanish))
leaf_turns again (raised z) = All-cons (λ n. n ≢ leaf_node vanish) (leaf_node (raised z)) [] (λ h. absurd (cc)) (All-nil (λ n. n ≢ leaf_node vanish))
leaf_turns again (go cs ls n) = All-cons (λ n. n ≢ leaf_node vanish) _ [] (λ h. absurd (cc)) (All-nil (λ n. n ≢ leaf_node vanish))

mutual
  tree_turns : (again : Process Expression) (t : TermTree Expression) → All (λ n. n ≢ leaf_node vanish) (flattened (with_leaves (in_turn again) t))
  tree_turns again (leaf l) = leaf_turns again l
  tree_turns again (ordered a b) = All-cons (λ n. n ≢ leaf_node vanish) ordered_node _ (λ h. absurd (cc)) (All-append (λ n. n ≢ leaf_node vanish) _ _ (tree_turns again a) (tree_turns again b))
  tree_turns again (weighted ls bs) = All-cons (λ n. n ≢ leaf_node vanish) _ _ (λ h. absurd (cc)) (branches_turn again bs)

  branches_turn : (again : Process Expression) (bs : Branches Expression (Process Expression)) → All (λ n. n ≢ leaf_node vanish) (flattened_each (branches_with_leaves (in_turn again) bs))
  branches_turn again no_branch = All-nil (λ n. n ≢ leaf_node vanish)
  branches_turn again (branch w t bs) = All-append (λ n. n ≢ leaf_node vanish) _ _ (tree_turns again t) (branches_turn again bs)

pub instants : TurnsTakeInstants
instants kinds t again = tree_turns again (offers_of kinds t)

pub ruleset counts = (bounds, instants)
