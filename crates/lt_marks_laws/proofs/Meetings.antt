-- What stands where a draw is.
use Rattle.std.proofs.Common.{◌≡◌, ℕ, zero, suc, ◌+◌, ◌<◌, ◌≤◌, Bool, List, [], ◌∷◌, length, get_or, Ok, Err, Some, refl, ap, sym, ◌∙◌, subst, arith}
use Rattle.std.proofs.Math.Nat.{min-eq_left}
use Rattle.std.proofs.lemmas.Grind.{get_or_default_zero}
use Rattle.lt_num.specs.declared.fault.Arith.{Arith}
use Rattle.lt_term.specs.Offers.{TermLeaf, TermTree}
use Rattle.lt_term.specs.Process.{Process}
use Rattle.lt_term.specs.Size.{capped}
use Rattle.lt_term.specs.Tree as t
use Rattle.lt_term.specs.Tree.{Lasts, Weight, vanish, nothing, raised, go}
use Rattle.lt_draw_path.specs.Tree.{Tree, leaf, ordered, weighted, spoilt, Branches, no_branch, branch, size, size_of_each, weights_of, leaf_of, below, before, before_each, HasPart}
use Rattle.lt_draw_path.specs.Walking.{IsWalking}
use Rattle.lt_draw_path.specs.declared.draw_path.Entry.{Entry}
use Rattle.lt_walk.specs.Asked.{IsChoice, IsOrder}
use Rattle.lt_walk.specs.Before.{nodes_before}
use Rattle.lt_marks.specs.Path.{Arrival, at_leaf, at_ordered, at_weighted, at_path}
use Rattle.lt_marks.specs.Walk.{State, setting_out, Follows}
use Rattle.lt_marks.specs.declared.walk.Reached.{Reached}
use Rattle.lt_marks.specs.declared.walk.Reached.TheVariants as reached
use Rattle.lt_marks_laws.proofs.Numbers.{agrees, places_agree, sizes_agree, walks_agree, worth_count}
use Rattle.lt_marks_laws.specs.Looked.{Looks, HasLeaf, HasOrder, HasChoice}
use Rattle.lt_marks_laws.specs.Valued.{Spot, plain, broken, Weigher, worths, valued, IsChoiceOf, IsOrdered, Agrees}

-- a number of nodes that a tree may have is known as it is
as_it_is : (n m : ℕ) → m ≤ 65536 → n ≡ capped m → n ≡ m
as_it_is n m l e = e ∙ min-eq_left (let d : m ≤ 65537 = omega (arith, l) in d)

before_within : (bs : Branches Spot) (k : ℕ) → before_each bs k ≤ size_of_each bs
before_within no_branch k = omega arith
before_within (branch w u bs) zero = omega arith
before_within (branch w u bs) (suc k) = let m = before_within bs k in omega (arith, m)

-- an order
ordered_is : (v : Tree Spot) → IsOrdered v → (a : Tree Spot) × (b : Tree Spot) × (v ≡ ordered a b)
ordered_is (ordered a b) h = (a, b, refl)
ordered_is (leaf s) h = absurd h
ordered_is (weighted bs) h = absurd h
ordered_is (spoilt s bs) h = absurd h

-- a choice, and one with a fault
weighted_is : (v : Tree Spot) (vs : List ℕ) → IsChoiceOf (Ok vs) v → (bs : Branches Spot) × (v ≡ weighted bs) × (weights_of bs ≡ vs)
weighted_is (weighted bs) vs h = (bs, refl, h)
weighted_is (ordered a b) vs h = absurd h
weighted_is (leaf s) vs h = absurd h
weighted_is (spoilt s bs) vs h = absurd h

spoilt_is : (v : Tree Spot) (fault : Arith) → IsChoiceOf (Err fault) v → leaf_of v ≡ Some (broken fault)
spoilt_is (spoilt s bs) fault h = ap Some h
spoilt_is (weighted bs) fault h = absurd h
spoilt_is (ordered a b) fault h = absurd h
spoilt_is (leaf s) fault h = absurd h

module _ (weigh : Weigher ℕ) (word : ℕ → ℕ) (stops : Spot → Bool) (whole : TermTree ℕ) (path : List ℕ) (p : ℕ) (es : List Entry) (w : IsWalking word stops (valued weigh whole) path p es) where
  abbrev here : Tree Spot
  here = below (valued weigh whole) path

  -- what stands there in what is offered
  stands : (a : Arrival ℕ (Process ℕ)) → at_path whole path ≡ a → Agrees weigh a here
  stands a e = subst (λ b. Agrees weigh b here) e (agrees weigh whole path w.leads)

  -- a choice by weight whose weights have a fault
  pub fault_met : (ls : Lasts) (ws : List (Weight ℕ)) (fault : Arith) → at_path whole path ≡ at_weighted ls ws → worths weigh ls ws ≡ Err fault → leaf_of here ≡ Some (broken fault)
  fault_met ls ws fault at e = spoilt_is here fault (subst (λ r. IsChoiceOf r here) e (stands (at_weighted ls ws) at))

  module _ (few : t.size whole ≤ 65536) where
    here_few : size here ≤ 65536
    here_few = let z : size (valued weigh whole) ≡ t.size whole = sizes_agree weigh whole in omega (arith, few, z, w.within)

    -- an order, of which a chooser is told how many nodes its first side has
    pub order_met : (n : ℕ) → IsOrder whole path n → HasOrder n here
    order_met n o =
        let s = ordered_is here (stands at_ordered o.stands) in
        let z : size here ≡ 1 + size s.0 + size s.1 = ap size s.2 in
        let part : HasPart here 1 = subst (λ v. HasPart v 1) (sym s.2) tt in
        let same : size s.0 ≡ nodes_before whole path 1 = ap (λ v. before v 1) (sym s.2) ∙ places_agree weigh whole path 1 w.leads part in
        record {
          first = s.0;
          second = s.1;
          stands = s.2;
          nodes = as_it_is n (size s.0) (omega (arith, z, here_few)) (o.nodes ∙ ap capped (sym same));
        }

    -- a choice by weight, of which it is told how many nodes stand before each part
    pub choice_met : (ls : Lasts) (ws : List (Weight ℕ)) (vs ns : List ℕ) → IsChoice whole path ls ws ns → worths weigh ls ws ≡ Ok vs → HasChoice vs ns here
    choice_met ls ws vs ns o e =
        let s = weighted_is here vs (subst (λ r. IsChoiceOf r here) e (stands (at_weighted ls ws) o.stands)) in
        let z : size here ≡ 1 + size_of_each s.0 = ap size s.1 in
        let many : length (weights_of s.0) ≡ length vs = ap length s.2 in
        let all : length vs ≡ length ws = worth_count weigh ls ws vs e in
        let known : (k : ℕ) → k < length (weights_of s.0) → get_or ns k 0 ≡ before_each s.0 k = λ k l.
        let part : HasPart here k = subst (λ v. HasPart v k) (sym s.1) l in
        let same : before_each s.0 k ≡ nodes_before whole path k = ap (λ v. before v k) (sym s.1) ∙ places_agree weigh whole path k w.leads part in
        as_it_is (get_or ns k 0) (before_each s.0 k) (omega (arith, z, here_few, before_within s.0 k)) (o.nodes k (omega (arith, l, many, all)) ∙ ap capped (sym same)) in
        record {
          parts = s.0;
          stands = s.1;
          weights = sym s.2;
          nodes = known;
          each = o.each ∙ sym all;
          few = λ k d l.
              let at : get_or ns k d ≡ before_each s.0 k = get_or_default_zero ns k d l ∙ known k (omega (arith, l, many, all, o.each)) in
              omega (arith, at, z, here_few, before_within s.0 k);
        }

  -- a leaf
  leaf_is : (m : TermLeaf ℕ) (ks : List ℕ) (b : Bool) → Agrees weigh (at_leaf m ks) here → stops (plain m) ≡ b → HasLeaf stops b here
  leaf_is m [] b h e = record { spot = plain m; stands = ap leaf_of h; looks = e }
  leaf_is m (k ∷ ks) b h e = absurd h

  -- one that a walk has reached
  pub leaf_met : (after : State) (n : Process ℕ) (r : Reached) (b : Bool) → (r ≡ reached.Ordered → ⊥) → (r ≡ reached.Weighted → ⊥) → Follows whole (setting_out path) r after n → Looks stops r after.constraints after.lasts b
      → HasLeaf stops b here
  leaf_met after n reached.Vanish b x y f h = leaf_is vanish after.rest b (walks_agree weigh whole path reached.Vanish after n f w.leads) h
  leaf_met after n reached.Nothing b x y f h = leaf_is nothing after.rest b (walks_agree weigh whole path reached.Nothing after n f w.leads) h
  leaf_met after n (reached.Raised z) b x y f h = leaf_is (raised z) after.rest b (walks_agree weigh whole path (reached.Raised z) after n f w.leads) h
  leaf_met after n reached.Go b x y f h =
      let cs : after.constraints ≡ f.found.constraints = ap (λ s. s.constraints) f.holds in
      let ls : after.lasts ≡ f.found.lasts = ap (λ s. s.lasts) f.holds in
      let e : stops (plain (go f.found.constraints f.found.lasts n)) ≡ b = (λ i. stops (plain (go (sym cs i) (sym ls i) n))) ∙ h n in
      leaf_is (go f.found.constraints f.found.lasts n) after.rest b (walks_agree weigh whole path reached.Go after n f w.leads) e
  leaf_met after n reached.Ordered b x y f h = absurd (x refl)
  leaf_met after n reached.Weighted b x y f h = absurd (y refl)
