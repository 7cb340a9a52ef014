-- The parts of choices, one after another.
use Rattle.std.proofs.Common.{◌≡◌, ◌∙◌, ◌<◌, ◌≤◌, ℕ, zero, suc, ◌+◌, Bool, true, false, List, [], ◌∷◌, ◌++◌, length, map, get_or, take, ap, arith, refl, subst, sym}
use Rattle.std.specs.Prelude.{All, if◌then◌else◌}
use Rattle.std.proofs.lemmas.Bool.Decides.{nat_tests}
use Rattle.std.proofs.lemmas.List.{append-nil, append_assoc, length-map, map-append, take_all}
use Rattle.std.proofs.lemmas.List.Elements.{All-append, All-weaker}
use Rattle.lt_num.specs.declared.kind.Kind.{Kind}
use Rattle.lt_term.specs.Process.{Process}
use Rattle.lt_term.specs.Tree.{Branches, Tree, branch, expression, no_branch, weights_of}
use Rattle.lt_term.specs.Unfolded.{branch_at}
use Rattle.lt_term.specs.UnfoldedView.{branches_of, parts_count}
use Rattle.lt_term.specs.UnfoldingView.{Grows, IsWithin, parts_of, rules_of, tree_of}
use Rattle.lt_term.specs.declared.root.Later.{Later}
use Rattle.lt_term.specs.declared.root.Parts.{Parts}
use Rattle.lt_term.specs.declared.root.Parts.TheVariants as parts
use Rattle.lt_term.specs.declared.unfolding.Unfolding.{Unfolding}
use Rattle.lt_term.proofs.Public.{grows_not, grows_twice, parts-kept, tree-kept, weights-each_under, within-kept}
use Rattle.lt_term.proofs.Trees.{weights_of-choices}
use Rattle.lt_term.proofs.Unfoldings.{rules-more}
use Rattle.lt_check.specs.declared.choice.Choice.{Choice}
use Rattle.lt_check.specs.inner.ChoiceView.{ChoiceIsWithin}
use Rattle.lt_check.specs.inner.Seen.{positive}
use Rattle.lt_check.specs.inner.Visited.{positive_parts}

-- there are as many weights as parts
pub weights_count : (kinds : List Kind) (ps : Parts) → length (weights_of (branches_of kinds ps)) ≡ parts_count ps
weights_count kinds (parts.Among cs) = ap length (weights_of-choices kinds cs.now.items) ∙ length-map cs.now.items (λ p. expression p.0)
weights_count kinds (parts.Turns i done t) = refl

pub parts_long : (kinds : List Kind) (u : Unfolding) (ps : Parts) (n : ℕ) → length (weights_of (parts_of kinds u ps n)) ≡ parts_count ps
parts_long kinds u ps n = ap length (weights-each_under kinds (rules_of kinds u n) (branches_of kinds ps)) ∙ weights_count kinds ps

-- the part of a number, if its weight is positive
abbrev pub one_part : {C : Type 0} → Branches C (Process C) → ℕ → ℕ → List (Tree C (Process C))
one_part bs v i = if positive v then branch_at bs i ∷ [] else []

none_first : {C : Type 0} (bs : Branches C (Process C)) → positive_parts bs [] ≡ []
none_first no_branch = refl
none_first (branch w a bs) = refl

by_first : {C : Type 0} (bs : Branches C (Process C)) (a : Tree C (Process C)) (p : Bool) → (if p then a ∷ [] else []) ++ positive_parts bs [] ≡ (if p then a ∷ [] else [])
by_first bs a true = ap (λ xs. a ∷ xs) (none_first bs)
by_first bs a false = none_first bs

-- no part yet
pub part_none : {C : Type 0} (bs : Branches C (Process C)) (old : List (Tree C (Process C))) → old ≡ old ++ positive_parts bs []
part_none bs old = sym (ap (λ xs. old ++ xs) (none_first bs) ∙ append-nil old)

-- one part more
pub part_more : {C : Type 0} (bs : Branches C (Process C)) (vs : List ℕ) (i : ℕ) → i < length vs → i < length (weights_of bs) → positive_parts bs (take (suc i) vs) ≡ positive_parts bs (take i vs) ++ one_part bs (get_or vs i 0) i
part_more no_branch vs i l k = absurd (omega (arith, k))
part_more (branch w a bs) [] i l k = absurd (omega (arith, l))
part_more (branch w a bs) (v ∷ vs) zero l k = by_first bs a (positive v)
part_more (branch w a bs) (v ∷ vs) (suc i) l k =
    ap (λ xs. (if positive v then a ∷ [] else []) ++ xs) (part_more bs vs i (omega (arith, l)) (omega (arith, k)))
    ∙ sym (append_assoc (if positive v then a ∷ [] else []) (positive_parts bs (take i vs)) (one_part bs (get_or vs i 0) i))

part_next : {C : Type 0} (bs : Branches C (Process C)) (vs : List ℕ) (i : ℕ) → i < length vs → i < length (weights_of bs) → positive_parts bs (take (i + 1) vs) ≡ positive_parts bs (take i vs) ++ one_part bs (get_or vs i 0) i
part_next bs vs i l k = let e : i + 1 ≡ suc i = omega arith in ap (λ n. positive_parts bs (take n vs)) e ∙ part_more bs vs i l k

is_positive : (v : ℕ) → 0 < v → positive v ≡ true
is_positive v h = grind (arith, nat_tests)

not_positive : (v : ℕ) → (0 < v → ⊥) → positive v ≡ false
not_positive v h = grind (arith, nat_tests)

-- what is unfolded further keeps trees
module _ (a b : Unfolding) (g : Grows a b) where
  pub all_within : (ls : List Later) → All (IsWithin a) ls → All (IsWithin b) ls
  all_within ls h = All-weaker (IsWithin a) (IsWithin b) (within-kept a b g) ls h

  pub trees_kept : (kinds : List Kind) (ls : List Later) → All (IsWithin a) ls → map (tree_of kinds b) ls ≡ map (tree_of kinds a) ls
  trees_kept kinds [] h = refl
  trees_kept kinds (l ∷ ls) h = λ i. tree-kept a b g kinds l (h 0 l (omega arith)) i ∷ trees_kept kinds ls (λ k d m. h (suc k) d (omega (arith, m))) i

  only_one : (part : Later) → IsWithin b part → All (IsWithin b) (part ∷ [])
  only_one part w zero d l = w
  only_one part w (suc k) d l = absurd (omega (arith, l))

  pub all_more : (ls new : List Later) (part : Later) → All (IsWithin a) ls → IsWithin b part → new ≡ ls ++ part ∷ [] → All (IsWithin b) new
  all_more ls new part h w n = subst (All (IsWithin b)) (sym n) (All-append (IsWithin b) ls (part ∷ []) (all_within ls h) (only_one part w))

  pub choice_kept : (c : Choice) → ChoiceIsWithin a c → ChoiceIsWithin b c
  choice_kept c w = (let r = w.0 in let m = rules-more a b g in omega (arith, r, m), w.1)

  -- the trees with one more, or with no more
  module _ (kinds : List Kind) (start : Unfolding) (before : Grows start a) (c : Choice) (here : ChoiceIsWithin start c) (old : List (Tree ℕ (Process ℕ))) (vs : List ℕ) (i : ℕ) (few : length vs ≤ parts_count c.parts) (within : i < length vs) where
    abbrev chosen : Branches ℕ (Process ℕ)
    chosen = parts_of kinds start c.parts c.rules

    long : i < length (weights_of chosen)
    long = let e = parts_long kinds start c.parts c.rules in omega (arith, e, few, within)

    pub one_more : (ls new : List Later) (part : Later) → 0 < get_or vs i 0 → All (IsWithin a) ls → new ≡ ls ++ part ∷ []
        → tree_of kinds b part ≡ branch_at (parts_of kinds a c.parts c.rules) i
        → map (tree_of kinds a) ls ≡ old ++ positive_parts chosen (take i vs)
        → map (tree_of kinds b) new ≡ old ++ positive_parts chosen (take (i + 1) vs)
    one_more ls new part some w n p e =
        ap (map (tree_of kinds b)) n
        ∙ map-append (tree_of kinds b) ls (part ∷ [])
        ∙ (λ j. trees_kept kinds ls w j ++ (p ∙ ap (λ bs. branch_at bs i) (parts-kept start a before kinds c.parts c.rules here.0)) j ∷ [])
        ∙ ap (λ ts. ts ++ branch_at chosen i ∷ []) e
        ∙ append_assoc old (positive_parts chosen (take i vs)) (branch_at chosen i ∷ [])
        ∙ ap (λ ts. old ++ ts) (sym (part_next chosen vs i within long ∙ ap (λ q. positive_parts chosen (take i vs) ++ (if q then branch_at chosen i ∷ [] else [])) (is_positive (get_or vs i 0) some)))

    pub no_more : (ls : List Later) → (0 < get_or vs i 0 → ⊥)
        → map (tree_of kinds a) ls ≡ old ++ positive_parts chosen (take i vs)
        → map (tree_of kinds a) ls ≡ old ++ positive_parts chosen (take (i + 1) vs)
    no_more ls none e =
        e ∙ ap (λ ts. old ++ ts) (sym (part_next chosen vs i within long ∙ ap (λ q. positive_parts chosen (take i vs) ++ (if q then branch_at chosen i ∷ [] else [])) (not_positive (get_or vs i 0) none) ∙ append-nil (positive_parts chosen (take i vs))))

-- the parts of a choice are put behind trees, so many weights far
pub record Pushed (start : Unfolding) (c : Choice) (old : List Later) (vs : List ℕ) (i : ℕ) (u : Unfolding) (ls : List Later) : Type 0 where
  pub grows : Grows start u
  pub within : All (IsWithin u) ls
  pub parts : (kinds : List Kind) → map (tree_of kinds u) ls ≡ map (tree_of kinds start) old ++ positive_parts (parts_of kinds start c.parts c.rules) (take i vs)

module _ (start : Unfolding) (c : Choice) (here : ChoiceIsWithin start c) (old : List Later) (vs : List ℕ) (few : length vs ≤ parts_count c.parts) where
  pub pushed_none : All (IsWithin start) old → Pushed start c old vs 0 start old
  pushed_none w = record { grows = grows_not start; within = w; parts = λ kinds. part_none (parts_of kinds start c.parts c.rules) (map (tree_of kinds start) old) }

  module _ (i : ℕ) (within : i < length vs) (a : Unfolding) (ls : List Later) (so : Pushed start c old vs i a ls) where
    pub pushed_more : (b : Unfolding) → Grows a b → (new : List Later) (part : Later) → 0 < get_or vs i 0 → IsWithin b part → new ≡ ls ++ part ∷ []
        → ((kinds : List Kind) → tree_of kinds b part ≡ branch_at (parts_of kinds a c.parts c.rules) i) → Pushed start c old vs (i + 1) b new
    pushed_more b g new part some w n is = record {
      grows = grows_twice start a b so.grows g;
      within = all_more a b g ls new part so.within w n;
      parts = λ kinds. one_more a b g kinds start so.grows c here (map (tree_of kinds start) old) vs i few within ls new part some so.within n (is kinds) (so.parts kinds);
    }

    pub pushed_not : get_or vs i 0 ≤ 0 → Pushed start c old vs (i + 1) a ls
    pushed_not none = record {
      grows = so.grows;
      within = so.within;
      parts = λ kinds. no_more a a (grows_not a) kinds start so.grows c here (map (tree_of kinds start) old) vs i few within ls (λ h. omega (arith, h, none)) (so.parts kinds);
    }

    pub choice_there : ChoiceIsWithin a c
    choice_there = choice_kept start a so.grows c here

-- all of them
pub pushed_all : (start : Unfolding) (c : Choice) (old : List Later) (vs : List ℕ) (i : ℕ) (u : Unfolding) (ls : List Later) → Pushed start c old vs i u ls → length vs ≤ i → (kinds : List Kind) → map (tree_of kinds u) ls ≡ map (tree_of kinds start) old ++ positive_parts (parts_of kinds start c.parts c.rules) vs
pushed_all start c old vs i u ls so l kinds = so.parts kinds ∙ ap (λ ws. map (tree_of kinds start) old ++ positive_parts (parts_of kinds start c.parts c.rules) ws) (take_all i vs l)
