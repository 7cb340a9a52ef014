-- Trees as lists of nodes.
use Rattle.std.proofs.Common.{◌≡◌, ◌<◌, ℕ, suc, length, Ok, Err, OnOk, List, [], ◌∷◌, ◌++◌, refl, ap, sym, ◌∙◌, append-nil, append_assoc, map, All, Vec, Global, subst}
use Rattle.std.specs.Prelude.{slice_index_or}
use Rattle.std.proofs.lemmas.Grind.{flat_map-append}
use Rattle.std.proofs.lemmas.List.{get_or-map, map-append}
use Rattle.std.proofs.lemmas.List.Elements.{All-cons, All-nil}
use Rattle.std.specs.List.{flat_map}
use Rattle.std.specs.declared.result.Result.{Result}
use Rattle.lt_term.specs.declared.last.Last.{Last}
use Rattle.lt_num.specs.declared.kind.Kind.{Kind}
use Rattle.lt_num.specs.declared.kind.Kind.TheVariants as kind
use Rattle.lt_num.specs.declared.value.Value.{Value}
use Rattle.lt_term.specs.Counted.{IsCounted, AreCounted}
use Rattle.lt_term.specs.Process.{Process, loop, count, any, exist, try}
use Rattle.lt_term.specs.Offers.{TermLeaf, TermTree, in_turn, in_par, in_exist, in_try, joined, offers_of, offers_of_each, start_of}
use Rattle.lt_term.specs.Replaced.{replaced, node_with_local}
use Rattle.lt_term.specs.Tree.{Lasts, Leaf, vanish, go, Weight, expression, more, stop, Tree, leaf, ordered, weighted, Branches, no_branch, branch, with_leaves, branches_with_leaves, with_local, branches_with_local, Node, leaf_node, ordered_node, weighted_node, weights_of, flattened, flattened_each}
use Rattle.lt_term.specs.TreeView.{tree_node, tree_nodes}
use Rattle.lt_term.specs.declared.tree.TreeNode.{TreeNode}
use Rattle.lt_term.specs.View.{process, choices, kinds_of}
use Rattle.lt_term.specs.declared.variable.Var.{Var}
use Rattle.lt_term.specs.declared.term.Term.{Term, Any}
use Rattle.lt_term.proofs.Views.{process_any}

weights-with_leaves : {C N M : Type 0} (f : Leaf C N → Tree C M) (bs : Branches C N) → weights_of (branches_with_leaves f bs) ≡ weights_of bs
weights-with_leaves f no_branch = refl
weights-with_leaves f (branch w t bs) = ap (λ ws. w ∷ ws) (weights-with_leaves f bs)

mutual
  -- the nodes of a tree whose leaves are replaced
  pub flattened-with_leaves : {C N M : Type 0} (f : Leaf C N → Tree C M) (t : Tree C N) → flattened (with_leaves f t) ≡ flat_map (replaced f) (flattened t)
  flattened-with_leaves f (leaf l) = sym (append-nil _)
  flattened-with_leaves f (ordered a b) =
      ap (λ ns. ordered_node ∷ ns) ((λ i. flattened-with_leaves f a i ++ flattened-with_leaves f b i) ∙ sym (flat_map-append (replaced f) (flattened a) (flattened b)))
  flattened-with_leaves f (weighted ls bs) = λ i. weighted_node ls (weights-with_leaves f bs i) ∷ flattened_each-with_leaves f bs i

  flattened_each-with_leaves : {C N M : Type 0} (f : Leaf C N → Tree C M) (bs : Branches C N) → flattened_each (branches_with_leaves f bs) ≡ flat_map (replaced f) (flattened_each bs)
  flattened_each-with_leaves f no_branch = refl
  flattened_each-with_leaves f (branch w t bs) =
      (λ i. flattened-with_leaves f t i ++ flattened_each-with_leaves f bs i) ∙ sym (flat_map-append (replaced f) (flattened t) (flattened_each bs))

weights-with_local : {C N : Type 0} (l : ℕ × Last) (bs : Branches C N) → weights_of (branches_with_local l bs) ≡ weights_of bs
weights-with_local l no_branch = refl
weights-with_local l (branch w t bs) = ap (λ ws. w ∷ ws) (weights-with_local l bs)

mutual
  -- the nodes of a tree with a local, whose leaves are then replaced
  pub flattened-with_local : {C N M : Type 0} (f : Leaf C N → Tree C M) (l : ℕ × Last) (t : Tree C N) → flattened (with_leaves f (with_local l t)) ≡ flat_map (λ n. replaced f (node_with_local l n)) (flattened t)
  flattened-with_local f l (leaf k) = sym (append-nil _)
  flattened-with_local f l (ordered a b) =
      ap (λ ns. ordered_node ∷ ns) ((λ i. flattened-with_local f l a i ++ flattened-with_local f l b i) ∙ sym (flat_map-append (λ n. replaced f (node_with_local l n)) (flattened a) (flattened b)))
  flattened-with_local f l (weighted ls bs) = λ i. weighted_node (l ∷ ls) ((weights-with_leaves f (branches_with_local l bs) ∙ weights-with_local l bs) i) ∷ flattened_each-with_local f l bs i

  flattened_each-with_local : {C N M : Type 0} (f : Leaf C N → Tree C M) (l : ℕ × Last) (bs : Branches C N) → flattened_each (branches_with_leaves f (branches_with_local l bs)) ≡ flat_map (λ n. replaced f (node_with_local l n)) (flattened_each bs)
  flattened_each-with_local f l no_branch = refl
  flattened_each-with_local f l (branch w t bs) =
      (λ i. flattened-with_local f l t i ++ flattened_each-with_local f l bs i) ∙ sym (flat_map-append (λ n. replaced f (node_with_local l n)) (flattened t) (flattened_each bs))

-- the weights of terms to choose from
pub weights_of-choices : (kinds : List Kind) (parts : List (ℕ × Term)) → weights_of (offers_of_each kinds (choices parts)) ≡ map (λ p. expression p.0) parts
weights_of-choices kinds [] = refl
weights_of-choices kinds (p ∷ parts) = ap (λ ws. expression p.0 ∷ ws) (weights_of-choices kinds parts)

flattened-choices : (kinds : List Kind) (parts : List (ℕ × Term)) → flattened_each (offers_of_each kinds (choices parts)) ≡ flat_map (λ p. flattened (offers_of kinds (process p.1))) parts
flattened-choices kinds [] = refl
flattened-choices kinds (p ∷ parts) = ap (λ ns. flattened (offers_of kinds (process p.1)) ++ ns) (flattened-choices kinds parts)

-- the nodes of a weighted choice, put out one after another
pub any_nodes : (kinds : List Kind) (old before new : List (Node ℕ (Process ℕ))) (ws : List (Weight ℕ)) (v : Vec (ℕ × Term) Global) → ws ≡ map (λ p. expression p.0) v.items → before ≡ old ++ weighted_node [] ws ∷ []
    → new ≡ before ++ flat_map (λ p. flattened (offers_of kinds (process p.1))) v.items → new ≡ old ++ flattened (offers_of kinds (process (Any v)))
any_nodes kinds old before new ws v w b e =
    let g : new ≡ old ++ flattened (offers_of kinds (any (choices v.items))) = rw (e, b, w, weights_of-choices kinds v.items, flattened-choices kinds v.items) (simp append_assoc) in
    g ∙ ap (λ t. old ++ flattened (offers_of kinds t)) (sym (process_any v))

-- the nodes of a tree whose leaves are replaced, put out
pub leaves_put : (f : TermLeaf ℕ → TermTree ℕ) (t : TermTree ℕ) (old new ns : List (Node ℕ (Process ℕ))) → ns ≡ flattened t → new ≡ old ++ flat_map (replaced f) ns → new ≡ old ++ flattened (with_leaves f t)
leaves_put f t old new ns n e = e ∙ ap (λ ms. old ++ flat_map (replaced f) ms) n ∙ ap (λ ms. old ++ ms) (sym (flattened-with_leaves f t))

-- a choice between two trees, put out one after another
pub ordered_put : (a b : TermTree ℕ) (old before middle new : List (Node ℕ (Process ℕ))) → before ≡ old ++ ordered_node ∷ [] → middle ≡ before ++ flattened a → new ≡ middle ++ flattened b → new ≡ old ++ flattened (ordered a b)
ordered_put a b old before middle new p m e = rw (e, m, p) (simp append_assoc)

counted_parts : (parts : List (ℕ × Term)) → AreCounted (choices parts) → All (λ p. IsCounted (process p.1)) parts
counted_parts [] h = All-nil (λ p. IsCounted (process p.1))
counted_parts (p ∷ parts) h = All-cons (λ p. IsCounted (process p.1)) p parts h.0 (counted_parts parts h.1)

-- the parts of a weighted choice have no more turns done than it has
pub any_counted : (v : Vec (ℕ × Term) Global) → IsCounted (process (Any v)) → All (λ p. IsCounted (process p.1)) v.items
any_counted v h = let P : Process ℕ → Type 0 = IsCounted in counted_parts v.items (subst P (process_any v) h)

-- What is put out of a term, arm by arm: what was put out for its parts is what was put out for it.

on_ok : {T E A B : Type 0} (r : Result T E) → (A → B) → OnOk r A → OnOk r B
on_ok (Ok x) f h = f h
on_ok (Err e) f h = tt

-- a part whose leaves are replaced
pub replaced_put : {T E : Type 0} (kinds : List Kind) (r : Result T E) (f : TermLeaf ℕ → TermTree ℕ) (whole a : Process ℕ) (old new ns : List (Node ℕ (Process ℕ))) → offers_of kinds whole ≡ with_leaves f (offers_of kinds a) → ns ≡ flattened (offers_of kinds a)
    → OnOk r (new ≡ old ++ flat_map (replaced f) ns) → OnOk r (new ≡ old ++ flattened (offers_of kinds whole))
replaced_put kinds r f whole a old new ns w n = on_ok r (λ l. leaves_put f (offers_of kinds a) old new ns n l ∙ ap (λ t. old ++ flattened t) (sym w))

-- a part with a local, whose leaves are then replaced
pub exist_put : {T E : Type 0} (kinds : List Kind) (r : Result T E) (start : Value) (x : ℕ) (v : Last) (whole a : Process ℕ) (old new ns : List (Node ℕ (Process ℕ))) → whole ≡ exist x v a → start ≡ start_of kinds x → ns ≡ flattened (offers_of kinds a)
    → OnOk r (new ≡ old ++ flat_map (λ n. replaced (in_exist start x v) (node_with_local (x, v) n)) ns) → OnOk r (new ≡ old ++ flattened (offers_of kinds whole))
exist_put kinds r start x v whole a old new ns w s n = on_ok r (λ e.
    e
    ∙ ap (λ u. old ++ flat_map (λ n. replaced (in_exist u x v) (node_with_local (x, v) n)) ns) s
    ∙ ap (λ ms. old ++ flat_map (λ n. replaced (in_exist (start_of kinds x) x v) (node_with_local (x, v) n)) ms) n
    ∙ ap (λ ms. old ++ ms) (sym (flattened-with_local (in_exist (start_of kinds x) x v) (x, v) (offers_of kinds a)))
    ∙ ap (λ u. old ++ flattened (offers_of kinds u)) (sym w))

-- a weighted choice, by its root and its parts
pub any_put : {T E : Type 0} (kinds : List Kind) (r : Result T E) (v : Vec (ℕ × Term) Global) (whole : Process ℕ) (old before new : List (Node ℕ (Process ℕ))) → whole ≡ process (Any v) → before ≡ old ++ weighted_node [] (map (λ p. expression p.0) v.items) ∷ []
    → OnOk r (new ≡ before ++ flat_map (λ p. flattened (offers_of kinds (process p.1))) v.items) → OnOk r (new ≡ old ++ flattened (offers_of kinds whole))
any_put kinds r v whole old before new w b = on_ok r (λ e. any_nodes kinds old before new (map (λ p. expression p.0) v.items) v refl b e ∙ ap (λ u. old ++ flattened (offers_of kinds u)) (sym w))

pub loop_put : {T E : Type 0} (kinds : List Kind) (r : Result T E) (whole t : Process ℕ) (old new ns : List (Node ℕ (Process ℕ))) → whole ≡ loop t → ns ≡ flattened (offers_of kinds t)
    → OnOk r (new ≡ old ++ ordered_node ∷ (flat_map (replaced (in_turn (loop t))) ns ++ leaf_node vanish ∷ [])) → OnOk r (new ≡ old ++ flattened (offers_of kinds whole))
loop_put kinds r whole t old new ns w n = on_ok r (λ l.
    l ∙ ap (λ ms. old ++ ordered_node ∷ (ms ++ leaf_node vanish ∷ [])) (ap (flat_map (replaced (in_turn (loop t)))) n ∙ sym (flattened-with_leaves (in_turn (loop t)) (offers_of kinds t)))
    ∙ ap (λ u. old ++ flattened (offers_of kinds u)) (sym w))

pub count_put : {T E : Type 0} (kinds : List Kind) (r : Result T E) (whole t : Process ℕ) (i done : ℕ) (old new ns : List (Node ℕ (Process ℕ))) → whole ≡ count i done t → ns ≡ flattened (offers_of kinds t)
    → OnOk r (new ≡ old ++ weighted_node [] (more i done ∷ stop i done ∷ []) ∷ (flat_map (replaced (in_turn (count i (suc done) t))) ns ++ leaf_node vanish ∷ [])) → OnOk r (new ≡ old ++ flattened (offers_of kinds whole))
count_put kinds r whole t i done old new ns w n = on_ok r (λ l.
    l ∙ ap (λ ms. old ++ weighted_node [] (more i done ∷ stop i done ∷ []) ∷ (ms ++ leaf_node vanish ∷ [])) (ap (flat_map (replaced (in_turn (count i (suc done) t)))) n ∙ sym (flattened-with_leaves (in_turn (count i (suc done) t)) (offers_of kinds t)))
    ∙ ap (λ u. old ++ flattened (offers_of kinds u)) (sym w))

-- an instant of the first side, among those that were put out
pub par_go : (kinds : List Kind) (b n : Process ℕ) (cs : List ℕ) (ls : Lasts) (x : TreeNode) (xs : List TreeNode) (old before new ns : List (Node ℕ (Process ℕ))) → tree_node x ≡ leaf_node (go cs ls n) → ns ≡ flattened (offers_of kinds b)
    → before ≡ old ++ flat_map (replaced (in_par (offers_of kinds b))) (tree_nodes xs) → new ≡ before ++ flat_map (replaced (joined cs ls n)) ns
    → new ≡ old ++ flat_map (replaced (in_par (offers_of kinds b))) (tree_nodes (xs ++ x ∷ []))
par_go kinds b n cs ls x xs old before new ns is e h k =
    let f : Node ℕ (Process ℕ) → List (Node ℕ (Process ℕ)) = replaced (in_par (offers_of kinds b)) in
    leaves_put (joined cs ls n) (offers_of kinds b) before new ns e k
    ∙ ap (λ ms. ms ++ flattened (with_leaves (joined cs ls n) (offers_of kinds b))) h
    ∙ append_assoc old (flat_map f (tree_nodes xs)) (flattened (with_leaves (joined cs ls n) (offers_of kinds b)))
    ∙ ap (λ ms. old ++ ms)
    (ap (λ ms. flat_map f (tree_nodes xs) ++ ms) (sym (append-nil (f (leaf_node (go cs ls n)))) ∙ ap (λ y. flat_map f (y ∷ [])) (sym is))
    ∙ sym (flat_map-append f (tree_nodes xs) (tree_node x ∷ [])) ∙ ap (flat_map f) (sym (map-append tree_node xs (x ∷ []))))

pub try_put : {T E : Type 0} (kinds : List Kind) (r : Result T E) (whole a h again : Process ℕ) (old before behind new ns : List (Node ℕ (Process ℕ))) → whole ≡ try a h → ns ≡ flattened (offers_of kinds a) → before ≡ old ++ ordered_node ∷ []
    → behind ≡ before ++ flat_map (replaced (in_try h)) ns → again ≡ h → OnOk r (new ≡ behind ++ flattened (offers_of kinds again)) → OnOk r (new ≡ old ++ flattened (offers_of kinds whole))
try_put kinds r whole a h again old before behind new ns w n b e g = on_ok r (λ l.
    ordered_put (with_leaves (in_try h) (offers_of kinds a)) (offers_of kinds h) old before behind new b (leaves_put (in_try h) (offers_of kinds a) before behind ns n e) (l ∙ ap (λ u. behind ++ flattened (offers_of kinds u)) g) ∙ ap (λ u. old ++ flattened (offers_of kinds u)) (sym w))

-- the kind of a local
pub kind_at : (locals : List Var) (x : ℕ) (v : Var) → x < length locals → slice_index_or (kinds_of locals) x kind.Bool ≡ (slice_index_or locals x v).kind
kind_at locals x v l = get_or-map (λ u. u.kind) locals x v kind.Bool l
