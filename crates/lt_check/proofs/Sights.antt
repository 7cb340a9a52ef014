-- What is seen of leaves and of choices.
use Rattle.std.proofs.Common.{◌≡◌, ◌∙◌, ◌<◌, ◌+◌, ◌++◌, ℕ, zero, suc, Bool, false, List, [], ◌∷◌, Ok, Err, IsTrue, IfOk, ap, arith, get_or, length, map, refl, replicate, subst, sym, take}
use Rattle.std.proofs.lemmas.List.{map-append}
use Rattle.std.specs.List.{list_all}
use Rattle.std.specs.declared.result.Result.{Result}
use Rattle.lt_num.specs.declared.fault.Arith.{Arith}
use Rattle.lt_formula.specs.Expression.{Expression}
use Rattle.lt_marks_laws.specs.Valued.{with_worth, worths}
use Rattle.lt_space.specs.Formula.{Formula}
use Rattle.lt_term.specs.Evaluated.{going}
use Rattle.lt_term.specs.Mapped.{weight_mapped}
use Rattle.lt_term.specs.Process.{Process}
use Rattle.lt_term.proofs.Public.{left_of, right_of}
use Rattle.lt_term.specs.Tree as t
use Rattle.lt_term.specs.Tree.{Lasts, Weight}
use Rattle.lt_term.specs.TreeView.{tree_node}
use Rattle.lt_term.specs.declared.tree.TreeNode.{TreeNode}
use Rattle.lt_instant.specs.declared.draw_context.DrawContext.{DrawContext}
use Rattle.lt_instant.specs.inner.DrawContextView.{meaning_of, weigher_of, worth_of}
use Rattle.lt_legal.specs.NodeView.{node_view}
use Rattle.lt_legal.specs.Nodes.{Node, choice, spoilt}
use Rattle.lt_legal.specs.declared.node.Node as code
use Rattle.lt_check.proofs.Listed.{taken_more}
use Rattle.lt_check.specs.inner.Seen.{choice_seen, positive}
use Rattle.lt_check.specs.inner.Wanted.{Wanted, is_wanted}

-- An instant, by what is loaded of its constraints:
module _ (w : Wanted) (x : Result Formula Arith) (ls : Lasts) (n : Process Expression) (b : Bool) where
  -- they have a formula
  pub tells_formula : (f : Formula) → Ok f ≡ x → b ≡ w.instant f ls → b ≡ is_wanted w (going x ls n)
  tells_formula f e h = subst (λ (y : Result Formula Arith). b ≡ is_wanted w (going y ls n)) e h

  -- they have a fault
  pub tells_fault : (fault : Arith) → Err fault ≡ x → b ≡ w.fault fault → b ≡ is_wanted w (going x ls n)
  tells_fault fault e h = subst (λ (y : Result Formula Arith). b ≡ is_wanted w (going y ls n)) e h

-- it doesn't depend on what they have
pub tells_always : (w : Wanted) (x : Result Formula Arith) (ls : Lasts) (n : Process Expression) (b : Bool) → ((f : Formula) → b ≡ w.instant f ls) → ((fault : Arith) → b ≡ w.fault fault) → b ≡ is_wanted w (going x ls n)
tells_always w (Ok f) ls n b one other = one f
tells_always w (Err fault) ls n b one other = other fault

-- weights of numbers are worth what the weights of their expressions are
pub mapped_worths : (m : DrawContext) (ls : Lasts) (ws : List (Weight ℕ)) → worths (weigher_of m) ls ws ≡ worths (worth_of m).weight ls (map (weight_mapped (meaning_of m.scenario.now.table)) ws)
mapped_worths m ls [] = refl
mapped_worths m ls (w ∷ ws) = ap (λ (r : Result (List ℕ) Arith). with_worth (weigher_of m ls w) r) (mapped_worths m ls ws)

-- A choice, by what its weights are worth:
module _ (fails : Arith → Bool) (r : Result (List ℕ) Arith) (marks : List Bool) (count : ℕ) where
  -- they are worth these
  pub sees_choice : (vs : List ℕ) → Ok vs ≡ r → marks ≡ map positive vs → choice marks ≡ choice_seen fails r count
  sees_choice vs e h = subst (λ (q : Result (List ℕ) Arith). choice marks ≡ choice_seen fails q count) e (ap (λ (bs : List Bool). choice bs) h)

  -- they have a fault
  pub sees_spoilt : (fault : Arith) (b : Bool) → Err fault ≡ r → b ≡ fails fault → marks ≡ replicate count false → spoilt b marks ≡ choice_seen fails r count
  sees_spoilt fault b e h k = subst (λ (q : Result (List ℕ) Arith). spoilt b marks ≡ choice_seen fails q count) e (λ i. spoilt (h i) (k i))

-- what holds of all elements holds of one of them
pub all_at : {A B : Type 0} (p : B → Bool) (f : A → B) (xs : List A) (i : ℕ) (d x : A) → i < length xs → x ≡ get_or xs i d → IsTrue (list_all p (map f xs)) → IsTrue (p (f x))
all_at p f [] i d x l e h = absurd (omega (arith, l))
all_at p f (y ∷ ys) zero d x l e h = subst (λ z. IsTrue (p (f z))) (sym e) (left_of (p (f y)) (list_all p (map f ys)) h)
all_at p f (y ∷ ys) (suc i) d x l e h = all_at p f ys i d x (omega (arith, l)) e (right_of (p (f y)) (list_all p (map f ys)) h)

-- one more node is seen
pub seen_more : (see : t.Node ℕ (Process ℕ) → Node) (xs : List TreeNode) (i : ℕ) (x : TreeNode) (us vs : List code.Node) (v : code.Node) → i < length xs → x ≡ get_or xs i x → map node_view us ≡ map see (map tree_node (take i xs)) → node_view v ≡ see (tree_node x) → vs ≡ us ++ v ∷ [] → map node_view vs ≡ map see (map tree_node (take (i + 1) xs))
seen_more see xs i x us vs v l at h e g =
    taken_more (λ ys. map see (map tree_node ys)) (λ y. see (tree_node y)) (λ ys y. ap (map see) (map-append tree_node ys (y ∷ [])) ∙ map-append see (map tree_node ys) (tree_node y ∷ [])) xs i [] (map node_view us) x (map node_view vs) l h
    (ap (map node_view) g ∙ map-append node_view us (v ∷ []) ∙ ap (λ n. map node_view us ++ n ∷ []) (e ∙ ap (λ y. see (tree_node y)) at))

-- what follows where there is a result
pub if_ok : {A E : Type 0} (r : Result A E) (P Q : A → Type 0) → ((x : A) → P x → Q x) → IfOk r P → IfOk r Q
if_ok (Ok x) P Q f h = f x h
if_ok (Err e) P Q f h = tt
