-- What is found of a tree by its leaves that are free and by its instants.
use Rattle.std.proofs.Common.{◌≡◌, ◌∙◌, ◌<◌, ◌≤◌, ◌+◌, ◌^◌, ℕ, zero, suc, Bool, true, false, List, [], ◌∷◌, ap, arith, drop, get_or, length, refl, sym, subst}
use Rattle.std.specs.Prelude.{◌||◌, slice_get}
use Rattle.std.specs.List.{list_any}
use Rattle.lt_formula.specs.Expression.{Expression}
use Rattle.lt_legal.specs.Nodes as l
use Rattle.lt_legal.specs.Nodes.{found_at, run}
use Rattle.lt_legal.specs.declared.found.Found.{Found}
use Rattle.lt_legal.specs.Walk.{has_some}
use Rattle.lt_space.specs.Formula.{Formula}
use Rattle.lt_term.specs.Evaluated.{Outlook, Worth, evaluated, faulty, outlook}
use Rattle.lt_term.specs.Evaluated as e
use Rattle.lt_term.specs.Offers.{TermTree}
use Rattle.lt_term.specs.Process.{Process}
use Rattle.lt_term.specs.Scene.{Scene}
use Rattle.lt_term.specs.Tree.{flattened}
use Rattle.lt_instant.specs.Instant.{Leaf}
use Rattle.lt_check.specs.inner.Finding.{instants_in, is_node_alive, nodes_by, told_by}
use Rattle.lt_check.specs.inner.Searches.{is_alive}
use Rattle.lt_check.specs.inner.Shaped.{tree_from}
use Rattle.lt_check.specs.inner.Wanted.{for_free, is_wanted}
use Rattle.std.proofs.lemmas.List.{drop_all, drop_more, length-map}
use Rattle.lt_check.specs.inner.Seen.{node_seen}
use Rattle.lt_check.proofs.Halts.{begins, has_passed, none_passed}
use Rattle.lt_check.proofs.Looks.{seen_at}
use Rattle.lt_check.proofs.Loose.{all_reached}
use Rattle.lt_check.proofs.Shapes.{told_here}

module _ (s : Scene) (worth : Worth Expression Formula) (u : TermTree Expression) (few : length (flattened u) < 2 ^ 32) (k : ℕ) (within : k < length (flattened u)) where
  -- whether some leaf of the tree of the number passes
  pub told_is : (test : Leaf → Bool) → told_by worth test u k ≡ has_some test (evaluated worth (tree_from u k))
  told_is test = told_here worth test (nodes_by worth test u) (few_seen test) (tree_from u k) k (seen_at worth test u k within)
    where
      few_seen : (test : Leaf → Bool) → length (nodes_by worth test u) < 2 ^ 32
      few_seen test = subst (λ n. n < 2 ^ 32) (sym (length-map (flattened u) (node_seen worth test))) few

  -- where none is free, it is told by the instants
  pub alive_is : told_by worth (is_wanted for_free) u k ≡ false → list_any (λ n. is_node_alive s worth (slice_get (flattened u) n)) (instants_in worth u k) ≡ told_by worth (is_alive s) u k
  alive_is none =
      let b = begins u k within in
      all_reached worth (is_wanted for_free) (is_alive s) (record { vanish = refl; raised = λ z. refl; faults = λ x. refl; nothing = refl }) (flattened u) (λ n. is_node_alive s worth (slice_get (flattened u) n)) (λ n cs ls m h. ap (is_node_alive s worth) h) (tree_from u k) k b.0 b.1 (sym (told_is (is_wanted for_free)) ∙ none)
      ∙ sym (told_is (is_alive s))

-- what is free is alive
free_alive : (s : Scene) (o : Leaf) → is_wanted for_free o ≡ true → is_alive s o ≡ true
free_alive s e.vanish h = refl
free_alive s e.nothing h = absurd (cc)
free_alive s (e.raised z) h = refl
free_alive s (faulty x) h = refl
free_alive s (e.go f ls n) h = absurd (cc)

-- so a tree with a free leaf is alive
some_alive : (s : Scene) (w : e.Evaluated Formula (Process Expression)) → has_some (is_wanted for_free) w ≡ true → (b : Bool) → has_some (is_alive s) w ≡ b → b ≡ true
some_alive s w h true k = refl
some_alive s w h false k =
    let p = has_passed (is_wanted for_free) w h in
    absurd (none_passed (is_alive s) w k p.0 (free_alive s p.0 p.1) p.2)

pub free_tree : (s : Scene) (worth : Worth Expression Formula) (u : TermTree Expression) → length (flattened u) < 2 ^ 32 → (k : ℕ) → k < length (flattened u) → told_by worth (is_wanted for_free) u k ≡ true → true ≡ told_by worth (is_alive s) u k
free_tree s worth u few k within h =
    let w = evaluated worth (tree_from u k) in
    sym (told_is s worth u few k within (is_alive s) ∙ some_alive s w (sym (told_is s worth u few k within (is_wanted for_free)) ∙ h) (has_some (is_alive s) w) refl)

-- Elements that are looked at one after another:
module _ {A : Type 0} (p : A → Bool) (xs : List A) (i : ℕ) (d : A) where
  -- the next one passes
  pub any_here : i < length xs → p (get_or xs i d) ≡ true → list_any p (drop i xs) ≡ true
  any_here l h = ap (list_any p) (drop_more xs i d l) ∙ ap (λ b. b || list_any p (drop (i + 1) xs)) h

  -- it doesn't
  pub any_next : i < length xs → p (get_or xs i d) ≡ false → list_any p (drop i xs) ≡ list_any p (drop (i + 1) xs)
  any_next l h = ap (list_any p) (drop_more xs i d l) ∙ ap (λ b. b || list_any p (drop (i + 1) xs)) h

  -- there is none
  pub any_none : length xs ≤ i → list_any p (drop i xs) ≡ false
  any_none l = ap (list_any p) (drop_all i xs l)

-- beyond a table there is nothing
found_beyond : (hs : List Found) (k : ℕ) → length hs ≤ k → (found_at hs k).has ≡ false
found_beyond [] k l = refl
found_beyond (h ∷ hs) zero l = absurd (omega (arith, l))
found_beyond (h ∷ hs) (suc k) l = found_beyond hs k (omega (arith, l))

run_long : (ns : List l.Node) → length (run ns) ≡ length ns
run_long [] = refl
run_long (n ∷ ns) = ap suc (run_long ns)

pub told_beyond : (worth : Worth Expression Formula) (test : Leaf → Bool) (u : TermTree Expression) (k : ℕ) → length (flattened u) ≤ k → false ≡ told_by worth test u k
told_beyond worth test u k l =
    let ns = nodes_by worth test u in
    sym (found_beyond (run ns) k (omega (arith, run_long ns, length-map (flattened u) (node_seen worth test), l)))
