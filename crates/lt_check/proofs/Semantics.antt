-- The leaves that are found are those that may be taken and pass.
use Rattle.std.proofs.Common.{◌≡◌, ◌<◌, ◌^◌, inl, inr, ℕ, true, List, [], ◌∷◌, length, map, None, Some, Option, refl, ap, sym, ◌∙◌, subst}
use Rattle.std.specs.Prelude.{reverse, filter, is_some, slice_index_or, MatchOption, IsTrue, ℤ}
use Rattle.std.specs.Bool.{Decides}
use Rattle.std.proofs.lemmas.List.{length-map}
use Rattle.lt_draw.specs.declared.directions.Draw.TheVariants.{Up}
use Rattle.lt_formula.specs.Expression.{Expression}
use Rattle.lt_formula.specs.Solution.{IsPointOf}
use Rattle.lt_legal.specs.Leaves.{HasPosition, LegalLeavesStand, LegalLeavesTell, Stand, Tells, legal_leaves}
use Rattle.lt_legal.specs.Shapes.{WalksAreWalked}
use Rattle.lt_legal.specs.Walk.{IsTest, WalkIsLegal, passes}
use Rattle.lt_space.specs.Formula.{Formula}
use Rattle.lt_term.specs.Evaluated as e
use Rattle.lt_term.specs.Evaluated.{Worth, evaluated}
use Rattle.lt_term.specs.Offers.{TermTree}
use Rattle.lt_term.specs.Process.{Process}
use Rattle.lt_term.specs.Scene.{Scene}
use Rattle.lt_term.specs.Tree.{Lasts, flattened}
use Rattle.lt_instant.specs.Drawn.{Met}
use Rattle.lt_instant.specs.Instant.{Judged, Leaf}
use Rattle.lt_instant.specs.Legal.{IsLegalAt, SolutionsPass, outlook_at, outlooks_of}
use Rattle.lt_instant.specs.Solved.{CanHold, holds_of, ranges_at, solution_of}
use Rattle.lt_check.specs.inner.Finding.{found_in, nodes_by, told_by}
use Rattle.lt_check.specs.inner.Searches.{can_hold, is_alive}
use Rattle.lt_check.specs.inner.Seen.{node_seen, test_sight}
use Rattle.lt_check.specs.inner.Shaped.{shape_seen}
use Rattle.lt_check.specs.inner.Wanted.{Wanted, is_wanted}
use Rattle.lt_check.specs.inner.Members.{Has}
use Rattle.lt_check.proofs.Lists.{filtered, from_filtered, from_mapped, from_reversed, mapped, reversed}
use Rattle.lt_check.proofs.Shapes.{answered, nodes_are, shape_like}

-- ---- what is live

holds_or : (s : Scene) (ls : Lasts) (f : Formula) (r : Option (List ℤ)) → MatchOption r (CanHold s f ls → ⊥) (λ raws. IsPointOf (ranges_at s ls) raws × IsTrue (holds_of s f raws)) → Decides (is_some r) (CanHold s f ls)
holds_or s ls f None h = (λ k. absurd (cc), λ k. absurd (h k))
holds_or s ls f (Some raws) h = (λ k. (raws, h.0, h.1), λ k. refl)

pub can_hold_tells : SolutionsPass → (s : Scene) (ls : Lasts) (f : Formula) → Decides (can_hold s ls f) (CanHold s f ls)
can_hold_tells pass s ls f = holds_or s ls f (solution_of s Up (λ slot. 0) ls f) (pass s Up (λ slot. 0) ls f)

pub alive_tells : SolutionsPass → (s : Scene) → Tells (CanHold s) (is_alive s)
alive_tells pass s e.vanish = (λ k. tt, λ k. refl)
alive_tells pass s e.nothing = (λ k. absurd (cc), λ k. absurd k)
alive_tells pass s (e.raised z) = (λ k. tt, λ k. refl)
alive_tells pass s (e.faulty x) = (λ k. tt, λ k. refl)
alive_tells pass s (e.go f ls n) = can_hold_tells pass s ls f

-- ---- lists of leaves

pub position_has : (ms : List (Met Formula (Process Expression))) (p : ℕ) → HasPosition ms p → (m : Met Formula (Process Expression)) × Has ms m × (m.position ≡ p)
position_has [] p h = absurd h
position_has (m ∷ ms) p (inl h) = (m, inl refl, h)
position_has (m ∷ ms) p (inr h) = let r = position_has ms p h in (r.0, inr r.1, r.2)

pub has_position : (ms : List (Met Formula (Process Expression))) (m : Met Formula (Process Expression)) → Has ms m → HasPosition ms m.position
has_position [] m h = absurd h
has_position (n ∷ ms) m (inl h) = inl (ap (λ (x : Met Formula (Process Expression)). x.position) h)
has_position (n ∷ ms) m (inr h) = inr (has_position ms m h)

pub stands : (all : List (Option Leaf)) (ms : List (Met Formula (Process Expression))) (m : Met Formula (Process Expression)) → Stand all ms → Has ms m → slice_index_or all m.position None ≡ Some m.outlook
stands all [] m s h = absurd h
stands all (n ∷ ms) m s (inl h) = subst (λ (x : Met Formula (Process Expression)). slice_index_or all x.position None ≡ Some x.outlook) h s.0
stands all (n ∷ ms) m s (inr h) = stands all ms m s.1 h

-- the laws that this stands on
pub record Laws : Type 0 where
  pub walked : WalksAreWalked
  pub legal : WalkIsLegal
  pub tell : LegalLeavesTell
  pub stand : LegalLeavesStand
  pub pass : SolutionsPass

module _ (laws : Laws) (s : Scene) (worth : Worth Expression Formula) (t : TermTree Expression) (few : length (flattened t) < 2 ^ 32) (w : Wanted) (is : IsTest (is_wanted w) (is_alive s)) where
  abbrev pub tree : Judged
  tree = evaluated worth t

  nodes_few : length (nodes_by worth (is_alive s) t) < 2 ^ 32
  nodes_few = subst (λ k. k < 2 ^ 32) (sym (length-map (flattened t) (node_seen worth (is_alive s)))) few

  abbrev places : List (Met Formula (Process Expression)) → List ℕ
  places ms = map (λ m. m.position) ms

  found_is : found_in s worth w t ≡ reverse (places (filter (passes (is_wanted w)) (legal_leaves (is_alive s) 0 tree)))
  found_is =
      laws.walked (is_wanted w) (is_alive s) tree (shape_seen worth (is_wanted w) t) (told_by worth (is_alive s) t) (shape_like worth (is_wanted w) t)
      (answered worth (is_alive s) (nodes_by worth (is_alive s) t) nodes_few t 0 [] (nodes_are worth (test_sight worth (is_alive s)) t))
      ∙ ap (λ ms. reverse (places ms)) (laws.legal (is_wanted w) (is_alive s) tree is)

  -- what is found
  pub record IsFound (k : ℕ) : Type 0 where
    pub outlook : Leaf
    pub at : outlook_at tree k ≡ Some outlook
    pub wanted : is_wanted w outlook ≡ true
    pub legal : IsLegalAt s tree k

  pub found_tells : (k : ℕ) → Has (found_in s worth w t) k → IsFound k
  found_tells k h =
      let ms = legal_leaves (is_alive s) 0 tree in
      let r = from_mapped (λ (m : Met Formula (Process Expression)). m.position) (filter (passes (is_wanted w)) ms) k (from_reversed (places (filter (passes (is_wanted w)) ms)) k (subst (λ ks. Has ks k) found_is h)) in
      let f = from_filtered (passes (is_wanted w)) ms r.of r.has in
      record {
        outlook = r.of.outlook;
        at = ap (λ n. outlook_at tree n) (sym r.is) ∙ stands (outlooks_of tree) ms r.of (laws.stand (is_alive s) tree) f.0;
        wanted = f.1;
        legal = ((laws.tell s (is_alive s) tree (alive_tells laws.pass s)).1 k).1 (subst (λ n. HasPosition ms n) r.is (has_position ms r.of f.0));
      }

  pub tells_found : (k : ℕ) → IsFound k → Has (found_in s worth w t) k
  tells_found k i =
      let ms = legal_leaves (is_alive s) 0 tree in
      let r = position_has ms k (((laws.tell s (is_alive s) tree (alive_tells laws.pass s)).1 k).0 i.legal) in
      let m = r.0 in
      let there : Some m.outlook ≡ Some i.outlook = sym (stands (outlooks_of tree) ms m (laws.stand (is_alive s) tree) r.1) ∙ ap (λ n. outlook_at tree n) r.2 ∙ i.at in
      let same : m.outlook ≡ i.outlook = cc in
      subst (λ ks. Has ks k) (sym found_is)
      (reversed (places (filter (passes (is_wanted w)) ms)) k (subst (λ n. Has (places (filter (passes (is_wanted w)) ms)) n) r.2 (mapped (λ (x : Met Formula (Process Expression)). x.position) (filter (passes (is_wanted w)) ms) m (filtered (passes (is_wanted w)) ms m r.1 (ap (is_wanted w) same ∙ i.wanted)))))
