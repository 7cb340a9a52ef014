-- A search that is given up is of a leaf that has to be searched, as the verdict says it.
use Rattle.std.proofs.Common.{◌≡◌, ◌<◌, ◌^◌, ◌-◌, ℕ, Bool, true, false, ◌&&◌, List, length, map, None, Some, Option, refl, ap, sym, ◌∙◌, subst, arith}
use Rattle.std.specs.Prelude.{Ok, is_some, slice_get}
use Rattle.lt_formula.specs.Expression.{Expression}
use Rattle.lt_legal.specs.Follows.{shown_raws}
use Rattle.lt_legal.specs.Searched.{CanReach, EndAsks, HasEnd, HasStep, IsAsked, IsFree, IsOpenAt}
use Rattle.lt_legal.specs.declared.halt.Halt.TheVariants as halt
use Rattle.lt_num.specs.Range.{TestTellsPoints}
use Rattle.lt_num.specs.declared.fault.Arith.{Arith}
use Rattle.lt_space.specs.Formula.{Formula}
use Rattle.lt_term.specs.Evaluated as e
use Rattle.lt_term.specs.Evaluated.{Worth, evaluated, going, outlook}
use Rattle.lt_term.specs.Offers.{TermTree}
use Rattle.lt_term.specs.Process.{Process}
use Rattle.lt_term.specs.Scene.{Scene}
use Rattle.lt_term.specs.Tree as t
use Rattle.lt_term.specs.Tree.{Lasts, Tree, flattened, leaf_node, ordered_node, weighted_node}
use Rattle.lt_trace.specs.Told.{Shown}
use Rattle.lt_trace.specs.declared.recorded.RecordedEnd.TheVariants as recorded
use Rattle.lt_instant.specs.Instant.{Leaf}
use Rattle.lt_instant.specs.Solved.{holds_of, need_of}
use Rattle.lt_check.specs.inner.Finding.{ExpressionNode, IsHaltIn, NodeMayGiveUp, TreeMayGiveUp, instants_in, told_by}
use Rattle.lt_check.specs.inner.Kinded.{HaveRanges, IsKindedStep}
use Rattle.lt_check.specs.inner.Members.{Has}
use Rattle.lt_check.specs.inner.Seen.{test_sight}
use Rattle.lt_check.specs.inner.Shaped.{shape_seen, tree_from}
use Rattle.lt_check.specs.inner.ShownPoints.{possible}
use Rattle.lt_check.specs.inner.Wanted.{Wanted, for_fault, for_free, for_normal, for_raise, for_step, has_scope, is_wanted}
use Rattle.lt_check.proofs.Alive.{told_is}
use Rattle.lt_check.proofs.Ends.{faults_same, names_same, same_faults}
use Rattle.lt_check.proofs.Halts.{asked_in, asks_within, begins, none_passed, there}
use Rattle.lt_check.proofs.Lists.{from_contains}
use Rattle.lt_check.proofs.Shapes.{count_seen}
use Rattle.lt_check.proofs.Steps.{shows_step, step_scope}

-- a leaf that is live whatever values there are is wanted for free
free_wanted : (o : Leaf) → IsFree o → is_wanted for_free o ≡ true
free_wanted e.vanish h = refl
free_wanted e.nothing h = absurd h
free_wanted (e.raised z) h = refl
free_wanted (e.faulty x) h = refl
free_wanted (e.go f ls n) h = absurd h

-- the tree that begins at the first number is the whole one
pub root_is : {C N : Type 0} (u : Tree C N) → tree_from u 0 ≡ u
root_is (t.leaf m) = refl
root_is (t.ordered a b) = refl
root_is (t.weighted ls bs) = refl

-- it has a node
pub some_node : {C N : Type 0} (u : Tree C N) → 0 < length (flattened u)
some_node (t.leaf m) = omega arith
some_node (t.ordered a b) = omega arith
some_node (t.weighted ls bs) = omega arith

-- a leaf with a need that is over the budget, of which something is so
pub record HasNeed (s : Scene) (budget need : ℕ) (P : Leaf → Type 0) : Type 0 where
  pub formula : Formula
  pub lasts : Lasts
  pub next : Process Expression
  pub so : P (e.go formula lasts next)
  pub needs : need_of s lasts formula ≡ need
  pub over : budget < need

-- what is so of it may be told otherwise
pub told_otherwise : (s : Scene) (budget need : ℕ) (P Q : Leaf → Type 0) → ((o : Leaf) → P o → Q o) → HasNeed s budget need P → HasNeed s budget need Q
told_otherwise s budget need P Q f h = record { formula = h.formula; lasts = h.lasts; next = h.next; so = f (e.go h.formula h.lasts h.next) h.so; needs = h.needs; over = h.over }

module _ (s : Scene) (worth : Worth Expression Formula) (budget : ℕ) (u : TermTree Expression) (few : length (flattened u) < 2 ^ 32) (need : ℕ) where
  abbrev Opens : ℕ → Leaf → Type 0
  Opens j o = IsOpenAt o (evaluated worth (tree_from u j))

  node_is : (i : ℕ) (cs : List Expression) (ls : Lasts) (n : Process Expression) (f : Formula) → slice_get (flattened u) i ≡ Some (leaf_node (t.go cs ls n)) → worth.formula ls cs ≡ Ok f → (m : t.Leaf Expression (Process Expression)) → slice_get (flattened u) i ≡ Some (leaf_node m) → outlook worth m ≡ e.go f ls n
  node_is i cs ls n f at w m h = let same : m ≡ t.go cs ls n = cc in ap (outlook worth) same ∙ ap (λ r. going r ls n) w

  none_free : (j : ℕ) → j < length (flattened u) → told_by worth (is_wanted for_free) u j ≡ false → (o : Leaf) × IsFree o × CanReach o (evaluated worth (tree_from u j)) → ⊥
  none_free j within none h = none_passed (is_wanted for_free) (evaluated worth (tree_from u j)) (sym (told_is s worth u few j within (is_wanted for_free)) ∙ none) h.0 (free_wanted h.0 h.1) h.2

  open_at : (j i : ℕ) (x : Option ExpressionNode) → slice_get (flattened u) i ≡ x → j < length (flattened u) → told_by worth (is_wanted for_free) u j ≡ false → Has (instants_in worth u j) i → NodeMayGiveUp s worth budget x need → HasNeed s budget need (Opens j)
  open_at j i (Some (leaf_node (t.go cs ls n))) at within none has g =
      let b = begins u j within in
      record {
        formula = g.0;
        lasts = ls;
        next = n;
        so = (none_free j within none, there worth (flattened u) (e.go g.0 ls n) i (node_is i cs ls n g.0 at g.1) (tree_from u j) j b.0 b.1 has);
        needs = g.3;
        over = g.2;
      }
  open_at j i (Some (leaf_node t.vanish)) at within none has g = absurd g
  open_at j i (Some (leaf_node t.nothing)) at within none has g = absurd g
  open_at j i (Some (leaf_node (t.raised z))) at within none has g = absurd g
  open_at j i (Some ordered_node) at within none has g = absurd g
  open_at j i (Some (weighted_node ls ws)) at within none has g = absurd g
  open_at j i None at within none has g = absurd g

  opened : (j : ℕ) → j < length (flattened u) → TreeMayGiveUp s worth budget u j need → HasNeed s budget need (Opens j)
  opened j within g = open_at j g.1.0 (slice_get (flattened u) g.1.0) refl within g.0 (from_contains (instants_in worth u j) g.1.0 g.1.1) g.1.2

  -- where it is asked whether a live leaf can be reached at all
  pub whole_asked : TreeMayGiveUp s worth budget u 0 need → HasNeed s budget need (λ o. IsOpenAt o (evaluated worth u))
  whole_asked g =
      told_otherwise s budget need (Opens 0) (λ o. IsOpenAt o (evaluated worth u)) (λ o h. subst (λ v. IsOpenAt o (evaluated worth v)) (root_is u) h) (opened 0 (some_node u) g)

  -- where leaves of a sort are looked for
  pub sort_asked : (w : Wanted) (Sort : Leaf → Type 0) → ((o : Leaf) → is_wanted w o ≡ true → Sort o) → ((o : Leaf) → Sort o → is_wanted w o ≡ true) → IsHaltIn s worth budget u w (halt.Over need) → HasNeed s budget need (λ o. IsAsked Sort o (evaluated worth u))
  sort_asked w Sort sorts tests h =
      let r = asks_within (shape_seen worth (is_wanted w) u) 0 h.0 h.1.0 in
      let c = count_seen worth (test_sight worth (is_wanted w)) u in
      let within : h.0 < length (flattened u) = omega (arith, r.1, c) in
      let same : h.0 ≡ h.0 - 0 = omega arith in
      told_otherwise s budget need (Opens h.0) (λ o. IsAsked Sort o (evaluated worth u))
      (λ o k. asked_in worth (is_wanted w) Sort sorts tests o u 0 h.0 h.1.0 (subst (λ i. IsOpenAt o (evaluated worth (tree_from u i))) same k)) (opened h.0 within h.1.1)

-- ---- a step

left_true : (a b : Bool) → (a && b) ≡ true → a ≡ true
left_true true b h = refl
left_true false b h = h

right_true : (a b : Bool) → (a && b) ≡ true → b ≡ true
right_true true b h = h
right_true false b h = absurd (cc)

both_true : (a b : Bool) → a ≡ true → b ≡ true → (a && b) ≡ true
both_true true b h k = k
both_true false b h k = h

module _ (test : TestTellsPoints) (s : Scene) (step : Shown) (kinded : IsKindedStep s step) (out_ranges : HaveRanges s.outputs) (loc_ranges : HaveRanges s.locals) (can : possible s step ≡ true) where
  abbrev wanted_here : Wanted
  wanted_here = for_step s (shown_raws step) (map is_some step.locals)

  abbrev in_scope : Lasts → Bool
  in_scope ls = has_scope ls 0 (map is_some step.locals)

  pub wanted_shows : (o : Leaf) → is_wanted wanted_here o ≡ true → HasStep s step o
  wanted_shows e.vanish h = absurd (cc)
  wanted_shows e.nothing h = absurd (cc)
  wanted_shows (e.raised z) h = absurd (cc)
  wanted_shows (e.faulty x) h = absurd (cc)
  wanted_shows (e.go f ls n) h =
      shows_step test s step kinded.outputs kinded.locals out_ranges loc_ranges f ls can (left_true (in_scope ls) (holds_of s f (shown_raws step)) h) (right_true (in_scope ls) (holds_of s f (shown_raws step)) h)

  pub shows_wanted : (o : Leaf) → HasStep s step o → is_wanted wanted_here o ≡ true
  shows_wanted e.vanish h = absurd h
  shows_wanted e.nothing h = absurd h
  shows_wanted (e.raised z) h = absurd h
  shows_wanted (e.faulty x) h = absurd h
  shows_wanted (e.go f ls n) h = both_true (in_scope ls) (holds_of s f (shown_raws step)) (step_scope test s step kinded.outputs kinded.locals out_ranges loc_ranges f ls h) h.holds

  pub step_asked : (worth : Worth Expression Formula) (budget : ℕ) (u : TermTree Expression) → length (flattened u) < 2 ^ 32 → (need : ℕ) → IsHaltIn s worth budget u wanted_here (halt.Over need) → HasNeed s budget need (λ o. IsAsked (HasStep s step) o (evaluated worth u))
  step_asked worth budget u few need h = sort_asked s worth budget u few need wanted_here (HasStep s step) wanted_shows shows_wanted h

-- ---- an end

normal_ends : (s : Scene) (o : Leaf) → is_wanted for_normal o ≡ true → HasEnd s recorded.Normal o
normal_ends s e.vanish h = refl
normal_ends s e.nothing h = absurd (cc)
normal_ends s (e.raised z) h = absurd (cc)
normal_ends s (e.faulty x) h = absurd (cc)
normal_ends s (e.go f ls n) h = absurd (cc)

ends_normal : (s : Scene) (o : Leaf) → HasEnd s recorded.Normal o → is_wanted for_normal o ≡ true
ends_normal s o h = ap (is_wanted for_normal) h

raise_ends : (s : Scene) (z : ℕ) (o : Leaf) → is_wanted (for_raise s z) o ≡ true → HasEnd s (recorded.Raise z) o
raise_ends s z e.vanish h = absurd (cc)
raise_ends s z e.nothing h = absurd (cc)
raise_ends s z (e.raised y) h = (y, (names_same s y z).0 h, refl)
raise_ends s z (e.faulty x) h = absurd (cc)
raise_ends s z (e.go f ls n) h = absurd (cc)

ends_raise : (s : Scene) (z : ℕ) (o : Leaf) → HasEnd s (recorded.Raise z) o → is_wanted (for_raise s z) o ≡ true
ends_raise s z o h = ap (is_wanted (for_raise s z)) h.2 ∙ (names_same s h.0 z).1 h.1

fault_ends : (s : Scene) (x : Arith) (o : Leaf) → is_wanted (for_fault x) o ≡ true → HasEnd s (recorded.Fault x) o
fault_ends s x e.vanish h = absurd (cc)
fault_ends s x e.nothing h = absurd (cc)
fault_ends s x (e.raised y) h = absurd (cc)
fault_ends s x (e.faulty y) h = ap (λ z. e.faulty z) (faults_same y x h)
fault_ends s x (e.go f ls n) h = absurd (cc)

ends_fault : (s : Scene) (x : Arith) (o : Leaf) → HasEnd s (recorded.Fault x) o → is_wanted (for_fault x) o ≡ true
ends_fault s x o h = ap (is_wanted (for_fault x)) h ∙ same_faults x

module _ (s : Scene) (worth : Worth Expression Formula) (budget : ℕ) (u : TermTree Expression) (few : length (flattened u) < 2 ^ 32) (need : ℕ) where
  pub normal_asked : IsHaltIn s worth budget u for_normal (halt.Over need) → HasNeed s budget need (λ o. EndAsks s recorded.Normal o (evaluated worth u))
  normal_asked h = sort_asked s worth budget u few need for_normal (HasEnd s recorded.Normal) (normal_ends s) (ends_normal s) h

  pub raise_asked : (z : ℕ) → IsHaltIn s worth budget u (for_raise s z) (halt.Over need) → HasNeed s budget need (λ o. EndAsks s (recorded.Raise z) o (evaluated worth u))
  raise_asked z h = sort_asked s worth budget u few need (for_raise s z) (HasEnd s (recorded.Raise z)) (raise_ends s z) (ends_raise s z) h

  pub fault_asked : (x : Arith) → IsHaltIn s worth budget u (for_fault x) (halt.Over need) → HasNeed s budget need (λ o. EndAsks s (recorded.Fault x) o (evaluated worth u))
  fault_asked x h = sort_asked s worth budget u few need (for_fault x) (HasEnd s (recorded.Fault x)) (fault_ends s x) (ends_fault s x) h
