-- The terms that are found for a step are those that follow.
use Rattle.std.proofs.Common.{◌≡◌, ◌<◌, ◌^◌, ◌+◌, ◌⊎◌, inl, inr, ℕ, Bool, true, false, ◌&&◌, List, [], ◌∷◌, length, map, Some, refl, ap, sym, ◌∙◌, subst}
use Rattle.std.specs.Prelude.{is_some, slice_get}
use Rattle.lt_formula.specs.Expression.{Expression}
use Rattle.lt_legal.specs.Follows.{Follows, shown_raws}
use Rattle.lt_legal.specs.Walk.{IsTest}
use Rattle.lt_num.specs.Range.{TestTellsPoints}
use Rattle.lt_num.specs.declared.value.Value.{Value}
use Rattle.lt_space.specs.Formula.{Formula}
use Rattle.lt_term.proofs.Public.{nodes_natural}
use Rattle.lt_term.specs.Advanced.{advanced, advanced_each, next_last}
use Rattle.lt_term.specs.Configuration.{Configuration, kinds_of_all}
use Rattle.lt_term.specs.Evaluated as e
use Rattle.lt_term.specs.Evaluated.{Worth}
use Rattle.lt_term.specs.Mapped.{node_with_constraints}
use Rattle.lt_term.specs.Offers.{TermTree, offers_of}
use Rattle.lt_term.specs.Process.{Process, Choices, eps, dead, con, raise, seq, loop, count, any, pri, par, assert, exist, catch, try, no_choice, choice, choices_with_constraints, with_constraints}
use Rattle.lt_term.specs.Scene.{Scene}
use Rattle.lt_term.specs.Tree as t
use Rattle.lt_term.specs.Tree.{Lasts, Node, flattened, go, leaf_node}
use Rattle.lt_trace.specs.Told.{Shown}
use Rattle.lt_instant.specs.Instant.{Leaf, is_too_large, next_configuration, worth_in}
use Rattle.lt_instant.specs.Solved.{holds_of, values_of}
use Rattle.lt_check.specs.inner.Finding.{found_in}
use Rattle.lt_check.specs.inner.Followers.{next_by, nexts_by}
use Rattle.lt_check.specs.inner.Searches.{is_alive}
use Rattle.lt_check.specs.inner.ShownPoints.{local_values, possible}
use Rattle.lt_check.specs.inner.Wanted.{Wanted, for_step, has_scope, is_wanted}
use Rattle.lt_check.specs.inner.Members.{Has}
use Rattle.lt_check.proofs.Lists.{flat_has, from_flat}
use Rattle.lt_check.proofs.Outlooks.{FromGo, get_map, go_found, got}
use Rattle.lt_check.proofs.Semantics.{IsFound, Laws, can_hold_tells, found_tells, tells_found}
use Rattle.lt_check.specs.inner.Kinded.{AreKinded, AreKindedLocals, HaveRanges}
use Rattle.lt_check.proofs.Steps.{locals_back, outputs_back, points_at, shows_step, step_scope}

-- what is left after an instant, with other constraints
mutual
  pub advanced_natural : {C D : Type 0} (f : C → D) (vs : List (ℕ × Value)) (p : Process C) → with_constraints f (advanced vs p) ≡ advanced vs (with_constraints f p)
  advanced_natural f vs eps = refl
  advanced_natural f vs dead = refl
  advanced_natural f vs (con c) = refl
  advanced_natural f vs (raise z) = refl
  advanced_natural f vs (seq a b) = let x = advanced_natural f vs a in let y = advanced_natural f vs b in λ i. seq (x i) (y i)
  advanced_natural f vs (loop a) = ap (λ x. loop x) (advanced_natural f vs a)
  advanced_natural f vs (count i done a) = ap (λ x. count i done x) (advanced_natural f vs a)
  advanced_natural f vs (any cs) = ap (λ x. any x) (each_natural f vs cs)
  advanced_natural f vs (pri a b) = let x = advanced_natural f vs a in let y = advanced_natural f vs b in λ i. pri (x i) (y i)
  advanced_natural f vs (par a b) = let x = advanced_natural f vs a in let y = advanced_natural f vs b in λ i. par (x i) (y i)
  advanced_natural f vs (assert c a) = ap (λ x. assert (f c) x) (advanced_natural f vs a)
  advanced_natural f vs (exist l v a) = ap (λ x. exist l (next_last vs l v) x) (advanced_natural f vs a)
  advanced_natural f vs (catch z a b) = let x = advanced_natural f vs a in let y = advanced_natural f vs b in λ i. catch z (x i) (y i)
  advanced_natural f vs (try a b) = let x = advanced_natural f vs a in let y = advanced_natural f vs b in λ i. try (x i) (y i)

  each_natural : {C D : Type 0} (f : C → D) (vs : List (ℕ × Value)) (cs : Choices C) → choices_with_constraints f (advanced_each vs cs) ≡ advanced_each vs (choices_with_constraints f cs)
  each_natural f vs no_choice = refl
  each_natural f vs (choice w a cs) = let x = advanced_natural f vs a in let y = each_natural f vs cs in λ i. choice (f w) (x i) (y i)

left_true : (a b : Bool) → (a && b) ≡ true → a ≡ true
left_true true b h = refl
left_true false b h = h

right_true : (a b : Bool) → (a && b) ≡ true → b ≡ true
right_true true b h = h
right_true false b h = absurd (cc)

both_true : (a b : Bool) → a ≡ true → b ≡ true → (a && b) ≡ true
both_true true b h k = k
both_true false b h k = h

-- a node that is an instant of expressions is one of numbers
pub record FromNumbers (meaning : ℕ → Expression) (x : Node ℕ (Process ℕ)) (ls : Lasts) (n : Process Expression) : Type 0 where
  pub numbers : List ℕ
  pub next : Process ℕ
  pub is : x ≡ leaf_node (go numbers ls next)
  pub means : with_constraints meaning next ≡ n

from_numbers : (meaning : ℕ → Expression) (x : Node ℕ (Process ℕ)) (cs : List Expression) (ls : Lasts) (n : Process Expression) → node_with_constraints meaning x ≡ leaf_node (go cs ls n) → FromNumbers meaning x ls n
from_numbers meaning (leaf_node t.vanish) cs ls n h = absurd (cc)
from_numbers meaning (leaf_node t.nothing) cs ls n h = absurd (cc)
from_numbers meaning (leaf_node (t.raised z)) cs ls n h = absurd (cc)
from_numbers meaning (leaf_node (t.go ks ms m)) cs ls n h = record {
  numbers = ks;
  next = m;
  is = let a : ms ≡ ls = cc in ap (λ xs. leaf_node (go ks xs m)) a;
  means = cc;
}
from_numbers meaning t.ordered_node cs ls n h = absurd (cc)
from_numbers meaning (t.weighted_node ms ws) cs ls n h = absurd (cc)

-- a leaf that passes the test for a step is an instant
pub record IsInstant (s : Scene) (w : Wanted) (o : Leaf) : Type 0 where
  pub formula : Formula
  pub lasts : Lasts
  pub next : Process Expression
  pub is : o ≡ e.go formula lasts next
  pub passes : w.instant formula lasts ≡ true

module _ (laws : Laws) (test : TestTellsPoints) (s : Scene) (meaning : ℕ → Expression) (c0 : Configuration) (inputs : List Value) (p : Process ℕ) (step : Shown)
    (outs : AreKinded s.outputs step.outputs) (locs : AreKindedLocals s.locals step.locals) (out_ranges : HaveRanges s.outputs) (loc_ranges : HaveRanges s.locals) (can : possible s step ≡ true) where
  abbrev pub wanted_step : Wanted
  wanted_step = for_step s (shown_raws step) (map is_some step.locals)

  abbrev pub worth_here : Worth Expression Formula
  worth_here = worth_in s c0 inputs

  abbrev pub meant : TermTree Expression
  meant = offers_of (kinds_of_all s.locals) (with_constraints meaning p)

  abbrev pub standing_at : Process ℕ → Configuration
  standing_at q = record c0 { process = with_constraints meaning q }

  -- where a run stands behind the step
  abbrev pub behind : Process ℕ → Configuration
  behind q = record { process = with_constraints meaning q; step = c0.step + 1; previous = Some (record { inputs = inputs; outputs = step.outputs }) }

  abbrev values_here : Lasts → List (ℕ × Value)
  values_here ls = values_of ls (local_values s.locals step.locals)

  step_instant : (o : Leaf) → is_wanted wanted_step o ≡ true → IsInstant s wanted_step o
  step_instant e.vanish h = absurd (cc)
  step_instant e.nothing h = absurd (cc)
  step_instant (e.raised z) h = absurd (cc)
  step_instant (e.faulty x) h = absurd (cc)
  step_instant (e.go f ls n) h = record { formula = f; lasts = ls; next = n; is = refl; passes = h }

  abbrev in_scope : Lasts → Bool
  in_scope ls = has_scope ls 0 (map is_some step.locals)

  scope_of_pass : (f : Formula) (ls : Lasts) → wanted_step.instant f ls ≡ true → in_scope ls ≡ true
  scope_of_pass f ls h = left_true (in_scope ls) (holds_of s f (shown_raws step)) h

  holds_of_pass : (f : Formula) (ls : Lasts) → wanted_step.instant f ls ≡ true → holds_of s f (shown_raws step) ≡ true
  holds_of_pass f ls h = right_true (in_scope ls) (holds_of s f (shown_raws step)) h

  pub step_test : IsTest (is_wanted wanted_step) (is_alive s)
  step_test = record { alive = λ o h. lives o h; faults = λ x. refl }
    where
      lives : (o : Leaf) → is_wanted wanted_step o ≡ true → is_alive s o ≡ true
      lives e.vanish h = absurd (cc)
      lives e.nothing h = absurd (cc)
      lives (e.raised z) h = absurd (cc)
      lives (e.faulty x) h = absurd (cc)
      lives (e.go f ls n) h =
          (can_hold_tells laws.pass s ls f).1 (shown_raws step, points_at test s step outs locs out_ranges loc_ranges ls can (scope_of_pass f ls h), holds_of_pass f ls h)

  next_same : (ls : Lasts) (q : Process ℕ) (n : Process Expression) → with_constraints meaning q ≡ n → behind (advanced (values_here ls) q) ≡ next_configuration s (standing_at p) inputs ls n (shown_raws step)
  next_same ls q n h =
      let vs = ap (λ zs. values_of ls zs) (sym (locals_back s step outs locs)) in
      let process = advanced_natural meaning (values_here ls) q ∙ (λ i. advanced (vs i) (h i)) in
      let os = sym (outputs_back s step outs locs) in
      λ i. record { process = process i; step = c0.step + 1; previous = Some (record { inputs = inputs; outputs = os i }) }

  module _ (few : length (flattened meant) < 2 ^ 32) where
    abbrev pub nexts : List (Process ℕ)
    nexts = nexts_by (local_values s.locals step.locals) (flattened (offers_of (kinds_of_all s.locals) p)) (found_in s worth_here wanted_step meant)

    -- the node of a number, where an instant is found there
    node_there : (k : ℕ) (f : Formula) (ls : Lasts) (n : Process Expression) → FromGo worth_here (flattened meant) k f ls n → (x : Node ℕ (Process ℕ)) × (slice_get (flattened (offers_of (kinds_of_all s.locals) p)) k ≡ Some x) × FromNumbers meaning x ls n
    node_there k f ls n g =
        let r = get_map (node_with_constraints meaning) (flattened (offers_of (kinds_of_all s.locals) p)) k (leaf_node (go g.constraints ls n)) (ap (λ ns. slice_get ns k) (nodes_natural meaning (kinds_of_all s.locals) p) ∙ g.at) in
        (r.0, r.1, from_numbers meaning r.0 g.constraints ls n r.2)

    next_there : (k : ℕ) (x : Node ℕ (Process ℕ)) (ls : Lasts) (n : Process Expression) (m : FromNumbers meaning x ls n) → slice_get (flattened (offers_of (kinds_of_all s.locals) p)) k ≡ Some x → next_by (local_values s.locals step.locals) (slice_get (flattened (offers_of (kinds_of_all s.locals) p)) k) ≡ advanced (values_here ls) m.next ∷ []
    next_there k x ls n m h = ap (λ o. next_by (local_values s.locals step.locals) o) (h ∙ ap (λ y. Some y) m.is)

    only_next : (xs : List (Process ℕ)) (q r : Process ℕ) → xs ≡ q ∷ [] → Has xs r → q ≡ r
    only_next xs q r e h = only (subst (λ zs. Has zs r) e h)
      where
        only : (q ≡ r) ⊎ ⊥ → q ≡ r
        only (inl k) = k
        only (inr k) = absurd k

    pub next_follows : is_too_large s (standing_at p) ≡ false → (r : Process ℕ) → Has nexts r → Follows s (standing_at p) inputs step (behind r)
    next_follows small r h =
        let from = from_flat (λ k. next_by (local_values s.locals step.locals) (slice_get (flattened (offers_of (kinds_of_all s.locals) p)) k)) (found_in s worth_here wanted_step meant) r h in
        let found = found_tells laws s worth_here meant few wanted_step step_test from.of from.has in
        let i = step_instant found.outlook found.wanted in
        let at = found.at ∙ ap (λ (o : Leaf). Some o) i.is in
        let g = go_found worth_here i.formula i.lasts i.next meant from.of (got _ from.of _ at) in
        let x = node_there from.of i.formula i.lasts i.next g in
        let q = x.2.next in
        let same = only_next _ (advanced (values_here i.lasts) q) r (next_there from.of x.0 i.lasts i.next x.2 x.1) from.is in
        record {
          formula = i.formula;
          lasts = i.lasts;
          next = i.next;
          small = small;
          leaf = (from.of, at, found.legal);
          shows = shows_step test s step outs locs out_ranges loc_ranges i.formula i.lasts can (scope_of_pass i.formula i.lasts i.passes) (holds_of_pass i.formula i.lasts i.passes);
          next_is = ap behind (sym same) ∙ next_same i.lasts q i.next x.2.means;
        }

    pub follows_next : (g : Configuration) → Follows s (standing_at p) inputs step g → (r : Process ℕ) × Has nexts r × (g ≡ behind r)
    follows_next g h =
        let k = h.leaf.0 in
        let at = h.leaf.1 in
        let found : IsFound laws s worth_here meant few wanted_step step_test k = record {
          outlook = e.go h.formula h.lasts h.next;
          at = at;
          wanted = both_true (in_scope h.lasts) (holds_of s h.formula (shown_raws step)) (step_scope test s step outs locs out_ranges loc_ranges h.formula h.lasts h.shows) h.shows.holds;
          legal = h.leaf.2;
        } in
        let has = tells_found laws s worth_here meant few wanted_step step_test k found in
        let o = go_found worth_here h.formula h.lasts h.next meant k (got _ k _ at) in
        let x = node_there k h.formula h.lasts h.next o in
        let q = x.2.next in
        let there = next_there k x.0 h.lasts h.next x.2 x.1 in (
          advanced (values_here h.lasts) q,
          flat_has (λ j. next_by (local_values s.locals step.locals) (slice_get (flattened (offers_of (kinds_of_all s.locals) p)) j)) (found_in s worth_here wanted_step meant) k (advanced (values_here h.lasts) q) has (subst (λ zs. Has zs (advanced (values_here h.lasts) q)) (sym there) (inl refl)),
          h.next_is ∙ sym (next_same h.lasts q h.next x.2.means),
        )
