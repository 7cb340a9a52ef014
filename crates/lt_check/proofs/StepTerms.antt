-- The terms that follow some terms by a step.
use Rattle.std.proofs.Common.{◌≡◌, ◌<◌, ◌≤◌, ◌+◌, ◌⊎◌, inl, inr, ℕ, zero, suc, true, false, IsTrue, List, [], ◌∷◌, ◌++◌, length, map, take, get_or, None, Some, Option, ℤ, length-append, refl, ap, sym, ◌∙◌, subst, arith}
use Rattle.std.specs.Prelude.{int_le, is_some, nat_le, unsigned_abs}
use Rattle.std.specs.List.{flat_map, list_all}
use Rattle.std.proofs.lemmas.Bool.Decides.{nat_tests}
use Rattle.std.proofs.lemmas.Int.{ints}
use Rattle.std.proofs.lemmas.List.{flat_map_more, length-map, take_all, take_more}
use Rattle.std.proofs.lemmas.List.Folds.{list_all-append}
use Rattle.lt_legal.specs.Follows.{local_raw, shown_raws}
use Rattle.lt_legal.specs.declared.halt.Halt.{Halt}
use Rattle.lt_legal.specs.declared.halt.Halt.TheVariants as halt
use Rattle.lt_linear.specs.Form.{is_raw}
use Rattle.lt_num.specs.Bounds.{most_raw}
use Rattle.lt_num.specs.Range.{TestTellsPoints, is_point}
use Rattle.lt_num.specs.Value.{raw_of}
use Rattle.lt_num.specs.declared.value.Value.{Value}
use Rattle.lt_term.proofs.Public.{both, left_of, right_of}
use Rattle.lt_term.specs.Process.{Process}
use Rattle.lt_term.specs.Scene.{Variable}
use Rattle.lt_term.specs.SceneView.{scene, variable}
use Rattle.lt_term.specs.View.{process}
use Rattle.lt_term.specs.declared.scenario.Scenario.{Scenario}
use Rattle.lt_term.specs.declared.variable.Var.{Var}
use Rattle.lt_trace.specs.Told.{Shown}
use Rattle.lt_check.specs.declared.key.TermKey.{TermKey}
use Rattle.lt_check.specs.declared.moment.Moment.{Moment}
use Rattle.lt_check.specs.declared.step.ShownStep.{ShownStep}
use Rattle.lt_check.specs.inner.Fitting.{IsShownIn}
use Rattle.lt_check.specs.inner.Kinded.{AreKinded, AreKindedLocals, IsKindedStep}
use Rattle.lt_check.specs.inner.Members.{Apart, Has}
use Rattle.lt_check.specs.inner.MomentView.{IsFollowingHalt, IsMomentHalt, followers, moment_scene}
use Rattle.lt_check.specs.inner.ProgressView.{AreHaltedBy, ArePassing, FollowAll, FollowSome, IsStepHalt}
use Rattle.lt_check.specs.inner.ShownPoints.{are_local_points, are_points, is_local_point, local_values, possible}
use Rattle.lt_check.specs.inner.TermSet.{terms_of}
use Rattle.lt_check.specs.inner.Terms.{with_each}
use Rattle.lt_check.specs.inner.Wanted.{Wanted, for_step}
use Rattle.lt_check.proofs.Lists.{FromFlat, flat_has, from_flat, has_at, mapped}
use Rattle.lt_check.proofs.Standings.{follower_follows, follower_passes, follows_follower, have_ranges}
use Rattle.lt_check.proofs.Semantics.{Laws}
use Rattle.lt_check.proofs.Sets.{each_apart, each_each, each_new, each_tells}
use Rattle.lt_check.proofs.Steps.{step_possible}

-- ---- lists

-- what is among the first is there
pub taken : {A : Type 0} (k : ℕ) (xs : List A) (x : A) → Has (take k xs) x → Has xs x
taken zero xs x h = absurd h
taken (suc k) [] x h = absurd h
taken (suc k) (y ∷ xs) x (inl h) = inl h
taken (suc k) (y ∷ xs) x (inr h) = inr (taken k xs x h)

-- ---- term after term

module _ (keys : List TermKey) (i : ℕ) (d : TermKey) (within : i < length keys) where
  -- the term of a number is one of those of the keys
  pub term_there : Has (terms_of keys) (process (get_or keys i d).term)
  term_there = mapped (λ (k : TermKey). process k.term) keys (get_or keys i d) (has_at keys i d within)

-- terms with those that follow one more of them
pub followed_more : (m : Moment) (shown : ShownStep) (keys : List TermKey) (i : ℕ) (key d : TermKey) (first before after : List (Process ℕ)) → i < length keys → key ≡ get_or keys i d
    → before ≡ with_each first (flat_map (followers m shown) (take i (terms_of keys))) → after ≡ with_each before (followers m shown (process key.term)) → after ≡ with_each first (flat_map (followers m shown) (take (i + 1) (terms_of keys)))
followed_more m shown keys i key d first before after l e b a =
    let f : Process ℕ → List (Process ℕ) = followers m shown in
    let p : Process ℕ = process key.term in
    let long = length-map keys (λ (k : TermKey). process k.term) in
    let at : get_or (terms_of keys) i p ≡ p = at_map keys i l e in
    a
    ∙ ap (λ qs. with_each qs (f p)) b
    ∙ each_each first (flat_map f (take i (terms_of keys))) (f p)
    ∙ ap (λ qs. with_each first qs) (flat_map_more f [] (take i (terms_of keys)) p ∙ ap (flat_map f) (sym (take_more (terms_of keys) i p (omega (arith, long, l)) ∙ ap (λ q. take i (terms_of keys) ++ q ∷ []) at)))
  where
    at_map : (ks : List TermKey) (j : ℕ) → j < length ks → key ≡ get_or ks j d → get_or (terms_of ks) j (process key.term) ≡ process key.term
    at_map [] j k h = absurd (omega (arith, k))
    at_map (x ∷ ks) zero k h = ap (λ (y : TermKey). process y.term) (sym h)
    at_map (x ∷ ks) (suc j) k h = at_map ks j (omega (arith, k)) h

-- what halts at one term, halts
pub halted_by : (m : Moment) (shown : ShownStep) (ps : List (Process ℕ)) (p : Process ℕ) → Has ps p → (h : Halt) → IsFollowingHalt m shown p h → AreHaltedBy m shown ps h
halted_by m shown ps p has halt.Memory k = tt
halted_by m shown ps p has (halt.Over need) k = (p, has, k)

-- no keys, no terms
pub no_terms : (keys : List TermKey) → length keys ≡ 0 → terms_of keys ≡ []
no_terms [] h = refl
no_terms (k ∷ keys) h = absurd (omega (arith, h))

-- what halts for a step that is sought, halts for the step
pub halted_step : (m : Moment) (shown : ShownStep) (step : Shown) (ps : List (Process ℕ)) → shown.raws.items ≡ shown_raws step → shown.marks.items ≡ map is_some step.locals → possible (moment_scene m) step ≡ true → (h : Halt) → AreHaltedBy m shown ps h → IsStepHalt m step ps h
halted_step m shown step ps raws marks can halt.Memory k = tt
halted_step m shown step ps raws marks can (halt.Over need) k = (can, (k.0, k.1, subst (λ (w : Wanted). IsMomentHalt m k.0 w (halt.Over need)) (λ i. for_step (moment_scene m) (raws i) (marks i)) k.2))

-- ---- all terms

module _ (laws : Laws) (test : TestTellsPoints) (m : Moment) (shown : ShownStep) (step : Shown) (raws : shown.raws.items ≡ shown_raws step) (marks : shown.marks.items ≡ map is_some step.locals) (locals : shown.locals.items ≡ local_values (moment_scene m).locals step.locals) (kinded : IsKindedStep (moment_scene m) step) (can : possible (moment_scene m) step ≡ true) (ps qs : List (Process ℕ)) (count : ℕ) (passing : ArePassing m ps) (are : qs ≡ with_each [] (flat_map (followers m shown) (take count ps))) where
  abbrev found : List (Process ℕ)
  found = flat_map (followers m shown) (take count ps)

  only : {A : Type 0} → ⊥ ⊎ A → A
  only (inl h) = absurd h
  only (inr h) = h

  origin : (q : Process ℕ) → Has qs q → FromFlat (followers m shown) (take count ps) q
  origin q h = from_flat (followers m shown) (take count ps) q (only (each_tells [] found q (subst (λ (xs : List (Process ℕ)). Has xs q) are h)))

  pub some_followed : FollowSome m step ps qs
  some_followed = record {
    apart = subst (λ (xs : List (Process ℕ)). Apart xs) (sym are) (each_apart [] found tt);
    passing = λ q h. let r = origin q h in follower_passes m shown r.of q (passing r.of (taken count ps r.of r.has)) r.is;
    sound = λ q h. let r = origin q h in (r.of, taken count ps r.of r.has, follower_follows laws test m shown step raws marks locals kinded can r.of q r.is);
  }

  pub all_followed : count ≡ length ps → FollowAll m step ps qs
  all_followed e = record {
    some = some_followed;
    full = λ p g h f.
        let r = follows_follower laws test m shown step raws marks locals kinded can p g f in
        let whole : take count ps ≡ ps = take_all count ps (omega (arith, e)) in (
          r.0,
          subst (λ (xs : List (Process ℕ)). Has xs r.0) (sym are) (each_new [] found r.0 (flat_has (followers m shown) (take count ps) p r.0 (subst (λ (xs : List (Process ℕ)). Has xs p) (sym whole) h) r.1)),
          r.2,
        );
  }

-- nothing follows by a step that is no step of the scenario
module _ (test : TestTellsPoints) (m : Moment) (step : Shown) (kinded : IsKindedStep (moment_scene m) step) (cannot : possible (moment_scene m) step ≡ false) (ps : List (Process ℕ)) where
  pub none_followed : FollowAll m step ps []
  none_followed = record {
    some = record { apart = tt; passing = λ q h. absurd h; sound = λ q h. absurd h };
    full = λ p g h f. absurd (let k = sym cannot ∙ step_possible test (moment_scene m) step kinded.outputs kinded.locals (have_ranges m.scenario.now.outputs.items) (have_ranges m.scenario.now.locals.items) f.formula f.lasts f.shows in cc);
  }

-- ---- what a step shows may be sought

between : (low high raw : ℤ) (n : ℕ) → IsTrue (int_le low raw) → IsTrue (int_le raw high) → unsigned_abs low ≤ n → unsigned_abs high ≤ n → IsTrue (nat_le (unsigned_abs raw) n)
between low high raw n l h a b = grind (arith, ints, nat_tests)

point_raw : (v : Var) (raw : ℤ) → IsTrue (is_point v.range raw) → IsTrue (is_raw raw)
point_raw v raw h =
    let r = v.range in
    let from : IsTrue (int_le r.low raw) = left_of (int_le r.low raw) _ h in
    let rest = right_of (int_le r.low raw) _ h in
    between r.low r.high raw most_raw from (left_of (int_le raw r.high) _ rest) v.sound.low v.sound.high

outputs_raw : (vs : List Var) (xs : List Value) → AreKinded (map variable vs) xs → IsTrue (are_points (map variable vs) xs) → IsTrue (list_all is_raw (map raw_of xs))
outputs_raw [] [] k h = refl
outputs_raw [] (x ∷ xs) k h = absurd k
outputs_raw (v ∷ vs) [] k h = absurd k
outputs_raw (v ∷ vs) (x ∷ xs) k h =
    let first = left_of (is_point v.range (raw_of x)) (are_points (map variable vs) xs) h in
    let rest = right_of (is_point v.range (raw_of x)) (are_points (map variable vs) xs) h in
    both (is_raw (raw_of x)) (list_all is_raw (map raw_of xs)) (point_raw v (raw_of x) first) (outputs_raw vs xs k.1 rest)

local_is_raw : (v : Var) (y : Option Value) → IsTrue (is_local_point (variable v) y) → IsTrue (is_raw (local_raw y))
local_is_raw v None h = refl
local_is_raw v (Some x) h = point_raw v (raw_of x) h

locals_raw : (vs : List Var) (ys : List (Option Value)) → AreKindedLocals (map variable vs) ys → IsTrue (are_local_points (map variable vs) ys) → IsTrue (list_all is_raw (map local_raw ys))
locals_raw [] [] k h = refl
locals_raw [] (y ∷ ys) k h = absurd k
locals_raw (v ∷ vs) [] k h = absurd k
locals_raw (v ∷ vs) (y ∷ ys) k h =
    let first = left_of (is_local_point (variable v) y) (are_local_points (map variable vs) ys) h in
    let rest = right_of (is_local_point (variable v) y) (are_local_points (map variable vs) ys) h in
    both (is_raw (local_raw y)) (list_all is_raw (map local_raw ys)) (local_is_raw v y first) (locals_raw vs ys k.1 rest)

-- as many values as variables
pub kinded_long : (vs : List Variable) (xs : List Value) → AreKinded vs xs → length xs ≡ length vs
kinded_long [] [] k = refl
kinded_long [] (x ∷ xs) k = absurd k
kinded_long (v ∷ vs) [] k = absurd k
kinded_long (v ∷ vs) (x ∷ xs) k = ap suc (kinded_long vs xs k.1)

pub kinded_locals_long : (vs : List Variable) (ys : List (Option Value)) → AreKindedLocals vs ys → length ys ≡ length vs
kinded_locals_long [] [] k = refl
kinded_locals_long [] (y ∷ ys) k = absurd k
kinded_locals_long (v ∷ vs) [] k = absurd k
kinded_locals_long (v ∷ vs) (y ∷ ys) k = ap suc (kinded_locals_long vs ys k.1)

pub shown_in : (sc : Scenario) (step : Shown) (shown : ShownStep) → IsKindedStep (scene sc) step → possible (scene sc) step ≡ true → shown.raws.items ≡ shown_raws step → IsShownIn sc shown
shown_in sc step shown kinded can e = record {
  raws =
      let points = left_of (are_points (scene sc).outputs step.outputs) (are_local_points (scene sc).locals step.locals) can in
      let local_points = right_of (are_points (scene sc).outputs step.outputs) (are_local_points (scene sc).locals step.locals) can in
      let outputs = outputs_raw sc.outputs.items step.outputs kinded.outputs points in
      let locals = locals_raw sc.locals.items step.locals kinded.locals local_points in
      ap (list_all is_raw) e ∙ list_all-append is_raw (map raw_of step.outputs) (map local_raw step.locals) ∙ both (list_all is_raw (map raw_of step.outputs)) (list_all is_raw (map local_raw step.locals)) outputs locals;
  all =
      let a = kinded_long (scene sc).outputs step.outputs kinded.outputs in
      let b = kinded_locals_long (scene sc).locals step.locals kinded.locals in
      ap length e ∙ simp (length-append, length-map) (omega (arith, simp length-map at a, simp length-map at b));
}
