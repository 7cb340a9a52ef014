-- The configurations that steps reach, step after step.
use Rattle.std.proofs.Common.{◌≡◌, ◌<◌, ◌≤◌, ◌⊎◌, inl, inr, ℕ, List, [], ◌∷◌, ◌++◌, length, map, refl, ap, sym, ◌∙◌, subst}
use Rattle.std.specs.Prelude.{IsTrue}
use Rattle.std.proofs.lemmas.List.{length-map, same_from_push}
use Rattle.lt_formula.specs.Expression.{Expression}
use Rattle.lt_legal.specs.Follows as f
use Rattle.lt_legal.specs.Follows.{Follows, Reached, inputs_after, inputs_before_all, inputs_behind}
use Rattle.lt_legal.specs.Verdict.{AreReached, ReachMany, ReachNone, ReachSome, most_candidates}
use Rattle.lt_num.specs.declared.value.Value.{Value}
use Rattle.lt_same_term.specs.Laws.{ConstraintsTellTerms}
use Rattle.lt_term.specs.Configuration.{Configuration, first_configuration}
use Rattle.lt_term.specs.Process.{Process}
use Rattle.lt_term.specs.Scene.{Scene}
use Rattle.lt_term.specs.Within.{Tests, passes}
use Rattle.lt_trace.specs.Told.{Shown}
use Rattle.lt_check.specs.inner.Reached.{AreAllNexts, AreNexts, AreTerms, Stand, standing_in}
use Rattle.lt_check.specs.inner.Members.{Apart, Has}
use Rattle.lt_check.proofs.Lists.{apart_mapped, from_mapped, mapped, to_all, to_contains, to_pairs}

-- the inputs behind a step are what it shows
pub inputs_push : (inputs : List Value) (steps : List Shown) (step : Shown) → inputs_after inputs (steps ++ step ∷ []) ≡ step.inputs
inputs_push inputs [] step = refl
inputs_push inputs (x ∷ steps) step = inputs_push x.inputs steps step

-- what a step more reaches, was reached before
pub record Before (s : Scene) (steps : List Shown) (step : Shown) (g : Configuration) : Type 0 where
  pub at : Configuration
  pub reached : Reached s steps at
  pub follows : Follows s at (inputs_behind s steps) step g

nil_push : {A : Type 0} (xs : List A) (x : A) → [] ≡ xs ++ x ∷ [] → ⊥
nil_push [] x e = cc
nil_push (y ∷ xs) x e = cc

before_of : (s : Scene) (all steps : List Shown) (step : Shown) (g : Configuration) → Reached s all g → all ≡ steps ++ step ∷ [] → Before s steps step g
before_of s all steps step g f.start e = absurd (nil_push steps step e)
before_of s all steps step g (f.further xs x c h r k) e =
    let same = same_from_push xs steps x step e in
    record {
      at = c;
      reached = subst (λ (zs : List Shown). Reached s zs c) same.0 r;
      follows = subst (λ (zs : List Shown). Follows s c (inputs_behind s zs) step h) same.0 (subst (λ (z : Shown). Follows s c (inputs_behind s xs) z h) same.1 k);
    }

pub before : (s : Scene) (steps : List Shown) (step : Shown) (g : Configuration) → Reached s (steps ++ step ∷ []) g → Before s steps step g
before s steps step g h = before_of s (steps ++ step ∷ []) steps step g h refl

module _ (s : Scene) (meaning : ℕ → Expression) (tests : Tests ℕ) (tell : ConstraintsTellTerms) (each : (c d : ℕ) → IsTrue (tests.constraint c) → IsTrue (tests.constraint d) → meaning c ≡ meaning d → c ≡ d) where
  same_term : (c0 : Stand) (ps : List (Process ℕ)) → ((p : Process ℕ) → Has ps p → IsTrue (passes tests p)) → (p q : Process ℕ) → Has ps p → Has ps q → standing_in meaning c0 p ≡ standing_in meaning c0 q → p ≡ q
  same_term c0 ps h p q a b e = tell tests meaning each p q (h p a) (h q b) (ap (λ (c : Configuration). c.process) e)

  pub are_reached : (steps : List Shown) (c0 : Stand) (ps : List (Process ℕ)) → AreTerms s meaning tests steps c0 ps → AreReached s steps (map (standing_in meaning c0) ps)
  are_reached steps c0 ps h = record {
    distinct = to_pairs (map (standing_in meaning c0) ps) (apart_mapped (standing_in meaning c0) ps (same_term c0 ps h.passing) h.apart);
    reached = to_all (Reached s steps) (map (standing_in meaning c0) ps) (λ c k. let r = from_mapped (standing_in meaning c0) ps c k in subst (λ (x : Configuration). Reached s steps x) r.is (h.reached r.of r.has));
    all = λ c k. let r = h.all c k in to_contains (map (standing_in meaning c0) ps) c (subst (λ (x : Configuration). Has (map (standing_in meaning c0) ps) x) (sym r.2) (mapped (standing_in meaning c0) ps r.0 r.1));
  }

  pub reach_some : (steps : List Shown) (c0 : Stand) (ps : List (Process ℕ)) → AreTerms s meaning tests steps c0 ps → 0 < length ps → length ps ≤ most_candidates → ReachSome s steps
  reach_some steps c0 ps h some few = (
    map (standing_in meaning c0) ps,
    are_reached steps c0 ps h,
    subst (λ n. 0 < n) (sym (length-map ps (standing_in meaning c0))) some,
    subst (λ n. n ≤ most_candidates) (sym (length-map ps (standing_in meaning c0))) few,
  )

  pub reach_none : (steps : List Shown) (c0 : Stand) → AreTerms s meaning tests steps c0 [] → ReachNone s steps
  reach_none steps c0 h = λ c k. let r = h.all c k in r.1

  pub reach_many : (steps : List Shown) (c0 : Stand) (ps : List (Process ℕ)) → Apart ps → ((p : Process ℕ) → Has ps p → IsTrue (passes tests p)) → ((p : Process ℕ) → Has ps p → Reached s steps (standing_in meaning c0 p)) → most_candidates < length ps → ReachMany s steps
  reach_many steps c0 ps apart passing reached many = (
    map (standing_in meaning c0) ps,
    to_pairs (map (standing_in meaning c0) ps) (apart_mapped (standing_in meaning c0) ps (same_term c0 ps passing) apart),
    to_all (Reached s steps) (map (standing_in meaning c0) ps) (λ c k. let r = from_mapped (standing_in meaning c0) ps c k in subst (λ (x : Configuration). Reached s steps x) r.is (reached r.of r.has)),
    subst (λ n. most_candidates < n) (sym (length-map ps (standing_in meaning c0))) many,
  )

module _ (s : Scene) (meaning : ℕ → Expression) (tests : Tests ℕ) (inputs : List Value) (steps : List Shown) (step : Shown) (c0 c1 : Stand) (ps qs : List (Process ℕ)) (are : AreTerms s meaning tests steps c0 ps) (inputs_are : inputs ≡ inputs_behind s steps) where
  pub next_reached : AreNexts s meaning tests inputs step c0 c1 ps qs → (q : Process ℕ) → Has qs q → Reached s (steps ++ step ∷ []) (standing_in meaning c1 q)
  next_reached n q h =
      let r = n.sound q h in
      f.further steps step (standing_in meaning c0 r.0) (standing_in meaning c1 q) (are.reached r.0 r.1) (subst (λ (ys : List Value). Follows s (standing_in meaning c0 r.0) ys step (standing_in meaning c1 q)) inputs_are r.2)

  pub next_terms : AreAllNexts s meaning tests inputs step c0 c1 ps qs → AreTerms s meaning tests (steps ++ step ∷ []) c1 qs
  next_terms n = record {
    apart = n.some.apart;
    passing = n.some.passing;
    reached = next_reached n.some;
    all = λ g k.
        let b = before s steps step g k in
        let a = are.all b.at b.reached in
        n.full a.0 g a.1 (subst (λ (c : Configuration). Follows s c inputs step g) a.2 (subst (λ (ys : List Value). Follows s b.at ys step g) (sym inputs_are) b.follows));
  }

-- the first term
pub first_terms : (s : Scene) (meaning : ℕ → Expression) (tests : Tests ℕ) (c0 : Stand) (p : Process ℕ) → IsTrue (passes tests p) → first_configuration s ≡ standing_in meaning c0 p → AreTerms s meaning tests [] c0 (p ∷ [])
first_terms s meaning tests c0 p h e = record {
  apart = (λ k. k, tt);
  passing = λ q k. only q k (λ (r : Process ℕ). IsTrue (passes tests r)) h;
  reached = λ q k. only q k (λ (r : Process ℕ). Reached s [] (standing_in meaning c0 r)) (subst (λ (c : Configuration). Reached s [] c) e f.start);
  all = λ c k. (p, inl refl, first c [] k refl ∙ e);
}
  where
    only : (q : Process ℕ) → (p ≡ q) ⊎ ⊥ → (P : Process ℕ → Type 0) → P p → P q
    only q (inl x) P y = subst P x y
    only q (inr x) P y = absurd x

    push_nil : {A : Type 0} (xs : List A) (x : A) → xs ++ x ∷ [] ≡ [] → ⊥
    push_nil [] x y = cc
    push_nil (z ∷ xs) x y = cc

    first : (c : Configuration) (xs : List Shown) → Reached s xs c → xs ≡ [] → c ≡ first_configuration s
    first c xs f.start y = refl
    first c xs (f.further ys z d g r k) y = absurd (push_nil ys z y)
