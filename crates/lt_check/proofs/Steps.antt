-- A step shows values of an instant exactly where the test for it passes.
use Rattle.std.proofs.Common.{◌≡◌, ℕ, suc, Bool, true, false, ◌&&◌, List, [], ◌∷◌, ◌++◌, length, map, None, Some, Option, ℤ, pos, append_assoc, length-append, get_or, refl, ap, sym, ◌∙◌, arith}
use Rattle.std.specs.Prelude.{Contains, if◌then◌else◌, is_some, replicate}
use Rattle.std.proofs.Math.Seq.{get_or-append_seam}
use Rattle.std.proofs.lemmas.Int.{ints}
use Rattle.lt_num.proofs.Public.{points_are_those}
use Rattle.lt_num.specs.Range.{HasPoints, TestTellsPoints, is_point, points_of}
use Rattle.lt_num.specs.Value.{raw_of, value_of}
use Rattle.lt_num.specs.declared.range.Range.{Range}
use Rattle.lt_num.specs.declared.value.Value.{Value}
use Rattle.lt_formula.specs.Solution.{IsPointOf}
use Rattle.lt_legal.specs.Follows.{Shows, local_raw, shown_raws}
use Rattle.lt_space.specs.Formula.{Formula}
use Rattle.lt_space.specs.Scope.{ranges_in, zero_alone}
use Rattle.lt_term.specs.Scene.{Scene, Variable}
use Rattle.lt_term.specs.Tree.{Lasts}
use Rattle.lt_trace.specs.Told.{Shown}
use Rattle.lt_instant.specs.Solved.{holds_of, is_in_scope, locals_by, marks_from, outputs_by, ranges_at, ranges_of_all, scoped, values_from}
use Rattle.lt_check.specs.inner.Kinded.{AreKinded, AreKindedLocals, HaveRanges, IsKindedLocal}
use Rattle.lt_check.specs.inner.ShownPoints.{are_local_points, are_points, is_local_point, local_values, possible}
use Rattle.lt_check.specs.inner.Wanted.{has_scope, same_truth}

both_true : (a b : Bool) → a ≡ true → b ≡ true → (a && b) ≡ true
both_true true b h k = k
both_true false b h k = h

left_true : (a b : Bool) → (a && b) ≡ true → a ≡ true
left_true true b h = refl
left_true false b h = h

right_true : (a b : Bool) → (a && b) ≡ true → b ≡ true
right_true true b h = h
right_true false b h = absurd (cc)

-- ---- values by raw numbers

seam : (front : List ℤ) (x : ℤ) (back : List ℤ) (i : ℕ) → length front ≡ i → get_or (front ++ x ∷ back) i (pos 0) ≡ x
seam front x back i e = ap (λ (n : ℕ). get_or (front ++ x ∷ back) n (pos 0)) (sym e) ∙ get_or-append_seam front x back (pos 0)

longer : (front : List ℤ) (x : ℤ) (i : ℕ) → length front ≡ i → length (front ++ x ∷ []) ≡ suc i
longer front x i e = omega (arith, length-append front (x ∷ []), e)

outputs_are : (vs : List Variable) (xs : List Value) (front back : List ℤ) (i : ℕ) → length front ≡ i → AreKinded vs xs → values_from i vs (front ++ (map raw_of xs ++ back)) ≡ xs
outputs_are [] [] front back i e k = refl
outputs_are [] (x ∷ xs) front back i e k = absurd k
outputs_are (v ∷ vs) [] front back i e k = absurd k
outputs_are (v ∷ vs) (x ∷ xs) front back i e k =
    let rest = outputs_are vs xs (front ++ raw_of x ∷ []) back (suc i) (longer front (raw_of x) i e) k.1 in
    let text : (front ++ raw_of x ∷ []) ++ (map raw_of xs ++ back) ≡ front ++ raw_of x ∷ (map raw_of xs ++ back) = append_assoc front (raw_of x ∷ []) (map raw_of xs ++ back) in
    ap (λ (r : ℤ). value_of v.kind r ∷ values_from (suc i) vs (front ++ raw_of x ∷ (map raw_of xs ++ back))) (seam front (raw_of x) (map raw_of xs ++ back) i e)
    ∙ ap (λ (y : Value). y ∷ values_from (suc i) vs (front ++ raw_of x ∷ (map raw_of xs ++ back))) k.0
    ∙ ap (λ (zs : List ℤ). x ∷ values_from (suc i) vs zs) (sym text)
    ∙ ap (λ (ys : List Value). x ∷ ys) rest

locals_are : (vs : List Variable) (ys : List (Option Value)) (front : List ℤ) (i : ℕ) → length front ≡ i → AreKindedLocals vs ys → values_from i vs (front ++ map local_raw ys) ≡ local_values vs ys
locals_are [] [] front i e k = refl
locals_are [] (y ∷ ys) front i e k = absurd k
locals_are (v ∷ vs) [] front i e k = absurd k
locals_are (v ∷ vs) (y ∷ ys) front i e k =
    let rest = locals_are vs ys (front ++ local_raw y ∷ []) (suc i) (longer front (local_raw y) i e) k.1 in
    let text : (front ++ local_raw y ∷ []) ++ map local_raw ys ≡ front ++ local_raw y ∷ map local_raw ys = append_assoc front (local_raw y ∷ []) (map local_raw ys) in
    ap (λ (r : ℤ). value_of v.kind r ∷ values_from (suc i) vs (front ++ local_raw y ∷ map local_raw ys)) (seam front (local_raw y) (map local_raw ys) i e)
    ∙ ap (λ (zs : List ℤ). value_of v.kind (local_raw y) ∷ values_from (suc i) vs zs) (sym text)
    ∙ ap (λ (zs : List Value). value_of v.kind (local_raw y) ∷ zs) rest

outputs_long : (vs : List Variable) (xs : List Value) → AreKinded vs xs → length (map raw_of xs) ≡ length vs
outputs_long [] [] k = refl
outputs_long [] (x ∷ xs) k = absurd k
outputs_long (v ∷ vs) [] k = absurd k
outputs_long (v ∷ vs) (x ∷ xs) k = ap suc (outputs_long vs xs k.1)

module _ (s : Scene) (step : Shown) (outs : AreKinded s.outputs step.outputs) (locs : AreKindedLocals s.locals step.locals) where
  pub outputs_back : outputs_by s (shown_raws step) ≡ step.outputs
  outputs_back = outputs_are s.outputs step.outputs [] (map local_raw step.locals) 0 refl outs

  pub locals_back : locals_by s (shown_raws step) ≡ local_values s.locals step.locals
  locals_back = locals_are s.locals step.locals (map raw_of step.outputs) (length s.outputs) (outputs_long s.outputs step.outputs outs) locs

-- ---- scopes

scope_local : (b : Bool) (v : Variable) (y : Option Value) → IsKindedLocal v y → same_truth b (is_some y) ≡ true → (if b then Some (value_of v.kind (local_raw y)) else None) ≡ y
scope_local true v (Some x) k h = ap (λ z. Some z) k
scope_local true v None k h = absurd (cc)
scope_local false v (Some x) k h = absurd (cc)
scope_local false v None k h = refl

local_scope : (b : Bool) (v : Variable) (y : Option Value) → (if b then Some (value_of v.kind (local_raw y)) else None) ≡ y → same_truth b (is_some y) ≡ true
local_scope true v (Some x) h = refl
local_scope true v None h = absurd (cc)
local_scope false v (Some x) h = absurd (cc)
local_scope false v None h = refl

scope_tells : (ls : Lasts) (x : ℕ) (vs : List Variable) (ys : List (Option Value)) → AreKindedLocals vs ys → has_scope ls x (map is_some ys) ≡ true → scoped ls x (local_values vs ys) ≡ ys
scope_tells ls x [] [] k h = refl
scope_tells ls x [] (y ∷ ys) k h = absurd k
scope_tells ls x (v ∷ vs) [] k h = absurd k
scope_tells ls x (v ∷ vs) (y ∷ ys) k h =
    let a = scope_local (is_in_scope ls x) v y k.0 (left_true (same_truth (is_in_scope ls x) (is_some y)) (has_scope ls (suc x) (map is_some ys)) h) in
    let b = scope_tells ls (suc x) vs ys k.1 (right_true (same_truth (is_in_scope ls x) (is_some y)) (has_scope ls (suc x) (map is_some ys)) h) in
    λ i. a i ∷ b i

tells_scope : (ls : Lasts) (x : ℕ) (vs : List Variable) (ys : List (Option Value)) → AreKindedLocals vs ys → scoped ls x (local_values vs ys) ≡ ys → has_scope ls x (map is_some ys) ≡ true
tells_scope ls x [] [] k h = refl
tells_scope ls x [] (y ∷ ys) k h = absurd k
tells_scope ls x (v ∷ vs) [] k h = absurd k
tells_scope ls x (v ∷ vs) (y ∷ ys) k h =
    let a : (if is_in_scope ls x then Some (value_of v.kind (local_raw y)) else None) ≡ y = cc in
    let b : scoped ls (suc x) (local_values vs ys) ≡ ys = cc in
    both_true (same_truth (is_in_scope ls x) (is_some y)) (has_scope ls (suc x) (map is_some ys)) (local_scope (is_in_scope ls x) v y a) (tells_scope ls (suc x) vs ys k.1 b)

-- ---- points

module _ (test : TestTellsPoints) where
  point_is : (r : Range) (x : ℤ) → HasPoints r → is_point r x ≡ true → Contains (points_of r) x
  point_is r x h k = ((points_are_those r h).0 x).1 ((test r x h).0 k)

  is_point_of : (r : Range) (x : ℤ) → HasPoints r → Contains (points_of r) x → is_point r x ≡ true
  is_point_of r x h k = (test r x h).1 (((points_are_those r h).0 x).0 k)

  zero_has : HasPoints zero_alone
  zero_has = record { some = omega (arith, ints); step = omega (arith, ints) }

  zero_point : Contains (points_of zero_alone) (pos 0)
  zero_point = point_is zero_alone (pos 0) zero_has refl

  local_point : (b : Bool) (v : Variable) (y : Option Value) → HasPoints v.range → same_truth b (is_some y) ≡ true → is_local_point v y ≡ true → IsPointOf (ranges_in (b ∷ []) (v.range ∷ [])) (local_raw y ∷ [])
  local_point true v (Some x) h k p = (point_is v.range (raw_of x) h p, tt)
  local_point true v None h k p = absurd (cc)
  local_point false v (Some x) h k p = absurd (cc)
  local_point false v None h k p = (zero_point, tt)

  point_local : (b : Bool) (v : Variable) (y : Option Value) → HasPoints v.range → same_truth b (is_some y) ≡ true → IsPointOf (ranges_in (b ∷ []) (v.range ∷ [])) (local_raw y ∷ []) → is_local_point v y ≡ true
  point_local true v (Some x) h k p = is_point_of v.range (raw_of x) h p.0
  point_local true v None h k p = refl
  point_local false v (Some x) h k p = absurd (cc)
  point_local false v None h k p = refl

  locals_points : (ls : Lasts) (x : ℕ) (vs : List Variable) (ys : List (Option Value)) → HaveRanges vs → AreKindedLocals vs ys → has_scope ls x (map is_some ys) ≡ true → are_local_points vs ys ≡ true → IsPointOf (ranges_in (marks_from ls x vs) (ranges_of_all vs)) (map local_raw ys)
  locals_points ls x [] [] r k h p = tt
  locals_points ls x [] (y ∷ ys) r k h p = absurd k
  locals_points ls x (v ∷ vs) [] r k h p = absurd k
  locals_points ls x (v ∷ vs) (y ∷ ys) r k h p = (
    (local_point (is_in_scope ls x) v y r.0 (left_true (same_truth (is_in_scope ls x) (is_some y)) (has_scope ls (suc x) (map is_some ys)) h) (left_true (is_local_point v y) (are_local_points vs ys) p)).0,
    locals_points ls (suc x) vs ys r.1 k.1 (right_true (same_truth (is_in_scope ls x) (is_some y)) (has_scope ls (suc x) (map is_some ys)) h) (right_true (is_local_point v y) (are_local_points vs ys) p),
  )

  points_locals : (ls : Lasts) (x : ℕ) (vs : List Variable) (ys : List (Option Value)) → HaveRanges vs → AreKindedLocals vs ys → has_scope ls x (map is_some ys) ≡ true → IsPointOf (ranges_in (marks_from ls x vs) (ranges_of_all vs)) (map local_raw ys) → are_local_points vs ys ≡ true
  points_locals ls x [] [] r k h p = refl
  points_locals ls x [] (y ∷ ys) r k h p = absurd k
  points_locals ls x (v ∷ vs) [] r k h p = absurd k
  points_locals ls x (v ∷ vs) (y ∷ ys) r k h p =
      both_true (is_local_point v y) (are_local_points vs ys)
      (point_local (is_in_scope ls x) v y r.0 (left_true (same_truth (is_in_scope ls x) (is_some y)) (has_scope ls (suc x) (map is_some ys)) h) (p.0, tt))
      (points_locals ls (suc x) vs ys r.1 k.1 (right_true (same_truth (is_in_scope ls x) (is_some y)) (has_scope ls (suc x) (map is_some ys)) h) p.1)

  module _ (marks : List Bool) (rs : List Range) (zs : List ℤ) where
    outputs_points : (vs : List Variable) (xs : List Value) → HaveRanges vs → AreKinded vs xs → are_points vs xs ≡ true → IsPointOf (ranges_in marks rs) zs → IsPointOf (ranges_in (replicate (length vs) true ++ marks) (ranges_of_all vs ++ rs)) (map raw_of xs ++ zs)
    outputs_points [] [] r k p q = q
    outputs_points [] (x ∷ xs) r k p q = absurd k
    outputs_points (v ∷ vs) [] r k p q = absurd k
    outputs_points (v ∷ vs) (x ∷ xs) r k p q = (
      point_is v.range (raw_of x) r.0 (left_true (is_point v.range (raw_of x)) (are_points vs xs) p),
      outputs_points vs xs r.1 k.1 (right_true (is_point v.range (raw_of x)) (are_points vs xs) p) q,
    )

    points_outputs : (vs : List Variable) (xs : List Value) → HaveRanges vs → AreKinded vs xs → IsPointOf (ranges_in (replicate (length vs) true ++ marks) (ranges_of_all vs ++ rs)) (map raw_of xs ++ zs) → (are_points vs xs ≡ true) × IsPointOf (ranges_in marks rs) zs
    points_outputs [] [] r k p = (refl, p)
    points_outputs [] (x ∷ xs) r k p = absurd k
    points_outputs (v ∷ vs) [] r k p = absurd k
    points_outputs (v ∷ vs) (x ∷ xs) r k p =
        let rest = points_outputs vs xs r.1 k.1 p.1 in
        (both_true (is_point v.range (raw_of x)) (are_points vs xs) (is_point_of v.range (raw_of x) r.0 p.0) rest.0, rest.1)

  -- ---- a step

  module _ (s : Scene) (step : Shown) (outs : AreKinded s.outputs step.outputs) (locs : AreKindedLocals s.locals step.locals) (out_ranges : HaveRanges s.outputs) (loc_ranges : HaveRanges s.locals) where
    pub points_at : (ls : Lasts) → possible s step ≡ true → has_scope ls 0 (map is_some step.locals) ≡ true → IsPointOf (ranges_at s ls) (shown_raws step)
    points_at ls p h =
        outputs_points (marks_from ls 0 s.locals) (ranges_of_all s.locals) (map local_raw step.locals) s.outputs step.outputs out_ranges outs (left_true (are_points s.outputs step.outputs) (are_local_points s.locals step.locals) p)
        (locals_points ls 0 s.locals step.locals loc_ranges locs h (right_true (are_points s.outputs step.outputs) (are_local_points s.locals step.locals) p))

    pub shows_step : (f : Formula) (ls : Lasts) → possible s step ≡ true → has_scope ls 0 (map is_some step.locals) ≡ true → holds_of s f (shown_raws step) ≡ true → Shows s step f ls
    shows_step f ls p h k = record {
      points = points_at ls p h;
      holds = k;
      outputs = outputs_back s step outs locs;
      locals = ap (λ vs. scoped ls 0 vs) (locals_back s step outs locs) ∙ scope_tells ls 0 s.locals step.locals locs h;
    }

    pub step_scope : (f : Formula) (ls : Lasts) → Shows s step f ls → has_scope ls 0 (map is_some step.locals) ≡ true
    step_scope f ls h = tells_scope ls 0 s.locals step.locals locs (ap (λ vs. scoped ls 0 vs) (sym (locals_back s step outs locs)) ∙ h.locals)

    pub step_possible : (f : Formula) (ls : Lasts) → Shows s step f ls → possible s step ≡ true
    step_possible f ls h =
        let r = points_outputs (marks_from ls 0 s.locals) (ranges_of_all s.locals) (map local_raw step.locals) s.outputs step.outputs out_ranges outs h.points in
        both_true (are_points s.outputs step.outputs) (are_local_points s.locals step.locals) r.0 (points_locals ls 0 s.locals step.locals loc_ranges locs (step_scope f ls h) r.1)
