-- What is drawn inside, told by points that pass.
use Rattle.std.proofs.Common.{◌≡◌, ◌<◌, ◌/◌, ◌⊎◌, inl, inr, ℕ, zero, suc, ◌-◌, Bool, true, false, not, IsTrue, List, [], ◌∷◌, ◌++◌, length, get_or, set, reverse, replicate, Some, None, ℤ, pos, ◌≤ℤ◌, ◌<ℤ◌, unsigned_abs, refl, ap, sym, ◌∙◌, subst, arith}
use Rattle.std.specs.Prelude.{All, AllPairs, Contains, MatchOption, if◌then◌else◌, int_lt}
use Rattle.std.specs.Int.{int_gap}
use Rattle.std.specs.List.{AllByRecursion, filter}
use Rattle.std.specs.declared.option.Option.{Option}
use Rattle.std.proofs.lemmas.Int.{ints}
use Rattle.std.proofs.lemmas.List.{get_or-reverse, get_or-replicate, length-replicate, length-reverse, reverse-reverse}
use Rattle.std.proofs.lemmas.List.Elements.{All-contains, All-contains_itself, All-from_recursion, recursion_from_All}
use Rattle.lt_draw.specs.Target.{target_of}
use Rattle.lt_formula.specs.First.{behind, with_first}
use Rattle.lt_formula.specs.Inside.{HaveOnePoint, aims_of, alone_in, inside_solution, no_range, part_at}
use Rattle.lt_formula.specs.Solution.{IsFirst, IsFirstAmong, IsPointOf, IsSatisfiable, comes_before, first_mark, first_solution, orders_from, other_marks, points_from, points_in}
use Rattle.lt_formula.proofs.Solutions.{at_from, each_back, each_from, first_solution_is_first}
use Rattle.lt_formula.proofs.Insides.{fixed_stands_before, fixing_keeps_the_inside, inside_is_a_solution, searches_find_the_part}
use Rattle.lt_formula.proofs.Places.{low_end, lt_false, one_point}
use Rattle.lt_num.proofs.Public.{points_are_those}
use Rattle.lt_num.specs.Range.{HasPoints, count_of, points_of}
use Rattle.lt_num.specs.declared.range.Range.{Range}
use Rattle.lt_solver.proofs.Fixing.{all_over, all_under, point_in}

pub lt_true : (a b : ℤ) → a <ℤ b → int_lt a b ≡ true
lt_true a b h = grind (arith, ints)

-- In a rising order the first one from a target is the one that no other goes before.
module _ (before : ℤ → ℤ → Bool) (t v u : ℤ) (G : ℤ → Type 0) (g : G v) (behind_target : before v t ≡ false) (only : before u t ≡ false → before u v ≡ false) where
  module _ (y : ℤ) (ys zs : List ℤ) (pairs : AllPairs (λ a b. before a b ≡ true) (y ∷ ys)) (others_first : Contains ys v → IsFirstAmong G (filter (λ p. not (before p t)) ys ++ zs) u → u ≡ v) where
    abbrev rest : List ℤ
    rest = filter (λ p. not (before p t)) ys

    before_others : Contains ys v → before y v ≡ true
    before_others (k, l, e) = subst (λ w. before y w ≡ true) e (pairs 0 (suc k) v (omega arith) (omega (arith, l)))

    skipped : Contains (y ∷ ys) v → before y t ≡ true → IsFirstAmong G (rest ++ zs) u → u ≡ v
    skipped (zero, l, e) b k = let same : before v t ≡ true = subst (λ w. before w t ≡ true) e b in absurd (cc)
    skipped (suc n, l, e) b k = others_first (n, omega (arith, l), e) k

    looked : Contains (y ∷ ys) v → before y t ≡ false → (u ≡ y) ⊎ ((G y → ⊥) × IsFirstAmong G (rest ++ zs) u) → u ≡ v
    looked (zero, l, e) b (inl is) = is ∙ e
    looked (suc n, l, e) b (inl is) =
        let one : before u v ≡ true = ap (λ w. before w v) is ∙ before_others (n, omega (arith, l), e) in
        let other : before u v ≡ false = only (ap (λ w. before w t) is ∙ b) in
        absurd (cc)
    looked (zero, l, e) b (inr k) = absurd (k.0 (subst G (sym e) g))
    looked (suc n, l, e) b (inr k) = others_first (n, omega (arith, l), e) k.1

    by_target : Contains (y ∷ ys) v → (b : Bool) → before y t ≡ b → IsFirstAmong G ((if not b then y ∷ rest else rest) ++ zs) u → u ≡ v
    by_target c true b k = skipped c b k
    by_target c false b k = looked c b k

  first_one : (ys zs : List ℤ) → AllPairs (λ a b. before a b ≡ true) ys → Contains ys v → IsFirstAmong G (filter (λ p. not (before p t)) ys ++ zs) u → u ≡ v
  first_one [] zs pairs (k, l, e) h = absurd (omega (arith, l))
  first_one (y ∷ ys) zs pairs c h =
      by_target y ys zs pairs (first_one ys zs (λ i j d l m. pairs (suc i) (suc j) d (omega (arith, l)) (omega (arith, m)))) c (before y t) refl h

-- the points of a range in a direction are in a rising order
in_order : (down : Bool) (r : Range) → HasPoints r → AllPairs (λ a b. comes_before down a b ≡ true) (points_in down r)
in_order false r has i j d l m = lt_true _ _ ((points_are_those r has).1 i j d l m)
in_order true r has i j d l m =
    let xs = points_of r in
    let many = length-reverse xs in
    let one = get_or-reverse xs i d (omega (arith, l, m, many)) in
    let other = get_or-reverse xs j d (omega (arith, m, many)) in
    lt_true _ _ (subst (λ z. z <ℤ get_or (reverse xs) i d) (sym other) (subst (λ z. get_or xs (length xs - 1 - j) d <ℤ z) (sym one) ((points_are_those r has).1 (length xs - 1 - j) (length xs - 1 - i) d (omega (arith, l, m, many)) (omega (arith, l, m, many)))))

-- and are those of the range
in_points : (down : Bool) (r : Range) (v : ℤ) → Contains (points_of r) v → Contains (points_in down r) v
in_points false r v c = c
in_points true r v c =
    let xs = points_of r in
    let P : ℤ → Type 0 = Contains (reverse xs) in
    let each = each_back P (reverse xs) (recursion_from_All P (reverse xs) (All-contains_itself (reverse xs))) in
    All-contains P xs v (subst (All P) (reverse-reverse xs) (All-from_recursion P (reverse (reverse xs)) each)) c

-- a range with one point has its low end alone
low_alone : (r : Range) → count_of r ≡ 1 → points_from false r.low r ≡ r.low ∷ []
low_alone r one = one_point false r r.low one ∙ ap (λ v. v ∷ []) (low_end false r one)

pub one_in : (r : Range) (v : ℤ) → count_of r ≡ 1 → Contains (points_of r) v → v ≡ r.low
one_in r v one c = by (subst (λ vs. Contains vs v) (low_alone r one) (at_from false r.low r v c))
  where
    by : Contains (r.low ∷ []) v → v ≡ r.low
    by (zero, l, e) = sym e
    by (suc n, l, e) = absurd (omega (arith, l))

one_there : (r : Range) → count_of r ≡ 1 → Contains (points_of r) r.low
one_there r one = (subst (λ vs. AllByRecursion (Contains (points_of r)) vs) (low_alone r one) (each_from false r.low r)).0

mark_first : (marks : List Bool) → get_or marks 0 false ≡ first_mark marks
mark_first [] = refl
mark_first (m ∷ marks) = refl

mark_next : (marks : List Bool) (i : ℕ) → get_or marks (suc i) false ≡ get_or (other_marks marks) i false
mark_next [] i = refl
mark_next (m ∷ marks) i = refl

-- the others of a solution behind a fixed number
abbrev others : List ℤ → List ℤ
others [] = []
others (v ∷ vs) = vs

behind_first : (v : ℤ) (o : Option (List ℤ)) (values : List ℤ) → with_first v o ≡ Some values → (o ≡ Some (others values)) × (values ≡ v ∷ others values)
behind_first v None values e = absurd (cc)
behind_first v (Some vs) values e =
    let is : v ∷ vs ≡ values = cc in
    (ap Some (ap others is), sym is ∙ ap (λ ws. v ∷ others ws) is)

-- what a first solution says
said : (passes : List ℤ → Bool) (ranges : List Range) (targets : List ℤ) (marks : List Bool) (values : List ℤ) → length targets ≡ length ranges → first_solution passes ranges targets marks ≡ Some values
    → IsPointOf ranges values × IsTrue (passes values) × IsFirst passes ranges (orders_from ranges targets marks) values
said passes ranges targets marks values e is = subst (λ (o : Option (List ℤ)). MatchOption o (IsSatisfiable passes ranges → ⊥) (λ vs. IsPointOf ranges vs × IsTrue (passes vs) × IsFirst passes ranges (orders_from ranges targets marks) vs)) is (first_solution_is_first passes ranges targets marks e)

-- Where each variable before one has one point, that one has the value of a first solution, if no point that passes goes before it.
first_at : (passes : List ℤ → Bool) (ranges : List Range) (i : ℕ) (targets : List ℤ) (marks : List Bool) (down : Bool) (values w : List ℤ)
    → i < length ranges → length targets ≡ length ranges → HaveOnePoint i ranges → HasPoints (get_or ranges i no_range) → get_or marks i false ≡ down
    → first_solution passes ranges targets marks ≡ Some values → IsPointOf ranges w → IsTrue (passes w) → comes_before down (get_or w i (pos 0)) (get_or targets i (pos 0)) ≡ false
    → ((p : List ℤ) → IsPointOf ranges p → IsTrue (passes p) → comes_before down (get_or p i (pos 0)) (get_or targets i (pos 0)) ≡ false → comes_before down (get_or p i (pos 0)) (get_or w i (pos 0)) ≡ false)
    → get_or values i (pos 0) ≡ get_or w i (pos 0)
first_at passes [] i targets marks down values w l e one has m is p k b only = absurd (omega (arith, l))
first_at passes (r ∷ rs) i [] marks down values w l e one has m is p k b only = absurd (omega (arith, e))
first_at passes (r ∷ rs) i (t ∷ ts) marks down values [] l e one has m is p k b only = absurd p
first_at passes (r ∷ rs) zero (t ∷ ts) marks down [] (v ∷ vs) l e one has m is p k b only = absurd (said passes (r ∷ rs) (t ∷ ts) marks [] e is).0
first_at passes (r ∷ rs) zero (t ∷ ts) marks down (u ∷ us) (v ∷ vs) l e one has m is p k b only =
    let G : ℤ → Type 0 = λ x. IsSatisfiable (behind passes x) rs in
    let s = said passes (r ∷ rs) (t ∷ ts) marks (u ∷ us) e is in
    first_one (comes_before down) t v u G (vs, p.1, k) b (only (u ∷ us) s.0 s.1) (points_in down r) (filter (λ x. comes_before down x t) (points_in down r)) (in_order down r has) (in_points down r v p.0)
    (subst (λ d. IsFirstAmong G (points_from d t r) u) (sym (mark_first marks) ∙ m) s.2.0)
first_at passes (r ∷ rs) (suc i) (t ∷ ts) marks down values (v ∷ vs) l e one has m is p k b only =
    let rest = behind_first r.low (first_solution (behind passes r.low) rs ts (other_marks marks)) values (sym (fixed_stands_before passes r rs t ts marks one.0) ∙ is) in
    ap (λ us. get_or us (suc i) (pos 0)) rest.1
    ∙ first_at (behind passes r.low) rs i ts (other_marks marks) down (others values) vs (omega (arith, l)) (omega (arith, e)) one.1 has (sym (mark_next marks i) ∙ m) rest.0 p.1
    (subst (λ x. IsTrue (passes (x ∷ vs))) (one_in r v one.0 p.0) k) b
    (λ q pq kq h. only (r.low ∷ q) (one_there r one.0, pq) kq h)

point_many : (ranges : List Range) (values : List ℤ) → IsPointOf ranges values → length values ≡ length ranges
point_many [] [] p = refl
point_many [] (v ∷ vs) p = absurd p
point_many (r ∷ rs) [] p = absurd p
point_many (r ∷ rs) (v ∷ vs) p = ap suc (point_many rs vs p.1)

-- A variable is drawn: some points that pass have its least value, some its greatest one, and some the one that is taken.
module _ (passes : List ℤ → Bool) (ranges : List Range) (words : List ℕ) (down : List Bool) (i : ℕ) (here : i < length ranges) (many : length words ≡ length ranges) (one : HaveOnePoint i ranges) (has : HasPoints (get_or ranges i no_range))
    (a b w : List ℤ) (pa : IsPointOf ranges a) (ka : IsTrue (passes a)) (pb : IsPointOf ranges b) (kb : IsTrue (passes b)) (pw : IsPointOf ranges w) (kw : IsTrue (passes w))
    (all : (p : List ℤ) → IsPointOf ranges p → IsTrue (passes p) → (get_or a i (pos 0) ≤ℤ get_or p i (pos 0)) × (get_or p i (pos 0) ≤ℤ get_or b i (pos 0))) where
  abbrev own : Range
  own = get_or ranges i no_range

  abbrev part : Range
  part = record own { low = get_or a i (pos 0); high = get_or b i (pos 0) }

  abbrev so_many : ℤ → List ℤ
  so_many t = replicate (length ranges) t

  some_first : (t : ℤ) (marks : List Bool) → (values : List ℤ) × (first_solution passes ranges (so_many t) marks ≡ Some values)
  some_first t marks = by (first_solution passes ranges (so_many t) marks) refl (first_solution_is_first passes ranges (so_many t) marks (length-replicate (length ranges) t))
    where
      by : (o : Option (List ℤ)) → first_solution passes ranges (so_many t) marks ≡ o → MatchOption o (IsSatisfiable passes ranges → ⊥) (λ vs. IsPointOf ranges vs × IsTrue (passes vs) × IsFirst passes ranges (orders_from ranges (so_many t) marks) vs) → (values : List ℤ) × (first_solution passes ranges (so_many t) marks ≡ Some values)
      by None at h = absurd (h (a, pa, ka))
      by (Some vs) at h = (vs, at)

  many_at : (t : ℤ) → get_or (so_many t) i (pos 0) ≡ t
  many_at t = get_or-replicate (length ranges) i t (pos 0) here

  -- the first one from a target in a direction
  value_first : (t : ℤ) (marks : List Bool) (d : Bool) (x : List ℤ) → get_or marks i false ≡ d → IsPointOf ranges x → IsTrue (passes x) → comes_before d (get_or x i (pos 0)) t ≡ false
      → ((p : List ℤ) → IsPointOf ranges p → IsTrue (passes p) → comes_before d (get_or p i (pos 0)) t ≡ false → comes_before d (get_or p i (pos 0)) (get_or x i (pos 0)) ≡ false)
      → get_or (some_first t marks).0 i (pos 0) ≡ get_or x i (pos 0)
  value_first t marks d x m px kx on only =
      first_at passes ranges i (so_many t) marks d (some_first t marks).0 x here (length-replicate (length ranges) t) one has m (some_first t marks).1 px kx
      (subst (λ z. comes_before d (get_or x i (pos 0)) z ≡ false) (sym (many_at t)) on)
      (λ p pp kp h. only p pp kp (subst (λ z. comes_before d (get_or p i (pos 0)) z ≡ false) (many_at t) h))

  abbrev top : ℤ
  top = target_of own (int_gap own.low own.high / unsigned_abs own.step)

  part_is : part_at passes ranges i ≡ part
  part_is =
      let ups = replicate (length ranges) false in
      let downs = replicate (length ranges) true in
      let up = get_or-replicate (length ranges) i false false here in
      let dn = get_or-replicate (length ranges) i true false here in
      let over = All-contains (λ p. own.low ≤ℤ p) (points_of own) (get_or a i (pos 0)) (all_over own has) (point_in ranges a i here pa) in
      let under = All-contains (λ p. p ≤ℤ top) (points_of own) (get_or b i (pos 0)) (all_under own has) (point_in ranges b i here pb) in
      let lows = value_first own.low ups false a up pa ka (lt_false _ _ over) (λ p pp kp h. lt_false _ _ (all p pp kp).0) in
      let highs = value_first top downs true b dn pb kb (lt_false _ _ under) (λ p pp kp h. lt_false _ _ (all p pp kp).1) in
      searches_find_the_part passes ranges i (so_many own.low) (so_many top) ups downs (some_first own.low ups).0 (some_first top downs).0 here (length-replicate (length ranges) own.low) (length-replicate (length ranges) top) one
      (subst (λ t. All (λ p. t ≤ℤ p) (points_of own)) (sym (many_at own.low)) (all_over own has))
      (subst (λ t. All (λ p. p ≤ℤ t) (points_of own)) (sym (many_at top)) (all_under own has))
      up dn (some_first own.low ups).1 (some_first top downs).1
      ∙ (λ j. record own { low = lows j; high = highs j })

  -- Then it can be fixed to that, and what is drawn inside stays.
  pub drawn_stays : (t : ℤ) (d : Bool) → t ≡ target_of part (get_or words i 0) → get_or down i false ≡ d → comes_before d (get_or w i (pos 0)) t ≡ false
      → ((p : List ℤ) → IsPointOf ranges p → IsTrue (passes p) → comes_before d (get_or p i (pos 0)) t ≡ false → comes_before d (get_or p i (pos 0)) (get_or w i (pos 0)) ≡ false)
      → inside_solution passes ranges words down ≡ inside_solution passes (set ranges i (alone_in own (get_or w i (pos 0)))) words down
  drawn_stays t d aim m on only =
      let value = value_first t down d w m pw kw on only in
      fixing_keeps_the_inside passes ranges words down i (so_many t) down (some_first t down).0 here many (length-replicate (length ranges) t) one
      (many_at t ∙ aim ∙ ap (λ (r : Range). target_of r (get_or words i 0)) (sym part_is)) refl (some_first t down).1
      ∙ ap (λ z. inside_solution passes (set ranges i (alone_in own z)) words down) value

-- Where all are fixed, the one point is drawn, if it passes.
same_point : (ranges : List Range) (us vs : List ℤ) → HaveOnePoint (length ranges) ranges → IsPointOf ranges us → IsPointOf ranges vs → us ≡ vs
same_point [] [] [] one p q = refl
same_point [] (u ∷ us) vs one p q = absurd p
same_point [] [] (v ∷ vs) one p q = absurd q
same_point (r ∷ rs) [] vs one p q = absurd p
same_point (r ∷ rs) (u ∷ us) [] one p q = absurd q
same_point (r ∷ rs) (u ∷ us) (v ∷ vs) one p q = let a = one_in r u one.0 p.0 ∙ sym (one_in r v one.0 q.0) in let rest = same_point rs us vs one.1 p.1 q.1 in (λ i. a i ∷ rest i)

pub all_drawn : (passes : List ℤ → Bool) (ranges : List Range) (words : List ℕ) (down : List Bool) (values : List ℤ) → length words ≡ length ranges → HaveOnePoint (length ranges) ranges → IsPointOf ranges values → IsTrue (passes values)
    → inside_solution passes ranges words down ≡ Some values
all_drawn passes ranges words down values e one p k = by (inside_solution passes ranges words down) refl (inside_is_a_solution passes ranges words down e)
  where
    by : (o : Option (List ℤ)) → inside_solution passes ranges words down ≡ o → MatchOption o (IsSatisfiable passes ranges → ⊥) (λ vs. IsPointOf ranges vs × IsTrue (passes vs) × IsFirst passes ranges (orders_from ranges (aims_of passes ranges words vs) down) vs) → inside_solution passes ranges words down ≡ Some values
    by None at h = absurd (h (values, p, k))
    by (Some vs) at h = at ∙ ap Some (same_point ranges vs values one h.0 p)

pub none_inside : (passes : List ℤ → Bool) (ranges : List Range) (words : List ℕ) (down : List Bool) → length words ≡ length ranges → (IsSatisfiable passes ranges → ⊥) → inside_solution passes ranges words down ≡ None
none_inside passes ranges words down e never = by (inside_solution passes ranges words down) refl (inside_is_a_solution passes ranges words down e)
  where
    by : (o : Option (List ℤ)) → inside_solution passes ranges words down ≡ o → MatchOption o (IsSatisfiable passes ranges → ⊥) (λ vs. IsPointOf ranges vs × IsTrue (passes vs) × IsFirst passes ranges (orders_from ranges (aims_of passes ranges words vs) down) vs) → inside_solution passes ranges words down ≡ None
    by None at h = at
    by (Some vs) at h = absurd (never (vs, h.0, h.1))
