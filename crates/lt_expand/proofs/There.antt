-- The exceptions of a trace are all among those that have numbers, and these are few.
use Rattle.std.proofs.Common.{◌≡◌, ℕ, suc, ◌+◌, ◌<◌, ◌≤◌, Bool, true, false, ◌||◌, if◌then◌else◌, List, [], ◌∷◌, ◌++◌, length, length-append, ◌⊎◌, inl, inr, refl, sym, ap, ◌∙◌, subst, arith, eq-eqb}
use Rattle.std.specs.List.{flat_map, list_any, sum_by}
use Rattle.std.proofs.lemmas.List.Sums.{sum_by-cons}
use Rattle.lt_macros.specs.Expanded as x
use Rattle.lt_macros.specs.Expanded.{Exception, Expanded}
use Rattle.lt_macros.specs.Nodes.{term_count}
use Rattle.lt_macros.specs.Preorder.{Item, term, weight, items, raised_at, caught_at}
use Rattle.lt_expand.specs.Exceptions.{added, number_in, numbered, same_exception}
use Rattle.lt_expand.proofs.Ranks.{same_turned}
use Rattle.lt_term.proofs.Public.{both}

-- An exception is one of these.
abbrev pub IsIn : Exception → List Exception → Type 0
IsIn z [] = ⊥
IsIn z (y ∷ ys) = (z ≡ y) ⊎ IsIn z ys

pub in_left : (z : Exception) (ys zs : List Exception) → IsIn z ys → IsIn z (ys ++ zs)
in_left z [] zs h = absurd h
in_left z (y ∷ ys) zs (inl e) = inl e
in_left z (y ∷ ys) zs (inr i) = inr (in_left z ys zs i)

pub in_right : (z : Exception) (ys zs : List Exception) → IsIn z zs → IsIn z (ys ++ zs)
in_right z [] zs h = h
in_right z (y ∷ ys) zs h = inr (in_right z ys zs h)

same_itself : (z : Exception) → same_exception z z ≡ true
same_itself z = both _ _ (eq-eqb z.place z.place refl) (eq-eqb z.terms_before z.terms_before refl)

-- An exception has the number of one of these.
abbrev HasNumber : List Exception → Exception → Type 0
HasNumber zs z = number_in zs z < length zs

here_below : (b : Bool) (m n : ℕ) → b ≡ true → (if b then 0 else suc m) < suc n
here_below true m n h = omega arith
here_below false m n h = absurd (cc)

more_below : (b : Bool) (m n : ℕ) → m < n → (if b then 0 else suc m) < suc n
more_below true m n h = omega arith
more_below false m n h = omega arith

-- it is one of those before, or of those that are added
abbrev IsReached : List Exception → List Exception → Exception → Type 0
IsReached before zs w = (list_any (same_exception w) before ≡ true) ⊎ HasNumber (added before zs) w

by_test : (b : Bool) (w z : Exception) (zs before : List Exception) → list_any (same_exception z) before ≡ b
    → (list_any (same_exception w) before ≡ true) ⊎ HasNumber (if b then added before zs else z ∷ added (z ∷ before) zs) w → IsReached before (z ∷ zs) w
by_test b w z zs before is (inl h) = inl h
by_test b w z zs before is (inr h) = inr (subst (λ c. HasNumber (if c then added before zs else z ∷ added (z ∷ before) zs) w) (sym is) h)

one_of_more : (a b : Bool) (w z : Exception) (zs before : List Exception) → same_exception w z ≡ a → list_any (same_exception w) before ≡ b → (a || b) ≡ true
    → (list_any (same_exception w) before ≡ true) ⊎ HasNumber (z ∷ added (z ∷ before) zs) w
one_of_more true b w z zs before e f h = inr (here_below (same_exception z w) _ _ (same_turned z w ∙ e))
one_of_more false b w z zs before e f h = inl (f ∙ h)

behind : (w z : Exception) (zs before : List Exception) → IsReached (z ∷ before) zs w → (list_any (same_exception w) before ≡ true) ⊎ HasNumber (z ∷ added (z ∷ before) zs) w
behind w z zs before (inl h) = one_of_more (same_exception w z) (list_any (same_exception w) before) w z zs before refl refl h
behind w z zs before (inr h) = inr (more_below (same_exception z w) _ _ h)

first_reached : (b : Bool) (w z : Exception) (zs before : List Exception) → list_any (same_exception z) before ≡ b → w ≡ z
    → (list_any (same_exception w) before ≡ true) ⊎ HasNumber (if b then added before zs else z ∷ added (z ∷ before) zs) w
first_reached true w z zs before is e = inl (ap (λ y. list_any (same_exception y) before) e ∙ is)
first_reached false w z zs before is e = inr (here_below (same_exception z w) _ _ (ap (same_exception z) e ∙ same_itself z))

later_reached : (b : Bool) (w z : Exception) (zs before : List Exception) → IsReached before zs w → IsReached (z ∷ before) zs w
    → (list_any (same_exception w) before ≡ true) ⊎ HasNumber (if b then added before zs else z ∷ added (z ∷ before) zs) w
later_reached true w z zs before g h = g
later_reached false w z zs before g h = behind w z zs before h

all_reached : (zs before : List Exception) (w : Exception) → IsIn w zs → IsReached before zs w
all_reached [] before w h = absurd h
all_reached (z ∷ zs) before w (inl e) = by_test (list_any (same_exception z) before) w z zs before refl (first_reached (list_any (same_exception z) before) w z zs before refl e)
all_reached (z ∷ zs) before w (inr i) =
    by_test (list_any (same_exception z) before) w z zs before refl (later_reached (list_any (same_exception z) before) w z zs before (all_reached zs before w i) (all_reached zs (z ∷ before) w i))

none_before : (zs : List Exception) (w : Exception) → IsReached [] zs w → HasNumber (added [] zs) w
none_before zs w (inl h) = absurd (cc)
none_before zs w (inr h) = h

-- each that a trace raises or catches has a number
pub numbered_there : (t : Expanded) (w : Exception) → IsIn w (flat_map raised_at (items t) ++ flat_map caught_at (items t)) → number_in (numbered t) w < length (numbered t)
numbered_there t w h = none_before _ w (all_reached (flat_map raised_at (items t) ++ flat_map caught_at (items t)) [] w h)

-- HOW MANY

fewer : (b : Bool) (ys zs : List Exception) (z : Exception) (n : ℕ) → length ys ≤ n → length zs ≤ n → length (if b then ys else z ∷ zs) ≤ suc n
fewer true ys zs z n g h = omega arith
fewer false ys zs z n g h = omega arith

added_few : (zs before : List Exception) → length (added before zs) ≤ length zs
added_few [] before = omega arith
added_few (z ∷ zs) before = fewer (list_any (same_exception z) before) (added before zs) (added (z ∷ before) zs) z (length zs) (added_few zs before) (added_few zs (z ∷ before))

one_few : (i : Item) → length (raised_at i) + length (caught_at i) ≤ term_count i
one_few (weight w) = omega arith
one_few (term x.eps) = omega arith
one_few (term x.dead) = omega arith
one_few (term (x.con e)) = omega arith
one_few (term (x.raise z)) = omega arith
one_few (term (x.seq a b)) = omega arith
one_few (term (x.loop a)) = omega arith
one_few (term (x.count i b a)) = omega arith
one_few (term (x.any ps)) = omega arith
one_few (term (x.pri a b)) = omega arith
one_few (term (x.par a b)) = omega arith
one_few (term (x.assert e a)) = omega arith
one_few (term (x.exist i d a)) = omega arith
one_few (term (x.catch z a b)) = omega arith
one_few (term (x.try a b)) = omega arith

all_few : (is : List Item) → length (flat_map raised_at is) + length (flat_map caught_at is) ≤ sum_by term_count is
all_few [] = omega arith
all_few (i ∷ is) =
    let one = one_few i in
    let rest = all_few is in
    let raised : length (flat_map raised_at (i ∷ is)) ≡ length (raised_at i) + length (flat_map raised_at is) = length-append (raised_at i) (flat_map raised_at is) in
    let caught : length (flat_map caught_at (i ∷ is)) ≡ length (caught_at i) + length (flat_map caught_at is) = length-append (caught_at i) (flat_map caught_at is) in
    let all = sum_by-cons term_count i is in
    omega (arith, one, rest, raised, caught, all)

-- there are no more than terms
pub numbered_few : (t : Expanded) → length (numbered t) ≤ sum_by term_count (items t)
numbered_few t =
    let few = added_few (flat_map raised_at (items t) ++ flat_map caught_at (items t)) [] in
    let parts = length-append (flat_map raised_at (items t)) (flat_map caught_at (items t)) in
    omega (arith, few, parts, all_few (items t))
