-- Sums over a row, term by term.
use Rattle.std.proofs.Common.{◌≡◌, ℕ, zero, suc, ◌+◌, ◌*◌, ◌<◌, ◌≤◌, List, [], ◌∷◌, length, drop, get_or, ℤ, pos, ◌+ℤ◌, unsigned_abs, set, add-one, refl, ap, arith}
use Rattle.std.proofs.lemmas.Int.{ints}
use Rattle.lt_bounds.specs.Rows.{reach}
use Rattle.lt_bounds.specs.Tightening.{least_of, least_sum}
use Rattle.lt_bounds.specs.Ranges.{size_of, range_at}
use Rattle.lt_num.specs.declared.interval.Interval.{Interval}

-- the least values of the terms, without the constant
abbrev pub terms_least : List ℤ → List Interval → ℤ
terms_least [] ranges = pos 0
terms_least (c ∷ cs) [] = pos 0
terms_least (a ∷ cs) (r ∷ rs) = least_of a r +ℤ terms_least cs rs

-- how far the terms reach, without the constant
abbrev pub terms_reach : List ℤ → List Interval → ℕ
terms_reach [] ranges = 0
terms_reach (c ∷ cs) [] = 0
terms_reach (a ∷ cs) (r ∷ rs) = unsigned_abs a * size_of r + terms_reach cs rs

-- a row's least value is that of its terms and the constant
pub least_parts : (row : List ℤ) (ranges : List Interval) → length row ≡ suc (length ranges) → least_sum row ranges ≡ get_or row (length ranges) (pos 0) +ℤ terms_least row ranges
least_parts [] ranges h = absurd (omega arith)
least_parts (c ∷ cs) [] h = omega (arith, ints)
least_parts (a ∷ cs) (r ∷ rs) h = let e = least_parts cs rs (omega (arith, h)) in omega (arith, ints)

pub reach_parts : (row : List ℤ) (ranges : List Interval) → length row ≡ suc (length ranges) → reach row ranges ≡ unsigned_abs (get_or row (length ranges) (pos 0)) + terms_reach row ranges
reach_parts [] ranges h = absurd (omega arith)
reach_parts (c ∷ cs) [] h = omega arith
reach_parts (a ∷ cs) (r ∷ rs) h = let e = reach_parts cs rs (omega (arith, h)) in omega arith

-- the term at a place, and those after it
terms_more : (row : List ℤ) (ranges : List Interval) (i : ℕ) → i < length row → i < length ranges → terms_least (drop i row) (drop i ranges) ≡ least_of (get_or row i (pos 0)) (range_at ranges i) +ℤ terms_least (drop (suc i) row) (drop (suc i) ranges)
terms_more [] ranges i h l = absurd (omega (arith, h))
terms_more (c ∷ cs) [] i h l = absurd (omega (arith, l))
terms_more (a ∷ cs) (r ∷ rs) zero h l = refl
terms_more (a ∷ cs) (r ∷ rs) (suc i) h l = terms_more cs rs i (omega (arith, h)) (omega (arith, l))

reach_more : (row : List ℤ) (ranges : List Interval) (i : ℕ) → i < length row → i < length ranges → terms_reach (drop i row) (drop i ranges) ≡ unsigned_abs (get_or row i (pos 0)) * size_of (range_at ranges i) + terms_reach (drop (suc i) row) (drop (suc i) ranges)
reach_more [] ranges i h l = absurd (omega (arith, h))
reach_more (c ∷ cs) [] i h l = absurd (omega (arith, l))
reach_more (a ∷ cs) (r ∷ rs) zero h l = refl
reach_more (a ∷ cs) (r ∷ rs) (suc i) h l = reach_more cs rs i (omega (arith, h)) (omega (arith, l))

-- one term reaches no farther than the row
pub term_reach : (row : List ℤ) (ranges : List Interval) (i : ℕ) → i < length ranges → unsigned_abs (get_or row i (pos 0)) * size_of (range_at ranges i) ≤ reach row ranges
term_reach [] ranges i l = omega arith
term_reach (c ∷ cs) [] i l = absurd (omega (arith, l))
term_reach (a ∷ cs) (r ∷ rs) zero l = omega arith
term_reach (a ∷ cs) (r ∷ rs) (suc i) l = let e = term_reach cs rs i (omega (arith, l)) in omega arith

-- one term more is summed up
pub sum_more : (row : List ℤ) (ranges : List Interval) (i : ℕ) (whole sum next term : ℤ) → i < length row → i < length ranges → whole ≡ sum +ℤ terms_least (drop i row) (drop i ranges) → term ≡ least_of (get_or row i (pos 0)) (range_at ranges i)
    → next ≡ sum +ℤ term → whole ≡ next +ℤ terms_least (drop (i + 1) row) (drop (i + 1) ranges)
sum_more row ranges i whole sum next term h l left is e =
    let more = terms_more row ranges i h l in
    rw add-one (omega (arith, ints))

pub within_more : (row : List ℤ) (ranges : List Interval) (i whole : ℕ) (sum next term : ℤ) → i < length row → i < length ranges → unsigned_abs sum + terms_reach (drop i row) (drop i ranges) ≤ whole
    → unsigned_abs term ≤ unsigned_abs (get_or row i (pos 0)) * size_of (range_at ranges i) → next ≡ sum +ℤ term → unsigned_abs next + terms_reach (drop (i + 1) row) (drop (i + 1) ranges) ≤ whole
within_more row ranges i whole sum next term h l within bound e =
    let more = reach_more row ranges i h l in
    let size : unsigned_abs next ≤ unsigned_abs sum + unsigned_abs term = omega (arith, ints) in
    rw add-one (omega arith)

-- a sum so far is within what all terms reach
pub sum_bound : (row : List ℤ) (ranges : List Interval) (i whole : ℕ) (sum term : ℤ) → i < length row → i < length ranges → unsigned_abs sum + terms_reach (drop i row) (drop i ranges) ≤ whole
    → unsigned_abs term ≤ unsigned_abs (get_or row i (pos 0)) * size_of (range_at ranges i) → unsigned_abs sum + unsigned_abs term ≤ whole
sum_bound row ranges i whole sum term h l within bound = let more = reach_more row ranges i h l in omega arith

-- a range that leaves a term its least value leaves the row its own
pub least_kept : (row : List ℤ) (ranges : List Interval) (i : ℕ) (r : Interval) → i < length ranges → least_of (get_or row i (pos 0)) r ≡ least_of (get_or row i (pos 0)) (range_at ranges i) → least_sum row (set ranges i r) ≡ least_sum row ranges
least_kept [] ranges i r l e = refl
least_kept (c ∷ cs) [] i r l e = refl
least_kept (a ∷ cs) (s ∷ rs) zero r l e = ap (λ z. z +ℤ least_sum cs rs) e
least_kept (a ∷ cs) (s ∷ rs) (suc i) r l e = ap (λ z. least_of a s +ℤ z) (least_kept cs rs i r (omega (arith, l)) e)
