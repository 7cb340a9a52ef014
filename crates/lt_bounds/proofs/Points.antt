-- Points of ranges, through tightening.
use Rattle.std.proofs.Common.{◌≡◌, ℕ, zero, suc, ◌+◌, ◌<◌, Bool, true, false, cond, List, [], ◌∷◌, length, get_or, set, ℤ, pos, negsuc, neg_ℤ, ◌+ℤ◌, ◌*ℤ◌, ◌≤ℤ◌, ◌<ℤ◌, refl, arith}
use Rattle.std.specs.Prelude.{int_lt, if◌then◌else◌}
use Rattle.std.specs.Int.{int_div_euclid}
use Rattle.std.proofs.Math.Nat.{mul-le-mul_left}
use Rattle.std.proofs.lemmas.Nat.{le-div, div_below}
use Rattle.std.proofs.lemmas.List.{length-set}
use Rattle.std.proofs.lemmas.Int.{ints}
use Rattle.lt_num.specs.Interval.{IsWithin}
use Rattle.lt_bounds.specs.Rows.{row_at, SatisfyAll}
use Rattle.lt_bounds.specs.Tightening.{Outcome, empty, narrowed, and_then, least_of, least_sum, greatest_of, others_least, cut, variables_taken, is_broken, row_taken, rows_taken, passes, Keeps, NoPointIsLost}
use Rattle.lt_formula.specs.Box.{IsInBox}
use Rattle.lt_bounds.specs.Ranges.{range_at}
use Rattle.lt_num.specs.declared.interval.Interval.{Interval}

lt_false : (a b : ℤ) → b ≤ℤ a → int_lt a b ≡ false
lt_false a b h = grind (arith, ints)

lt_from : (c : ℤ) → int_lt (pos 0) c ≡ true → pos 0 <ℤ c
lt_from c h = grind (arith, ints)

-- a positive coefficient times a value that is at least another one
pub mul_up : (a : ℕ) (v w : ℤ) → v ≤ℤ w → (pos a *ℤ v) ≤ℤ (pos a *ℤ w)
mul_up a (pos v) (pos w) h = let m = mul-le-mul_left {m = v} {n = w} a (omega (arith, ints)) in omega (arith, ints)
mul_up a (pos v) (negsuc w) h = absurd (omega (arith, ints))
mul_up a (negsuc v) (pos w) h = omega (arith, ints)
mul_up a (negsuc v) (negsuc w) h = let m = mul-le-mul_left {m = suc w} {n = suc v} a (omega (arith, ints)) in omega (arith, ints)

pub mul_down : (a : ℕ) (v w : ℤ) → v ≤ℤ w → (negsuc a *ℤ w) ≤ℤ (negsuc a *ℤ v)
mul_down a (pos v) (pos w) h = let m = mul-le-mul_left {m = v} {n = w} (suc a) (omega (arith, ints)) in omega (arith, ints)
mul_down a (pos v) (negsuc w) h = absurd (omega (arith, ints))
mul_down a (negsuc v) (pos w) h = omega (arith, ints)
mul_down a (negsuc v) (negsuc w) h = let m = mul-le-mul_left {m = suc w} {n = suc v} (suc a) (omega (arith, ints)) in omega (arith, ints)

-- a term is at least its least value
pub term_least : (a v : ℤ) (range : Interval) → IsWithin range v → least_of a range ≤ℤ (a *ℤ v)
term_least (pos a) v range w = mul_up a range.low v w.0
term_least (negsuc a) v range w = mul_down a v range.high w.1

-- so is a row
pub row_least : (row : List ℤ) (ranges : List Interval) (point : List ℤ) → IsInBox ranges point → least_sum row ranges ≤ℤ row_at row point
row_least [] ranges point p = omega (arith, ints)
row_least (c ∷ cs) [] [] p = omega (arith, ints)
row_least (c ∷ cs) [] (v ∷ vs) p = absurd p
row_least (c ∷ cs) (r ∷ rs) [] p = absurd p
row_least (c ∷ cs) (r ∷ rs) (v ∷ vs) p =
    let head = term_least c v r p.0 in
    let tail = row_least cs rs vs p.1 in
    omega (arith, ints)

-- a term is at most its greatest value
pub term_greatest : (a v : ℤ) (range : Interval) → IsWithin range v → (a *ℤ v) ≤ℤ greatest_of a range
term_greatest (pos a) v range w = mul_up a v range.high w.1
term_greatest (negsuc a) v range w = mul_down a range.low v w.0

-- and a row whose other terms have their least values
others_under : (row : List ℤ) (ranges : List Interval) (point : List ℤ) (i : ℕ) → IsInBox ranges point → i < length ranges → ((get_or row i (pos 0) *ℤ get_or point i (pos 0)) +ℤ others_least row ranges i) ≤ℤ row_at row point
others_under [] ranges point i p l = omega (arith, ints)
others_under (c ∷ cs) [] point i p l = absurd (omega (arith, l))
others_under (c ∷ cs) (r ∷ rs) [] i p l = absurd p
others_under (c ∷ cs) (r ∷ rs) (v ∷ vs) zero p l = let tail = row_least cs rs vs p.1 in omega (arith, ints)
others_under (c ∷ cs) (r ∷ rs) (v ∷ vs) (suc i) p l =
    let head = term_least c v r p.0 in
    let tail = others_under cs rs vs i p.1 (omega (arith, l)) in
    omega (arith, ints)

-- a value under a bound rounded down
pub under : (a : ℕ) (v x : ℤ) → (pos (suc a) *ℤ v) ≤ℤ x → v ≤ℤ int_div_euclid x (pos (suc a))
under a (pos v) (pos x) h = let d = le-div v x (suc a) (omega arith) (omega (arith, ints)) in omega (arith, ints)
under a (pos v) (negsuc x) h = absurd (omega (arith, ints))
under a (negsuc v) (pos x) h = omega (arith, ints)
under a (negsuc v) (negsuc x) h = let d = div_below x (suc a) (suc v) (omega arith) (omega (arith, ints)) in omega (arith, ints)

-- and one over a bound rounded up
over : (a : ℕ) (v x : ℤ) → (negsuc a *ℤ v) ≤ℤ x → int_div_euclid x (negsuc a) ≤ℤ v
over a (pos v) (pos x) h = omega (arith, ints)
over a (pos v) (negsuc x) h = let d = div_below x (suc a) v (omega arith) (omega (arith, ints)) in omega (arith, ints)
over a (negsuc v) (pos x) h = let d = le-div (suc v) x (suc a) (omega arith) (omega (arith, ints)) in omega (arith, ints)
over a (negsuc v) (negsuc x) h = absurd (omega (arith, ints))

at_most_min : (v high q : ℤ) (b : Bool) → v ≤ℤ high → v ≤ℤ q → v ≤ℤ cond b q high
at_most_min v high q true h k = k
at_most_min v high q false h k = h

at_least_max : (v low q : ℤ) (b : Bool) → low ≤ℤ v → q ≤ℤ v → cond b low q ≤ℤ v
at_least_max v low q true h k = h
at_least_max v low q false h k = k

-- a value stays inside where a term leaves it
pub inside_cut : (a m v : ℤ) (range : Interval) → IsWithin range v → ((a *ℤ v) +ℤ m) ≤ℤ pos 0 → IsWithin (cut a m range) v
inside_cut (pos zero) m v range w h = w
inside_cut (pos (suc a)) m v range w h = (w.0, at_most_min v range.high _ _ w.1 (under a v (neg_ℤ m) (omega (arith, ints))))
inside_cut (negsuc a) m v range w h = (at_least_max v range.low _ _ w.0 (over a v (neg_ℤ m) (omega (arith, ints))), w.1)

-- one number of a point
pub point_at : (ranges : List Interval) (point : List ℤ) (i : ℕ) → IsInBox ranges point → i < length ranges → IsWithin (range_at ranges i) (get_or point i (pos 0))
point_at [] point i p l = absurd (omega (arith, l))
point_at (r ∷ rs) [] i p l = absurd p
point_at (r ∷ rs) (v ∷ vs) zero p l = p.0
point_at (r ∷ rs) (v ∷ vs) (suc i) p l = point_at rs vs i p.1 (omega (arith, l))

point_set : (ranges : List Interval) (point : List ℤ) (i : ℕ) (r : Interval) → IsInBox ranges point → IsWithin r (get_or point i (pos 0)) → IsInBox (set ranges i r) point
point_set [] point i r p w = p
point_set (s ∷ rs) [] i r p w = absurd p
point_set (s ∷ rs) (v ∷ vs) zero r p w = (w, p.1)
point_set (s ∷ rs) (v ∷ vs) (suc i) r p w = (p.0, point_set rs vs i r p.1 w)

keeps_by : (point : List ℤ) (b : Bool) (one other : Outcome) → b ≡ false → Keeps point other → Keeps point (if b then one else other)
keeps_by point true one other e k = absurd (cc)
keeps_by point false one other e k = k

-- a range with a number isn't without one
not_lost : (range : Interval) (v : ℤ) → IsWithin range v → int_lt range.high range.low ≡ false
not_lost range v w = let low = w.0 in let high = w.1 in let h : range.low ≤ℤ range.high = omega (arith, ints) in lt_false range.high range.low h

-- each variable that a row takes keeps the point
variables_keep : (row : List ℤ) (point : List ℤ) (i n : ℕ) (ranges : List Interval) → IsInBox ranges point → row_at row point ≤ℤ pos 0 → i + n ≡ length ranges → Keeps point (variables_taken row i n ranges)
variables_keep row point i zero ranges p h e = p
variables_keep row point i (suc n) ranges p h e =
    let l : i < length ranges = omega arith in
    let low = others_under row ranges point i p l in
    let w = inside_cut (get_or row i (pos 0)) (others_least row ranges i) (get_or point i (pos 0)) (range_at ranges i) (point_at ranges point i p l) (omega (arith, ints)) in
    let r = cut (get_or row i (pos 0)) (others_least row ranges i) (range_at ranges i) in
    keeps_by point _ _ _ (not_lost r (get_or point i (pos 0)) w)
    (variables_keep row point (suc i) n (set ranges i r) (point_set ranges point i r p w) h (omega (arith, e, length-set ranges i r)))

-- a row without coefficients and with a constant over 0 has no point
broken_over : (row : List ℤ) (ranges : List Interval) (point : List ℤ) → IsInBox ranges point → is_broken row (length ranges) ≡ true → pos 0 <ℤ row_at row point
broken_over [] ranges point p b = absurd (cc)
broken_over (c ∷ cs) [] [] p b = lt_from c b
broken_over (c ∷ cs) [] (v ∷ vs) p b = absurd p
broken_over (c ∷ cs) (r ∷ rs) [] p b = absurd p
broken_over (pos zero ∷ cs) (r ∷ rs) (v ∷ vs) p b = let rest = broken_over cs rs vs p.1 b in omega (arith, ints)
broken_over (pos (suc a) ∷ cs) (r ∷ rs) (v ∷ vs) p b = absurd (cc)
broken_over (negsuc a ∷ cs) (r ∷ rs) (v ∷ vs) p b = absurd (cc)

row_keeps : (row : List ℤ) (point : List ℤ) (ranges : List Interval) → IsInBox ranges point → row_at row point ≤ℤ pos 0 → Keeps point (row_taken row ranges)
unfolding row_taken
row_keeps row point ranges p h = by_broken (is_broken row (length ranges)) refl
  where
    over_and_under : is_broken row (length ranges) ≡ true → ⊥
    over_and_under b = let s = broken_over row ranges point p b in omega (arith, ints)

    by_broken : (b : Bool) → is_broken row (length ranges) ≡ b → Keeps point (if b then empty ranges else variables_taken row 0 (length ranges) ranges)
    by_broken true b = over_and_under b
    by_broken false b = variables_keep row point 0 (length ranges) ranges p h (omega arith)

then_keeps : (point : List ℤ) (o : Outcome) (next : List Interval → Outcome) → Keeps point o → ((ranges : List Interval) → IsInBox ranges point → Keeps point (next ranges)) → Keeps point (and_then o next)
then_keeps point (empty ranges) next k f = absurd k
then_keeps point (narrowed ranges) next k f = f ranges k

rows_keep : (rows : List (List ℤ)) (point : List ℤ) (ranges : List Interval) → IsInBox ranges point → SatisfyAll rows point → Keeps point (rows_taken rows ranges)
rows_keep [] point ranges p s = p
rows_keep (row ∷ rows) point ranges p s = then_keeps point (row_taken row ranges) (rows_taken rows) (row_keeps row point ranges p s.0) (λ after q. rows_keep rows point after q s.1)

passes_keep : (n : ℕ) (rows : List (List ℤ)) (point : List ℤ) (ranges : List Interval) → IsInBox ranges point → SatisfyAll rows point → Keeps point (passes n rows ranges)
unfolding passes
passes_keep zero rows point ranges p s = p
passes_keep (suc more) rows point ranges p s = then_keeps point (rows_taken rows ranges) (passes more rows) (rows_keep rows point ranges p s) (λ after q. passes_keep more rows point after q s)

pub no_point_is_lost : NoPointIsLost
no_point_is_lost rows ranges point p s = passes_keep 8 rows point ranges p s
