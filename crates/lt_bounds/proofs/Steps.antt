-- A row takes one variable more.
use Rattle.std.proofs.Common.{◌≡◌, ℕ, zero, suc, ◌<◌, ◌≤◌, Bool, true, false, List, [], ◌∷◌, length, get_or, set, Some, None, max, ℤ, pos, ◌-ℤ◌, ◌≤ℤ◌, unsigned_abs, refl, ap, sym, ◌∙◌, arith}
use Rattle.std.specs.Prelude.{not, ◌&&◌, if◌then◌else◌}
use Rattle.std.proofs.lemmas.Int.{ints}
use Rattle.std.proofs.lemmas.Nat.{mul-le}
use Rattle.std.specs.Ordering.{int_eq}
use Rattle.std.proofs.lemmas.Bool.Decides.{Decides-int_eq}
use Rattle.std.specs.declared.option.Option.{Option}
use Rattle.lt_bounds.specs.Rows.{reach, ReachesAll}
use Rattle.lt_bounds.specs.Tightening.{Outcome, empty, narrowed, least_of, least_sum, others_least, cut, where_some, variables_taken, is_broken, row_taken}
use Rattle.lt_bounds.specs.Ranges.{size_of, AreSome, IsNarrower, range_at}
use Rattle.lt_num.specs.declared.interval.Interval.{Interval}

-- the first of two outcomes, where a range is without a number
stops : (b : Bool) (range : Interval) (one other : Outcome) → (if b then None else Some range) ≡ None → (if b then one else other) ≡ one
stops true range one other e = refl
stops false range one other e = absurd (cc)

goes_on : (b : Bool) (range r : Interval) (one : Outcome) (other : Interval → Outcome) → (if b then None else Some range) ≡ Some r → (if b then one else other range) ≡ other r
goes_on true range r one other e = absurd (cc)
goes_on false range r one other e = ap other cc

-- a variable's range would be without a number
pub taken_none : (row : List ℤ) (i n k : ℕ) (ranges : List Interval) (others : ℤ) → n ≡ suc k → others ≡ others_least row ranges i → where_some (cut (get_or row i (pos 0)) others (range_at ranges i)) ≡ None
    → variables_taken row i n ranges ≡ empty ranges
taken_none row i n k ranges others e o none =
    ap (λ m. variables_taken row i m ranges) e
    ∙ stops _ _ _ _ (ap (λ z. where_some (cut (get_or row i (pos 0)) z (range_at ranges i))) (sym o) ∙ none)

-- it is cut
pub taken_some : (row : List ℤ) (i n k : ℕ) (ranges : List Interval) (others : ℤ) (r : Interval) → n ≡ suc k → others ≡ others_least row ranges i → where_some (cut (get_or row i (pos 0)) others (range_at ranges i)) ≡ Some r
    → variables_taken row i n ranges ≡ variables_taken row (suc i) k (set ranges i r)
taken_some row i n k ranges others r e o some =
    ap (λ m. variables_taken row i m ranges) e
    ∙ goes_on _ _ r _ (λ range. variables_taken row (suc i) k (set ranges i range)) (ap (λ z. where_some (cut (get_or row i (pos 0)) z (range_at ranges i))) (sym o) ∙ some)

-- ranges with numbers are narrower than themselves
pub narrower_same : (ranges : List Interval) → AreSome ranges → IsNarrower ranges ranges
narrower_same [] h = tt
narrower_same (r ∷ rs) h = ((omega (arith, ints), h.0, omega (arith, ints)), narrower_same rs h.1)

-- narrower ones with one more cut
pub narrower_set : (old ranges : List Interval) (i : ℕ) (r : Interval) → IsNarrower old ranges → ((range_at ranges i).low ≤ℤ r.low) × (r.low ≤ℤ r.high) × (r.high ≤ℤ (range_at ranges i).high) → IsNarrower old (set ranges i r)
narrower_set [] [] i r h k = h
narrower_set [] (s ∷ rs) i r h k = absurd h
narrower_set (o ∷ os) [] i r h k = h
narrower_set (o ∷ os) (s ∷ rs) zero r h k = let a = h.0 in ((omega (arith, ints, k.0, a.0), k.1, omega (arith, ints, k.2, a.2)), h.1)
narrower_set (o ∷ os) (s ∷ rs) (suc i) r h k = (h.0, narrower_set os rs i r h.1 k)

-- narrower than narrower ones
pub narrower_more : (a b c : List Interval) → IsNarrower a b → IsNarrower b c → IsNarrower a c
narrower_more [] [] [] h k = tt
narrower_more [] [] (r ∷ c) h k = absurd k
narrower_more [] (r ∷ b) c h k = absurd h
narrower_more (r ∷ a) [] c h k = absurd h
narrower_more (r ∷ a) (s ∷ b) [] h k = absurd k
narrower_more (r ∷ a) (s ∷ b) (t ∷ c) h k = let x = h.0 in let y = k.0 in ((omega (arith, ints, x.0, y.0), y.1, omega (arith, ints, x.2, y.2)), narrower_more a b c h.1 k.1)

pub narrower_length : (a b : List Interval) → IsNarrower a b → length b ≡ length a
narrower_length [] [] h = refl
narrower_length [] (r ∷ b) h = absurd h
narrower_length (r ∷ a) [] h = absurd h
narrower_length (r ∷ a) (s ∷ b) h = ap suc (narrower_length a b h.1)

pub narrower_some : (a b : List Interval) → IsNarrower a b → AreSome b
narrower_some [] [] h = tt
narrower_some [] (r ∷ b) h = absurd h
narrower_some (r ∷ a) [] h = absurd h
narrower_some (r ∷ a) (s ∷ b) h = (h.0.1, narrower_some a b h.1)

-- the size of a number between two others
between : (a b v : ℤ) → a ≤ℤ v → v ≤ℤ b → unsigned_abs v ≤ max (unsigned_abs a) (unsigned_abs b)
between a b v h k = omega (arith, ints)

size_less : (r s : Interval) → (r.low ≤ℤ s.low) × (s.low ≤ℤ s.high) × (s.high ≤ℤ r.high) → size_of s ≤ size_of r
size_less r s h =
    let low = between r.low r.high s.low h.0 (omega (arith, ints, h.1, h.2)) in
    let high = between r.low r.high s.high (omega (arith, ints, h.0, h.1)) h.2 in
    omega arith

-- a row reaches no farther over narrower ranges
pub reach_less : (row : List ℤ) (a b : List Interval) → IsNarrower a b → reach row b ≤ reach row a
reach_less [] a b h = omega arith
reach_less (c ∷ cs) [] [] h = omega arith
reach_less (c ∷ cs) [] (r ∷ b) h = absurd h
reach_less (c ∷ cs) (r ∷ a) [] h = absurd h
reach_less (c ∷ cs) (r ∷ a) (s ∷ b) h =
    let size = mul-le (unsigned_abs c) (size_of s) (unsigned_abs c) (size_of r) (omega arith) (size_less r s h.0) in
    let rest = reach_less cs a b h.1 in
    omega arith

pub reaches_less : (rows : List (List ℤ)) (a b : List Interval) → IsNarrower a b → ReachesAll rows a → ReachesAll rows b
reaches_less [] a b h k = tt
reaches_less (row ∷ rows) a b h k = let l = reach_less row a b h in let m = k.0 in (omega arith, reaches_less rows a b h k.1)

-- each range has a number
pub some_at : (ranges : List Interval) (i : ℕ) → AreSome ranges → i < length ranges → (range_at ranges i).low ≤ℤ (range_at ranges i).high
some_at [] i h l = absurd (omega (arith, l))
some_at (r ∷ rs) zero h l = h.0
some_at (r ∷ rs) (suc i) h l = some_at rs i h.1 (omega (arith, l))

-- a row without coefficients
pub row_broken : (row : List ℤ) (ranges : List Interval) (n : ℕ) → n ≡ length ranges → is_broken row n ≡ true → row_taken row ranges ≡ empty ranges
unfolding row_taken
row_broken row ranges n e h = ap (λ b. if b then empty ranges else variables_taken row 0 (length ranges) ranges) (ap (is_broken row) (sym e) ∙ h)

pub row_walked : (row : List ℤ) (ranges : List Interval) (n : ℕ) → n ≡ length ranges → is_broken row n ≡ false → row_taken row ranges ≡ variables_taken row 0 (length ranges) ranges
unfolding row_taken
row_walked row ranges n e h = ap (λ b. if b then empty ranges else variables_taken row 0 (length ranges) ranges) (ap (is_broken row) (sym e) ∙ h)

-- all variables were taken
pub taken_all : (row : List ℤ) (i n : ℕ) (ranges : List Interval) → n ≡ 0 → variables_taken row i n ranges ≡ narrowed ranges
taken_all row i n ranges e = ap (λ m. variables_taken row i m ranges) e

-- a range that is written where it stands changes nothing
pub set_same : (ranges : List Interval) (i : ℕ) (r : Interval) → r ≡ range_at ranges i → set ranges i r ≡ ranges
set_same [] i r e = refl
set_same (s ∷ rs) zero r e = ap (λ x. x ∷ rs) e
set_same (s ∷ rs) (suc i) r e = ap (λ xs. s ∷ xs) (set_same rs i r e)

-- a range that was cut by casts of a coefficient and of a row's least value
pub cut_is : (row : List ℤ) (ranges : List Interval) (i : ℕ) (a least : ℤ) (o : Option Interval) → a ≡ get_or row i (pos 0) → least ≡ least_sum row ranges → where_some (cut a (least -ℤ least_of a (range_at ranges i)) (range_at ranges i)) ≡ o
    → where_some (cut (get_or row i (pos 0)) (others_least row ranges i) (range_at ranges i)) ≡ o
cut_is row ranges i a least o e f h =
    ap (λ z. where_some (cut z (least_sum row ranges -ℤ least_of z (range_at ranges i)) (range_at ranges i))) (sym e)
    ∙ ap (λ z. where_some (cut a (z -ℤ least_of a (range_at ranges i)) (range_at ranges i))) (sym f) ∙ h

-- ranges with equal ends
pub same_range : (a b : Interval) (differ : Bool) → differ ≡ not (int_eq a.low b.low && int_eq a.high b.high) → differ ≡ false → a ≡ b
same_range a b differ e f = by_ends (int_eq a.low b.low) (int_eq a.high b.high) refl refl (sym e ∙ f)
  where
    by_ends : (x y : Bool) → int_eq a.low b.low ≡ x → int_eq a.high b.high ≡ y → not (x && y) ≡ false → a ≡ b
    by_ends true true p q h = let low : a.low ≡ b.low = (Decides-int_eq _ _).0 p in let high : a.high ≡ b.high = (Decides-int_eq _ _).0 q in ap (λ z. record { low = z; high = a.high }) low ∙ ap (λ z. record { low = b.low; high = z }) high
    by_ends true false p q h = absurd (cc)
    by_ends false y p q h = absurd (cc)
