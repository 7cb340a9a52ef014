-- Bounds that may stand where they do give turns from 0 to the most that there may be.
use Rattle.std.proofs.Common.{◌≡◌, ℕ, ◌≤◌, Bool, true, false, List, [], ◌∷◌, ◌++◌, Option, Some, None, refl, sym, arith, ℤ, pos, negsuc, ◌≤ℤ◌, ◌-ℤ◌, ◌*ℤ◌, subst}
use Rattle.std.specs.Prelude.{int_le, unsigned_abs}
use Rattle.std.specs.Int.{int_max}
use Rattle.std.specs.Int.Signed.{le_z_yes}
use Rattle.std.proofs.lemmas.Float.{T_from_true}
use Rattle.std.proofs.lemmas.Int.{ints, clamps}
use Rattle.lt_macros.specs.Expanded.{Bounds, between, around}
use Rattle.lt_macros.specs.Failing.{unless}
use Rattle.lt_formula.specs.Limits.{most_turns}
use Rattle.lt_macros.specs.Placed.{place_of}
use Rattle.lt_expand.specs.Static.{Turns, bad_bounds, fit_together, least_and_most, numbers_of, passes, static_raw, turns_around, turns_between, turns_by, turns_of}
use Rattle.lt_term.proofs.Public.{left_of, right_of}

pub unless_none : {X : Type 0} (b : Bool) (x : X) → unless b x ≡ [] → b ≡ true
unless_none true x h = refl
unless_none false x h = let untrue : x ∷ [] ≡ [] = h in absurd (cc)

pub left_none : {X : Type 0} (xs ys : List X) → xs ++ ys ≡ [] → xs ≡ []
left_none [] ys h = refl
left_none (x ∷ xs) ys h = let untrue : x ∷ (xs ++ ys) ≡ [] = h in absurd (cc)

pub right_none : {X : Type 0} (xs ys : List X) → xs ++ ys ≡ [] → ys ≡ []
right_none [] ys h = h
right_none (x ∷ xs) ys h = let untrue : x ∷ (xs ++ ys) ≡ [] = h in absurd (cc)

pub le_from : (a b : ℤ) → int_le a b ≡ true → a ≤ℤ b
le_from a b h = le_z_yes (T_from_true (int_le a b) h)

-- what there may be of turns
pub record DoFit (t : Turns) : Type 0 where
  pub natural : pos 0 ≤ℤ t.least
  pub ordered : t.least ≤ℤ t.most
  pub few : t.most ≤ℤ pos most_turns

some_same : {X : Type 0} (x y : X) → Some x ≡ Some y → x ≡ y
some_same x y h = cc

between_fits : (l h : Option ℤ) (t : Turns) → passes (λ n. int_le (pos 0) n) l ≡ true → fit_together (turns_by turns_between l h) ≡ true → turns_by turns_between l h ≡ Some t → DoFit t
between_fits None h t p f e = let untrue : false ≡ true = p in absurd (cc)
between_fits (Some a) None t p f e = let untrue : None ≡ Some t = e in absurd (cc)
between_fits (Some a) (Some b) t p f e =
    subst DoFit (some_same (turns_between a b) t e) (record {
      natural = le_from (pos 0) a p;
      ordered = le_from a b (left_of (int_le a b) (int_le b (pos most_turns)) f);
      few = le_from b (pos most_turns) (right_of (int_le a b) (int_le b (pos most_turns)) f);
    })

not_below_zero : (z : ℤ) → pos 0 ≤ℤ int_max (pos 0) z
not_below_zero z = omega (arith, ints, clamps)

around_fits : (l h : Option ℤ) (t : Turns) → fit_together (turns_by turns_around l h) ≡ true → turns_by turns_around l h ≡ Some t → DoFit t
around_fits None h t f e = let untrue : None ≡ Some t = e in absurd (cc)
around_fits (Some a) None t f e = let untrue : None ≡ Some t = e in absurd (cc)
around_fits (Some a) (Some b) t f e =
    let made = turns_around a b in
    subst DoFit (some_same made t e) (record {
      natural = not_below_zero (a -ℤ pos 2 *ℤ b);
      ordered = le_from made.least made.most (left_of (int_le made.least made.most) (int_le made.most (pos most_turns)) f);
      few = le_from made.most (pos most_turns) (right_of (int_le made.least made.most) (int_le made.most (pos most_turns)) f);
    })

-- turns of bounds that may stand where they do
pub do_fit : (n : ℕ) (b : Bounds) (t : Turns) → bad_bounds n b ≡ [] → turns_of n b ≡ Some t → DoFit t
do_fit n (between l h) t none is =
    let first = unless (passes (λ r. int_le (pos 0) r) (static_raw n l)) (place_of l) in
    let second = unless (passes (λ r. int_le r (pos most_turns)) (static_raw n h)) (place_of h) in
    let third = unless (fit_together (turns_of n (between l h))) (place_of l) in
    between_fits (static_raw n l) (static_raw n h) t
    (unless_none (passes (λ r. int_le (pos 0) r) (static_raw n l)) (place_of l) (left_none first (second ++ third) none))
    (unless_none (fit_together (turns_of n (between l h))) (place_of l) (right_none second third (right_none first (second ++ third) none)))
    is
do_fit n (around a d) t none is =
    let first = unless (passes (λ r. true) (static_raw n a)) (place_of a) in
    let second = unless (passes (λ r. int_le (pos 0) r) (static_raw n d)) (place_of d) in
    let third = unless (fit_together (turns_of n (around a d))) (place_of a) in
    around_fits (static_raw n a) (static_raw n d) t
    (unless_none (fit_together (turns_of n (around a d))) (place_of a) (right_none second third (right_none first (second ++ third) none)))
    is

-- a number from 0 to a bound is no larger in size than that
pub small_size : (z : ℤ) (n : ℕ) → pos 0 ≤ℤ z → z ≤ℤ pos n → unsigned_abs z ≤ n
small_size (pos k) n low high = omega (arith, ints)
small_size (negsuc k) n low high = absurd (omega (arith, ints))

size_ordered : (a b : ℤ) → pos 0 ≤ℤ a → a ≤ℤ b → unsigned_abs a ≤ unsigned_abs b
size_ordered (pos m) (pos n) low h = omega (arith, ints)
size_ordered (pos m) (negsuc n) low h = absurd (omega (arith, ints))
size_ordered (negsuc m) b low h = absurd (omega (arith, ints))

ordered_numbers : (n : ℕ) (b : Bounds) (o : Option Turns) → bad_bounds n b ≡ [] → turns_of n b ≡ o → (numbers_of o).0 ≤ (numbers_of o).1
ordered_numbers n b None none is = omega arith
ordered_numbers n b (Some t) none is = let fit = do_fit n b t none is in size_ordered t.least t.most fit.natural fit.ordered

few_numbers : (n : ℕ) (b : Bounds) (o : Option Turns) → bad_bounds n b ≡ [] → turns_of n b ≡ o → (numbers_of o).1 ≤ most_turns
few_numbers n b None none is = omega arith
few_numbers n b (Some t) none is =
    let fit = do_fit n b t none is in
    let natural : pos 0 ≤ℤ t.most = omega (arith, ints, fit.natural, fit.ordered) in
    small_size t.most most_turns natural fit.few

-- the least number of turns of a counter is no more than the greatest
pub counter_ordered : (n : ℕ) (b : Bounds) (made : ℕ × ℕ) → bad_bounds n b ≡ [] → made ≡ least_and_most n b → made.0 ≤ made.1
counter_ordered n b made none e = subst (λ p. p.0 ≤ p.1) (sym e) (ordered_numbers n b (turns_of n b) none refl)

-- and that is no more than there may be
pub counter_few : (n : ℕ) (b : Bounds) (made : ℕ × ℕ) → bad_bounds n b ≡ [] → made ≡ least_and_most n b → made.1 ≤ most_turns
counter_few n b made none e = subst (λ p. p.1 ≤ most_turns) (sym e) (few_numbers n b (turns_of n b) none refl)
