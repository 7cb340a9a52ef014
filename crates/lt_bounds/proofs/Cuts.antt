-- One term of a row: its least value, and the range that it leaves.
use Rattle.std.proofs.Common.{◌≡◌, ℕ, zero, suc, ◌*◌, ◌<◌, ◌≤◌, ◌^◌, Bool, true, false, cond, Some, None, ℤ, pos, negsuc, neg_ℤ, ◌*ℤ◌, ◌≤ℤ◌, ◌<ℤ◌, unsigned_abs, to_z, of_z, refl, ap, sym, ◌∙◌, arith}
use Rattle.std.specs.Prelude.{int_lt, FitsSigned, if◌then◌else◌}
use Rattle.std.specs.Int.{w128, int_min, int_max, int_div_euclid}
use Rattle.std.proofs.lemmas.Nat.{mul-le}
use Rattle.std.proofs.lemmas.Int.{ints, to_z-of_z, unsigned_abs-mul, fits_signed_mul}
use Rattle.lt_bounds.specs.Tightening.{least_of, greatest_of, cut, where_some}
use Rattle.lt_num.specs.declared.interval.Interval.{Interval}

lt_true : (a b : ℤ) → a <ℤ b → int_lt a b ≡ true
lt_true a b h = grind (arith, ints)

lt_false : (a b : ℤ) → b ≤ℤ a → int_lt a b ≡ false
lt_false a b h = grind (arith, ints)

-- the high end of a range is q where that is smaller
min_is : (high q : ℤ) → q <ℤ high → int_min high q ≡ q
min_is high q h = ap (λ b. cond b q high) (lt_true q high h)

min_kept : (high q : ℤ) → high ≤ℤ q → int_min high q ≡ high
min_kept high q h = ap (λ b. cond b q high) (lt_false q high h)

max_is : (low q : ℤ) → low <ℤ q → int_max low q ≡ q
max_is low q h = ap (λ b. cond b low q) (lt_false q low (omega (arith, ints)))

max_kept : (low q : ℤ) → q ≤ℤ low → int_max low q ≡ low
max_kept low q h = by_lt (int_lt q low) refl
  where
    same : int_lt q low ≡ false → q ≡ low
    same e = grind (arith, ints)

    by_lt : (b : Bool) → int_lt q low ≡ b → cond b low q ≡ low
    by_lt true e = refl
    by_lt false e = same e

where_none : (low high : ℤ) → high <ℤ low → where_some (record { low = low; high = high }) ≡ None
where_none low high h = ap (λ b. if b then None else Some (record { low = low; high = high })) (lt_true high low h)

where_there : (low high : ℤ) → low ≤ℤ high → where_some (record { low = low; high = high }) ≡ Some (record { low = low; high = high })
where_there low high h = ap (λ b. if b then None else Some (record { low = low; high = high })) (lt_false high low h)

-- the range that a coefficient leaves, by its sign
cut_high : (a m low high q : ℤ) → pos 0 <ℤ a → q ≡ int_div_euclid (neg_ℤ m) a → cut a m (record { low = low; high = high }) ≡ record { low = low; high = int_min high q }
cut_high (pos zero) m low high q h e = absurd (omega (arith, ints))
cut_high (pos (suc a)) m low high q h e = ap (λ z. record { low = low; high = int_min high z }) (sym e)
cut_high (negsuc a) m low high q h e = absurd (omega (arith, ints))

cut_low : (a m low high q : ℤ) → a <ℤ pos 0 → q ≡ int_div_euclid (neg_ℤ m) a → cut a m (record { low = low; high = high }) ≡ record { low = int_max low q; high = high }
cut_low (pos a) m low high q h e = absurd (omega (arith, ints))
cut_low (negsuc a) m low high q h e = ap (λ z. record { low = int_max low z; high = high }) (sym e)

pub cut_high_none : (a m low high q : ℤ) → pos 0 <ℤ a → q ≡ int_div_euclid (neg_ℤ m) a → q <ℤ low → low ≤ℤ high → where_some (cut a m (record { low = low; high = high })) ≡ None
cut_high_none a m low high q h e under some =
    ap where_some (cut_high a m low high q h e ∙ ap (λ z. record { low = low; high = z }) (min_is high q (omega (arith, ints)))) ∙ where_none low q under

pub cut_high_is : (a m low high q : ℤ) → pos 0 <ℤ a → q ≡ int_div_euclid (neg_ℤ m) a → low ≤ℤ q → q <ℤ high → where_some (cut a m (record { low = low; high = high })) ≡ Some (record { low = low; high = q })
cut_high_is a m low high q h e over under =
    ap where_some (cut_high a m low high q h e ∙ ap (λ z. record { low = low; high = z }) (min_is high q under)) ∙ where_there low q over

pub cut_high_kept : (a m low high q : ℤ) → pos 0 <ℤ a → q ≡ int_div_euclid (neg_ℤ m) a → low ≤ℤ high → high ≤ℤ q → where_some (cut a m (record { low = low; high = high })) ≡ Some (record { low = low; high = high })
cut_high_kept a m low high q h e some over =
    ap where_some (cut_high a m low high q h e ∙ ap (λ z. record { low = low; high = z }) (min_kept high q over)) ∙ where_there low high some

pub cut_low_none : (a m low high q : ℤ) → a <ℤ pos 0 → q ≡ int_div_euclid (neg_ℤ m) a → high <ℤ q → low ≤ℤ high → where_some (cut a m (record { low = low; high = high })) ≡ None
cut_low_none a m low high q h e over some =
    ap where_some (cut_low a m low high q h e ∙ ap (λ z. record { low = z; high = high }) (max_is low q (omega (arith, ints)))) ∙ where_none q high over

pub cut_low_is : (a m low high q : ℤ) → a <ℤ pos 0 → q ≡ int_div_euclid (neg_ℤ m) a → low <ℤ q → q ≤ℤ high → where_some (cut a m (record { low = low; high = high })) ≡ Some (record { low = q; high = high })
cut_low_is a m low high q h e over under =
    ap where_some (cut_low a m low high q h e ∙ ap (λ z. record { low = z; high = high }) (max_is low q over)) ∙ where_there q high under

pub cut_low_kept : (a m low high q : ℤ) → a <ℤ pos 0 → q ≡ int_div_euclid (neg_ℤ m) a → low ≤ℤ high → q ≤ℤ low → where_some (cut a m (record { low = low; high = high })) ≡ Some (record { low = low; high = high })
cut_low_kept a m low high q h e some under =
    ap where_some (cut_low a m low high q h e ∙ ap (λ z. record { low = z; high = high }) (max_kept low q under)) ∙ where_there low high some

pub cut_zero : (a m low high : ℤ) → a ≡ pos 0 → low ≤ℤ high → where_some (cut a m (record { low = low; high = high })) ≡ Some (record { low = low; high = high })
cut_zero (pos zero) m low high e some = where_there low high some
cut_zero (pos (suc a)) m low high e some = absurd (omega (arith, ints))
cut_zero (negsuc a) m low high e some = absurd (omega (arith, ints))

-- the least value of a term, by the sign of its coefficient
pub least_high : (a low high : ℤ) → a <ℤ pos 0 → least_of a (record { low = low; high = high }) ≡ a *ℤ high
least_high (pos a) low high h = absurd (omega (arith, ints))
least_high (negsuc a) low high h = refl

pub least_low : (a low high : ℤ) → pos 0 ≤ℤ a → least_of a (record { low = low; high = high }) ≡ a *ℤ low
least_low (pos a) low high h = refl
least_low (negsuc a) low high h = absurd (omega (arith, ints))

-- and the greatest one
pub greatest_low : (a low high : ℤ) → a <ℤ pos 0 → greatest_of a (record { low = low; high = high }) ≡ a *ℤ low
greatest_low (pos a) low high h = absurd (omega (arith, ints))
greatest_low (negsuc a) low high h = refl

pub greatest_high : (a low high : ℤ) → pos 0 ≤ℤ a → greatest_of a (record { low = low; high = high }) ≡ a *ℤ high
greatest_high (pos a) low high h = refl
greatest_high (negsuc a) low high h = absurd (omega (arith, ints))

-- a product of numbers within these sizes
pub product_bound : (a v : ℤ) (n : ℕ) → unsigned_abs v ≤ n → unsigned_abs (a *ℤ v) ≤ unsigned_abs a * n
product_bound a v n h = let e = unsigned_abs-mul a v in let p = mul-le (unsigned_abs a) (unsigned_abs v) (unsigned_abs a) n (omega arith) h in omega arith

pub product_fits : (x y a v : ℤ) (n : ℕ) → x ≡ a → y ≡ v → unsigned_abs v ≤ n → unsigned_abs a * n < 2 ^ 126 → FitsSigned w128 (x *ℤ y)
product_fits x y a v n ea ev h l = rw (ea, ev) (fits_signed_mul w128 a v (unsigned_abs a) n (omega arith) h (omega (arith, l)))

pub product_kept : (x y a v : ℤ) (n : ℕ) → x ≡ a → y ≡ v → unsigned_abs v ≤ n → unsigned_abs a * n < 2 ^ 126 → to_z w128 (of_z w128 (x *ℤ y)) ≡ a *ℤ v
product_kept x y a v n ea ev h l = rw (ea, ev) (to_z-of_z w128 (a *ℤ v) (fits_signed_mul w128 a v (unsigned_abs a) n (omega arith) h (omega (arith, l))))

-- a quotient of casts
pub quotient_is : (q x y m a : ℤ) → q ≡ int_div_euclid (neg_ℤ x) y → x ≡ m → y ≡ a → q ≡ int_div_euclid (neg_ℤ m) a
quotient_is q x y m a e f g = e ∙ ap (λ z. int_div_euclid (neg_ℤ z) y) f ∙ ap (λ z. int_div_euclid (neg_ℤ m) z) g

-- a cut leaves its term the least value
pub cut_least : (a m : ℤ) (range : Interval) → least_of a (cut a m range) ≡ least_of a range
cut_least (pos zero) m range = refl
cut_least (pos (suc a)) m range = refl
cut_least (negsuc a) m range = refl

-- a range that has a number is itself
pub where_is : (range r : Interval) → where_some range ≡ Some r → range ≡ r
where_is range r e = by_lt (int_lt range.high range.low) e
  where
    by_lt : (b : Bool) → (if b then None else Some range) ≡ Some r → range ≡ r
    by_lt true e = absurd (cc)
    by_lt false e = cc
