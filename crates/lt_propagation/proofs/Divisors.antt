-- Multiples of a divisor, and sums that are known but for them.
use Rattle.std.proofs.Common.{◌≡◌, ◌*◌, ◌<◌, ◌≤◌, false, true, Bool, ◌^◌, ℕ, zero, suc, List, [], ◌∷◌, take, get_or, ℤ, pos, negsuc, unsigned_abs, int_div, int_rem, to_z, of_z, ◌+ℤ◌, ◌-ℤ◌, ◌*ℤ◌, ◌<ℤ◌, ◌≤ℤ◌, refl, ap, sym, ◌∙◌, arith}
use Rattle.std.specs.Int.{w128}
use Rattle.std.proofs.Math.IntN.{*ℤ_comm, *ℤ-zero, pred_ℤ-*ℤ, suc_ℤ-*ℤ, zero-*ℤ}
use Rattle.std.proofs.Math.Nat.{mul-le-mul, mul-le-mul_left}
use Rattle.std.proofs.lemmas.Int.{by_lt_z, fits_signed_mul, ints, quot-rem, rem_below, to_z-of_z, unsigned_abs-mul}
use Rattle.std.proofs.lemmas.List.{get_or_past}
use Rattle.lt_num.proofs.Public.{difference_times, sum_times, times_difference, times_sum}
use Rattle.lt_propagation.specs.inner.Dividing.{IsMultiple, IsSumBut}

-- what has no remainder is a multiple
pub multiple_by_rem : (a d : ℤ) → int_rem a d ≡ pos 0 → IsMultiple d a
multiple_by_rem a d h =
    let all = quot-rem a d in
    let swap = *ℤ_comm (int_div a d) d in
    record { times = int_div a d; is = omega (arith, ints, all, swap, h) }

none_under : (d k : ℕ) → d * k < d → k ≡ 0
none_under d zero h = refl
none_under d (suc k) h = absurd (omega (arith, h, mul-le-mul_left {m = 1} {n = suc k} d (omega arith)))

-- a multiple has no remainder
pub rem_by_multiple : (a d : ℤ) → pos 0 <ℤ d → IsMultiple d a → int_rem a d ≡ pos 0
rem_by_multiple a d o m =
    let more = m.times -ℤ int_div a d in
    let all = quot-rem a d in
    let swap = *ℤ_comm (int_div a d) d in
    let parts = times_difference d m.times (int_div a d) in
    let times = m.is in
    let is : int_rem a d ≡ d *ℤ more = omega (arith, ints, all, swap, parts, times) in
    let less = rem_below a d (omega (arith, ints, o)) in
    let size : unsigned_abs (int_rem a d) ≡ unsigned_abs d * unsigned_abs more = ap unsigned_abs is ∙ unsigned_abs-mul d more in
    let none : unsigned_abs more ≡ 0 = none_under (unsigned_abs d) (unsigned_abs more) (omega (arith, less, size)) in
    let no_more : more ≡ pos 0 = omega (arith, ints, none) in
    is ∙ ap (λ (z : ℤ). d *ℤ z) no_more ∙ *ℤ-zero d

-- products of three numbers
none_times : (d v : ℤ) → (d *ℤ pos zero) *ℤ v ≡ d *ℤ (pos zero *ℤ v)
none_times d v = ap (λ (z : ℤ). z *ℤ v) (*ℤ-zero d) ∙ zero-*ℤ v ∙ sym (ap (λ (z : ℤ). d *ℤ z) (zero-*ℤ v) ∙ *ℤ-zero d)

times_times : (d k v : ℤ) → (d *ℤ k) *ℤ v ≡ d *ℤ (k *ℤ v)
times_times d (pos zero) v = none_times d v
times_times d (pos (suc n)) v =
    let own : d *ℤ pos (suc n) ≡ d *ℤ pos n +ℤ d = omega (arith, ints, *ℤ_comm d (pos (suc n)), suc_ℤ-*ℤ (pos n) d, *ℤ_comm d (pos n)) in
    let left = ap (λ (z : ℤ). z *ℤ v) own ∙ sum_times (d *ℤ pos n) d v in
    let right = ap (λ (z : ℤ). d *ℤ z) (suc_ℤ-*ℤ (pos n) v) ∙ times_sum d (pos n *ℤ v) v in
    left ∙ ap (λ (z : ℤ). z +ℤ d *ℤ v) (times_times d (pos n) v) ∙ sym right
times_times d (negsuc zero) v =
    let own : d *ℤ negsuc zero ≡ d *ℤ pos zero -ℤ d = omega (arith, ints, *ℤ_comm d (negsuc zero), pred_ℤ-*ℤ (pos zero) d, *ℤ_comm d (pos zero)) in
    let left = ap (λ (z : ℤ). z *ℤ v) own ∙ difference_times (d *ℤ pos zero) d v in
    let right = ap (λ (z : ℤ). d *ℤ z) (pred_ℤ-*ℤ (pos zero) v) ∙ times_difference d (pos zero *ℤ v) v in
    left ∙ ap (λ (z : ℤ). z -ℤ d *ℤ v) (none_times d v) ∙ sym right
times_times d (negsuc (suc n)) v =
    let own : d *ℤ negsuc (suc n) ≡ d *ℤ negsuc n -ℤ d = omega (arith, ints, *ℤ_comm d (negsuc (suc n)), pred_ℤ-*ℤ (negsuc n) d, *ℤ_comm d (negsuc n)) in
    let left = ap (λ (z : ℤ). z *ℤ v) own ∙ difference_times (d *ℤ negsuc n) d v in
    let right = ap (λ (z : ℤ). d *ℤ z) (pred_ℤ-*ℤ (negsuc n) v) ∙ times_difference d (negsuc n *ℤ v) v in
    left ∙ ap (λ (z : ℤ). z -ℤ d *ℤ v) (times_times d (negsuc n) v) ∙ sym right

-- a sum that is a number is that number but for no multiple
pub but_none : (d sum number : ℤ) → sum ≡ number → IsSumBut d sum number
but_none d sum number e = let none = *ℤ-zero d in record { times = pos 0; is = omega (arith, ints, e, none) }

-- a term that the divisor divides is left out
pub but_multiple : (d number f v : ℤ) → IsMultiple d f → IsSumBut d (number +ℤ f *ℤ v) number
but_multiple d number f v m =
    let product : f *ℤ v ≡ d *ℤ (m.times *ℤ v) = ap (λ (z : ℤ). z *ℤ v) m.is ∙ times_times d m.times v in
    record { times = m.times *ℤ v; is = omega (arith, ints, product) }

-- a variable that isn't among the first so many has no value there
pub absent : (count i : ℕ) (values : List ℤ) → count ≤ i → get_or (take count values) i (pos 0) ≡ pos 0
absent zero i values l = get_or_past [] i (pos 0) (omega arith)
absent (suc n) i [] l = get_or_past [] i (pos 0) (omega arith)
absent (suc n) zero (v ∷ vs) l = absurd (omega (arith, l))
absent (suc n) (suc i) (v ∷ vs) l = absent n i vs (omega (arith, l))

-- a term of a variable that isn't there
pub but_absent : (d number f : ℤ) (count i : ℕ) (values : List ℤ) → count ≤ i → IsSumBut d (number +ℤ f *ℤ get_or (take count values) i (pos 0)) number
but_absent d number f count i values l =
    let none : f *ℤ get_or (take count values) i (pos 0) ≡ pos 0 = ap (λ (z : ℤ). f *ℤ z) (absent count i values l) ∙ *ℤ-zero f in
    but_none d _ number (omega (arith, ints, none))

-- what is added to a sum is added to what is known of it
pub but_more : (d whole old term new more : ℤ) → IsSumBut d whole (old +ℤ (term +ℤ more)) → IsSumBut d (old +ℤ term) new → IsSumBut d whole (new +ℤ more)
but_more d whole old term new more a b =
    let times = times_sum d a.times b.times in
    let first = a.is in
    let second = b.is in
    record { times = a.times +ℤ b.times; is = omega (arith, ints, times, first, second) }

-- what is known of a sum that is 0 is a multiple
pub rest_multiple : (d sum number : ℤ) → sum ≡ pos 0 → IsSumBut d sum number → IsMultiple d number
rest_multiple d sum number e b =
    let times = times_difference d (pos 0) b.times in
    let none = *ℤ-zero d in
    let is = b.is in
    record { times = pos 0 -ℤ b.times; is = omega (arith, ints, times, none, is, e) }

-- products of numbers of 128 bits
pub product_kept : (x y a b : ℤ) (m n : ℕ) → x ≡ a → y ≡ b → unsigned_abs a ≤ m → unsigned_abs b ≤ n → m * n < 2 ^ 127 → to_z w128 (of_z w128 (x *ℤ y)) ≡ a *ℤ b
product_kept x y a b m n d e p q l = rw (d, e) (to_z-of_z w128 (a *ℤ b) (fits_signed_mul w128 a b m n p q l))

pub product_size : (a b : ℤ) (m n : ℕ) → unsigned_abs a ≤ m → unsigned_abs b ≤ n → unsigned_abs (a *ℤ b) ≤ m * n
product_size a b m n p q = let most = mul-le-mul p q in omega (arith, unsigned_abs-mul a b, most)

-- a number at one side of another one that it isn't
pub above : (fits : Bool) (low value : ℤ) → fits ≡ false → (value ≡ low → fits ≡ true) → low ≤ℤ value → (low +ℤ pos 1) ≤ℤ value
above fits low value misses fits_there h = by_lt_z low value (λ less. omega (arith, ints, less)) (λ more. let same : value ≡ low = omega (arith, ints, h, more) in let so = fits_there same in absurd (cc))

pub below : (fits : Bool) (high value : ℤ) → fits ≡ false → (value ≡ high → fits ≡ true) → value ≤ℤ high → value ≤ℤ (high -ℤ pos 1)
below fits high value misses fits_there h = by_lt_z value high (λ less. omega (arith, ints, less)) (λ more. let same : value ≡ high = omega (arith, ints, h, more) in let so = fits_there same in absurd (cc))

-- a term of the variable that is left open
pub but_own : (d f v c r : ℤ) → IsSumBut d (((c *ℤ v) +ℤ r) +ℤ f *ℤ v) (((c +ℤ f) *ℤ v) +ℤ r)
but_own d f v c r = let both = sum_times c f v in but_none d _ _ (omega (arith, ints, both))

-- a term of a variable with one value
pub but_fixed : (d number rest f v low : ℤ) → v ≡ low → IsSumBut d ((number +ℤ rest) +ℤ f *ℤ v) (number +ℤ (rest +ℤ f *ℤ low))
but_fixed d number rest f v low e = let same = ap (λ (z : ℤ). f *ℤ z) e in but_none d _ _ (omega (arith, ints, same))

-- nothing more
pub but_end : (d whole number none : ℤ) → none ≡ pos 0 → IsSumBut d whole (number +ℤ none) → IsSumBut d whole number
but_end d whole number none e b = let is = b.is in record { times = b.times; is = omega (arith, ints, is, e) }

-- a sum without the variable that is left open
pub rest_alone : (d c v r : ℤ) → v ≡ pos 0 → IsMultiple d ((c *ℤ v) +ℤ r) → IsMultiple d r
rest_alone d c v r e m =
    let none = ap (λ (z : ℤ). c *ℤ z) e ∙ *ℤ-zero c in
    let is = m.is in
    record { times = m.times; is = omega (arith, ints, none, is) }
