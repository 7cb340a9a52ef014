-- Picks by weight.
use Rattle.std.proofs.Common.{◌≡◌, ℕ, zero, suc, ◌+◌, ◌-◌, ◌<◌, ◌≤◌, Bool, true, false, nat_lt, if◌then◌else◌, List, [], ◌∷◌, drop, length, slice_index, take, refl, sym, ap, ◌∙◌, arith, zero-add, add-zero, suc-add, cond}
use Rattle.std.specs.Prelude.{sum, count_by, ◌==◌}
use Rattle.std.specs.List.{range_with_len}
use Rattle.std.proofs.lemmas.Bool.{ltb-true, ltb-false}
use Rattle.std.proofs.lemmas.Bool.Decides.{nat_tests}
use Rattle.std.proofs.lemmas.List.Sums.{sum_by-cons, sum_by-take-drop}
use Prim.Native.Nat.compare
use Rattle.lt_draw.specs.Pick.{place_over, PicksTheFirstOver, PicksByWeight}

sum-cons : (w : ℕ) (ws : List ℕ) → sum (w ∷ ws) ≡ w + sum ws
sum-cons w ws = sum_by-cons (λ x. x) w ws

-- the first weight is over a remainder
here_by : (w : ℕ) (ws : List ℕ) (r : ℕ) (b : Bool) → nat_lt r w ≡ b → r < w → (if b then 0 else suc (place_over ws (r - w))) ≡ 0
here_by w ws r true e h = refl
here_by w ws r false e h = absurd (let l = ltb-false r w e in omega (arith, l, h))

pub place_over-here : (w : ℕ) (ws : List ℕ) (r : ℕ) → r < w → place_over (w ∷ ws) r ≡ 0
place_over-here w ws r h = here_by w ws r (nat_lt r w) refl h

-- it isn't
later_by : (w : ℕ) (ws : List ℕ) (r : ℕ) (b : Bool) → nat_lt r w ≡ b → w ≤ r → (if b then 0 else suc (place_over ws (r - w))) ≡ suc (place_over ws (r - w))
later_by w ws r true e h = absurd (let l = ltb-true r w e in omega (arith, l, h))
later_by w ws r false e h = refl

pub place_over-later : (w : ℕ) (ws : List ℕ) (r : ℕ) → w ≤ r → place_over (w ∷ ws) r ≡ suc (place_over ws (r - w))
place_over-later w ws r h = later_by w ws r (nat_lt r w) refl h

-- a pick among weights of which the first ones are 0 is one among those behind them
pub place_over-behind : (ws : List ℕ) (k r : ℕ) → k < length ws → sum (drop k ws) ≡ sum ws → place_over ws r ≡ k + place_over (drop k ws) r
place_over-behind [] k r within all = absurd (omega (arith, within))
place_over-behind (w ∷ ws) zero r within all = sym (zero-add _)
place_over-behind (w ∷ ws) (suc k) r within all =
    let parts = sum_by-take-drop (λ x. x) ws k in
    let whole = sum-cons w ws in
    let nothing : w ≡ 0 = omega (arith, all, parts, whole) in
    let later = place_over-behind ws k (r - w) (omega (arith, within)) (omega (arith, all, parts, whole)) in
    let same : r - w ≡ r = omega (arith, nothing) in
    place_over-later w ws r (omega (arith, nothing))
    ∙ ap suc (later ∙ ap (λ x. k + place_over (drop k ws) x) same)
    ∙ sym (suc-add k _)

-- where the first weight behind them is the whole sum, that is the pick of each remainder
pub place_over-whole : (ws : List ℕ) (k r : ℕ) → k < length ws → sum (drop k ws) ≡ sum ws → slice_index ws k ≡ sum ws → r < sum ws → place_over ws r ≡ k
place_over-whole [] k r within all own few = absurd (omega (arith, within))
place_over-whole (w ∷ ws) zero r within all own few = place_over-here w ws r (omega (arith, own, few))
place_over-whole (w ∷ ws) (suc k) r within all own few =
    let parts = sum_by-take-drop (λ x. x) ws k in
    let whole = sum-cons w ws in
    let nothing : w ≡ 0 = omega (arith, all, parts, whole) in
    let later = place_over-whole ws k (r - w) (omega (arith, within)) (omega (arith, all, parts, whole)) (omega (arith, own, nothing, whole)) (omega (arith, few, nothing, whole)) in
    place_over-later w ws r (omega (arith, nothing)) ∙ ap suc later

-- The first one over: there are places so far, the weights before sum to no more, and with its own to more.
pub record IsFirstOver (ws : List ℕ) (r k : ℕ) : Type 0 where
  pub inside : k < length ws
  pub before : sum (take k ws) ≤ r
  pub past : r < sum (take (suc k) ws)

first_by : (w : ℕ) (ws : List ℕ) (r : ℕ) (b : Bool) → nat_lt r w ≡ b → (w ≤ r → IsFirstOver ws (r - w) (place_over ws (r - w))) → IsFirstOver (w ∷ ws) r (if b then 0 else suc (place_over ws (r - w)))
first_by w ws r true e later =
    let l = ltb-true r w e in
    record { inside = omega arith; before = omega arith; past = omega (arith, l, sum-cons w []) }
first_by w ws r false e later =
    let l = ltb-false r w e in
    let k : ℕ = place_over ws (r - w) in
    let f = later l in
    record { inside = omega (arith, f.inside); before = omega (arith, f.before, sum-cons w (take k ws)); past = omega (arith, f.past, sum-cons w (take (suc k) ws)) }

pub first_over : (ws : List ℕ) (r : ℕ) → r < sum ws → IsFirstOver ws r (place_over ws r)
first_over [] r h = absurd (omega (arith, h))
first_over (w ∷ ws) r h = first_by w ws r (nat_lt r w) refl (λ l. first_over ws (r - w) (omega (arith, h, l, sum-cons w ws)))

pub picks_the_first_over : PicksTheFirstOver
picks_the_first_over ws r h = let f = first_over ws r h in (f.inside, f.before, f.past)

-- numbers that are one more are the same number where those are
suc-eq-suc : (a b : ℕ) → (suc a == suc b) ≡ (a == b)
suc-eq-suc a b = rw compare.suc-suc refl

suc-eq-zero : (a : ℕ) → (suc a == 0) ≡ false
suc-eq-zero a = grind (arith, nat_tests)

zero-eq-suc : (a : ℕ) → (0 == suc a) ≡ false
zero-eq-suc a = grind (arith, nat_tests)

-- how many of the numbers from one on pass a test
abbrev counted : (ℕ → Bool) → ℕ → ℕ → ℕ
counted p first n = count_by p (range_with_len first n)

counted-suc : (p : ℕ → Bool) (first n : ℕ) → counted p first (suc n) ≡ cond (p first) 1 0 + counted p (first + 1) n
counted-suc p first n = sum_by-cons (λ x. cond (p x) 1 0) first (range_with_len (first + 1) n)

-- those up to a number, and those from it on
counted-add : (p : ℕ → Bool) (first n m : ℕ) → counted p first (n + m) ≡ counted p first n + counted p (first + n) m
counted-add p first zero m = rw (zero-add, add-zero) (sym (zero-add _))
counted-add p first (suc n) m =
    let tail = counted-add p (first + 1) n m in
    let place : first + 1 + n ≡ first + suc n = omega arith in
    ap (counted p first) (suc-add n m) ∙ counted-suc p first (n + m)
    ∙ omega (arith, tail, counted-suc p first n, ap (λ a. counted p a m) place)

-- tests that agree, each from a number of its own on
counted-same : (p q : ℕ → Bool) (a b n : ℕ) → ((k : ℕ) → k < n → p (a + k) ≡ q (b + k)) → counted p a n ≡ counted q b n
counted-same p q a b zero same = refl
counted-same p q a b (suc n) same =
    let head : p a ≡ q b = ap p (sym (add-zero a)) ∙ same 0 (omega arith) ∙ ap q (add-zero b) in
    let tail = counted-same p q (a + 1) (b + 1) n (λ k h. ap p (omega arith) ∙ same (suc k) (omega arith) ∙ ap q (omega arith)) in
    omega (arith, tail, counted-suc p a n, counted-suc q b n, ap {B = ℕ} (λ t. cond t 1 0) head)

counted-all : (a n : ℕ) → counted (λ _. true) a n ≡ n
counted-all a zero = refl
counted-all a (suc n) = omega (arith, counted-suc (λ _. true) a n, counted-all (a + 1) n)

counted-none : (a n : ℕ) → counted (λ _. false) a n ≡ 0
counted-none a zero = refl
counted-none a (suc n) = omega (arith, counted-suc (λ _. false) a n, counted-none (a + 1) n)

module _ (w : ℕ) (ws : List ℕ) (place : ℕ) where
  -- the remainders that pick a place, by the first weight and by the others
  abbrev picks_it : ℕ → Bool
  picks_it r = place_over (w ∷ ws) r == place

  parted : counted picks_it 0 (sum (w ∷ ws)) ≡ counted picks_it 0 w + counted picks_it w (sum ws)
  parted = ap (counted picks_it 0) (sum-cons w ws) ∙ counted-add picks_it 0 w (sum ws) ∙ ap (λ a. counted picks_it 0 w + counted picks_it a (sum ws)) (zero-add w)

pub picks_by_weight : PicksByWeight
picks_by_weight [] place = refl
picks_by_weight (w ∷ ws) zero =
    let own = counted-same (picks_it w ws 0) (λ _. true) 0 0 w (λ k h. ap (λ n. n == 0) (place_over-here w ws (0 + k) (omega arith))) ∙ counted-all 0 w in
    let rest = counted-same (picks_it w ws 0) (λ _. false) w 0 (sum ws) (λ k h. ap (λ n. n == 0) (place_over-later w ws (w + k) (omega arith)) ∙ suc-eq-zero _) ∙ counted-none 0 (sum ws) in
    omega (arith, parted w ws 0, own, rest)
picks_by_weight (w ∷ ws) (suc place) =
    let own = counted-same (picks_it w ws (suc place)) (λ _. false) 0 0 w (λ k h. ap (λ n. n == suc place) (place_over-here w ws (0 + k) (omega arith)) ∙ zero-eq-suc place) ∙ counted-none 0 w in
    let rest = counted-same (picks_it w ws (suc place)) (λ r. place_over ws r == place) w 0 (sum ws)
    (λ k h. ap (λ n. n == suc place) (place_over-later w ws (w + k) (omega arith)) ∙ suc-eq-suc _ place ∙ ap (λ n. place_over ws n == place) (omega arith)) in
    omega (arith, parted w ws (suc place), own, rest, picks_by_weight ws place)
