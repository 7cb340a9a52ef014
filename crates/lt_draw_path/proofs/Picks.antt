-- Tries by weight.
use Rattle.std.proofs.Common.{◌≡◌, ℕ, zero, suc, ◌+◌, ◌-◌, ◌%◌, ◌<◌, ◌≤◌, Bool, true, false, nat_lt, nat_eq, if◌then◌else◌, List, [], ◌∷◌, length, sum, set, get_or, refl, subst, arith, length-set}
use Rattle.std.proofs.lemmas.Bool.{ltb-true, ltb-false, eqb-false}
use Rattle.std.proofs.lemmas.List.Sums.{sum_by-cons}
use Rattle.std.proofs.Math.Nat.{mod-lt}
use Rattle.lt_draw.specs.Pick.{picked, place_over}
use Rattle.lt_draw_path.specs.Order.{picks, slot_of}

-- how many nodes the trees of these sizes at some places have
abbrev pub nodes_on : List ℕ → List ℕ → ℕ
nodes_on sizes [] = 0
nodes_on sizes (k ∷ ks) = get_or sizes k 0 + nodes_on sizes ks

-- each of these is among so many
abbrev pub AreBelow : ℕ → List ℕ → Type 0
AreBelow n [] = Unit {0}
AreBelow n (k ∷ ks) = (k < n) × AreBelow n ks

pub sum-cons : (w : ℕ) (ws : List ℕ) → sum (w ∷ ws) ≡ w + sum ws
sum-cons w ws = sum_by-cons (λ x. x) w ws

-- the place of a pick is one of the places
place-below_by : (w : ℕ) (ws : List ℕ) (r : ℕ) (b : Bool) → nat_lt r w ≡ b → (w ≤ r → place_over ws (r - w) < length ws) → (if b then 0 else suc (place_over ws (r - w))) < suc (length ws)
place-below_by w ws r true e h = omega arith
place-below_by w ws r false e h = let l = h (ltb-false r w e) in omega (arith, l)

place-below : (ws : List ℕ) (r : ℕ) → r < sum ws → place_over ws r < length ws
place-below [] r h = absurd (omega (arith, h))
place-below (w ∷ ws) r h = place-below_by w ws r (nat_lt r w) refl (λ l. place-below ws (r - w) (omega (arith, h, l, sum-cons w ws)))

-- the sum of those numbers whose weight is positive
abbrev pub open_sum : List ℕ → List ℕ → ℕ
open_sum [] ss = 0
open_sum (zero ∷ ws) [] = 0
open_sum (suc w ∷ ws) [] = 0
open_sum (zero ∷ ws) (s ∷ ss) = open_sum ws ss
open_sum (suc w ∷ ws) (s ∷ ss) = s + open_sum ws ss

-- the place of a pick is taken out of it
taken_by : (w : ℕ) (ws : List ℕ) (s : ℕ) (ss : List ℕ) (r : ℕ) (b : Bool) → nat_lt r w ≡ b → (w ≤ r → get_or ss (place_over ws (r - w)) 0 + open_sum (set ws (place_over ws (r - w)) 0) ss ≤ open_sum ws ss)
    → get_or (s ∷ ss) (if b then 0 else suc (place_over ws (r - w))) 0 + open_sum (set (w ∷ ws) (if b then 0 else suc (place_over ws (r - w))) 0) (s ∷ ss) ≤ open_sum (w ∷ ws) (s ∷ ss)
taken_by zero ws s ss r true e h = absurd (let l = ltb-true r 0 e in omega (arith, l))
taken_by (suc w) ws s ss r true e h = omega arith
taken_by zero ws s ss r false e h = h (ltb-false r 0 e)
taken_by (suc w) ws s ss r false e h = let l = h (ltb-false r (suc w) e) in omega (arith, l)

open_sum-none : (ws : List ℕ) → open_sum ws [] ≡ 0
open_sum-none [] = refl
open_sum-none (zero ∷ ws) = refl
open_sum-none (suc w ∷ ws) = refl

get_or-none : (k : ℕ) → get_or {A = ℕ} [] k 0 ≡ 0
get_or-none zero = refl
get_or-none (suc k) = refl

taken : (ws ss : List ℕ) (r : ℕ) → r < sum ws → get_or ss (place_over ws r) 0 + open_sum (set ws (place_over ws r) 0) ss ≤ open_sum ws ss
taken [] ss r h = absurd (omega (arith, h))
taken (w ∷ ws) [] r h = let a = open_sum-none (set (w ∷ ws) (place_over (w ∷ ws) r) 0) in let b = get_or-none (place_over (w ∷ ws) r) in omega (arith, a, b)
taken (w ∷ ws) (s ∷ ss) r h = taken_by w ws s ss r (nat_lt r w) refl (λ l. taken ws ss (r - w) (omega (arith, h, l, sum-cons w ws)))

pub remainder : (x s : ℕ) → nat_eq s 0 ≡ false → x % s < s
remainder x s e = let n = eqb-false s 0 e in mod-lt x (omega (arith, n))

module _ (word : ℕ → ℕ) (position : ℕ) where
  -- the rest of the places after one try
  abbrev rest_of : ℕ → ℕ → List ℕ → List ℕ
  rest_of n a ws = let k : ℕ = picked ws (word (slot_of position a)) in k ∷ picks word position n (suc a) (set ws k 0)

  below_by : (n a : ℕ) (ws : List ℕ) (b : Bool) → nat_eq (sum ws) 0 ≡ b → ((vs : List ℕ) → AreBelow (length vs) (picks word position n (suc a) vs)) → AreBelow (length ws) (if b then [] else rest_of n a ws)
  below_by n a ws true e h = tt
  below_by n a ws false e h =
      let k : ℕ = picked ws (word (slot_of position a)) in
      let P : ℕ → Type 0 = λ m. AreBelow m (picks word position n (suc a) (set ws k 0)) in
      (place-below ws (word (slot_of position a) % sum ws) (remainder (word (slot_of position a)) (sum ws) e), subst P (length-set ws k 0) (h (set ws k 0)))

  -- the places that are tried are among the parts
  pub picks-below : (n a : ℕ) (ws : List ℕ) → AreBelow (length ws) (picks word position n a ws)
  picks-below zero a ws = tt
  picks-below (suc n) a ws = below_by n a ws (nat_eq (sum ws) 0) refl (λ vs. picks-below n (suc a) vs)

  nodes_by : (n a : ℕ) (ws ss : List ℕ) (b : Bool) → nat_eq (sum ws) 0 ≡ b → ((vs : List ℕ) → nodes_on ss (picks word position n (suc a) vs) ≤ open_sum vs ss) → nodes_on ss (if b then [] else rest_of n a ws) ≤ open_sum ws ss
  nodes_by n a ws ss true e h = omega arith
  nodes_by n a ws ss false e h =
      let r : ℕ = word (slot_of position a) % sum ws in
      let l = taken ws ss r (remainder (word (slot_of position a)) (sum ws) e) in
      let m = h (set ws (place_over ws r) 0) in
      omega (arith, l, m)

  -- each is tried at most once
  pub picks-nodes : (n a : ℕ) (ws ss : List ℕ) → nodes_on ss (picks word position n a ws) ≤ open_sum ws ss
  picks-nodes zero a ws ss = omega arith
  picks-nodes (suc n) a ws ss = nodes_by n a ws ss (nat_eq (sum ws) 0) refl (λ vs. picks-nodes n (suc a) vs ss)
