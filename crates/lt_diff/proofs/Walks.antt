-- Walks: their parts, and what solutions say of them.
use Rattle.std.proofs.Common.{◌≡◌, ◌≢◌, ℕ, ◌+◌, ◌*◌, ◌<◌, List, [], ◌∷◌, ◌++◌, length, ℤ, pos, neg_ℤ, ◌+ℤ◌, ◌-ℤ◌, ◌≤ℤ◌, refl, ap, ◌∙◌, arith}
use Rattle.std.proofs.lemmas.Int.{ints}
use Rattle.std.proofs.Math.Nat.{mul-suc}
use Rattle.lt_diff.specs.Bounds.{IsSolution, no_bound}
use Rattle.lt_diff.specs.Closing.{AreWithin}
use Rattle.lt_diff.specs.Walks.{HasNegativeCycle, HasWalk, IsWalk, walk_sum}
use Rattle.lt_diff.proofs.Places.{AreBelow}

-- two walks, one behind the other
pub walk_append : (n : ℕ) (cell : ℕ → ℕ → ℤ) (a p b : ℕ) (xs ys : List ℕ) → IsWalk n cell a xs p → IsWalk n cell p ys b → IsWalk n cell a (xs ++ p ∷ ys) b
walk_append n cell a p b [] ys w v = (w.0, w.2, v)
walk_append n cell a p b (q ∷ xs) ys w v = (w.0, w.1, walk_append n cell q p b xs ys w.2 v)

pub sum_append : (cell : ℕ → ℕ → ℤ) (a p b : ℕ) (xs ys : List ℕ) → walk_sum cell a (xs ++ p ∷ ys) b ≡ walk_sum cell a xs p +ℤ walk_sum cell p ys b
sum_append cell a p b [] ys = refl
sum_append cell a p b (q ∷ xs) ys = let e = sum_append cell q p b xs ys in omega (arith, ints)

-- a solution keeps the ends of a walk within its sum
pub walk_met : (n : ℕ) (cell : ℕ → ℕ → ℤ) (value : ℕ → ℤ) → IsSolution n cell value → (a b : ℕ) (ps : List ℕ) → b < n → IsWalk n cell a ps b → (value a -ℤ value b) ≤ℤ walk_sum cell a ps b
walk_met n cell value s a b [] h w = s.1 a b w.0 w.1 w.2
walk_met n cell value s a b (p ∷ ps) h w =
    let rest = walk_met n cell value s p b ps h w.2 in
    let first = s.1 a p w.0 (start p ps w.2) w.1 in
    omega (arith, ints)
  where
    start : (p : ℕ) (ps : List ℕ) → IsWalk n cell p ps b → p < n
    start p [] w = w.0
    start p (q ∷ qs) w = w.0

-- the first variable of a walk is one of them
pub walk_start : (n : ℕ) (cell : ℕ → ℕ → ℤ) (a b : ℕ) (ps : List ℕ) → IsWalk n cell a ps b → a < n
walk_start n cell a b [] w = w.0
walk_start n cell a b (p ∷ ps) w = w.0

-- the sum of a walk is at most so far from 0 for each of its steps
pub walk_within : (most n : ℕ) (cell : ℕ → ℕ → ℤ) → AreWithin most n cell → (a b : ℕ) (ps : List ℕ) → IsWalk n cell a ps b
    → (neg_ℤ (pos (most * (length ps + 1))) ≤ℤ walk_sum cell a ps b) × (walk_sum cell a ps b ≤ℤ pos (most * (length ps + 1)))
walk_within most n cell s a b [] w =
    let x = s a b w.0 w.1 w.2 in
    let one : most * (length {A = ℕ} [] + 1) ≡ most = omega arith in
    (omega (arith, ints), omega (arith, ints))
walk_within most n cell s a b (p ∷ ps) w =
    let x = s a p w.0 (walk_start n cell p b ps w.2) w.1 in
    let rest = walk_within most n cell s p b ps w.2 in
    let more : most * (length (p ∷ ps) + 1) ≡ most * (length ps + 1) + most =
    ap (λ k. most * k) (omega arith) ∙ mul-suc most (length ps + 1) in
    (omega (arith, ints), omega (arith, ints))

-- the variables of a walk are below n
pub walk_below : (n : ℕ) (cell : ℕ → ℕ → ℤ) (a b : ℕ) (ps : List ℕ) → IsWalk n cell a ps b → AreBelow n ps
walk_below n cell a b [] w = tt
walk_below n cell a b (p ∷ ps) w = (walk_start n cell p b ps w.2, walk_below n cell p b ps w.2)

-- where a cycle is negative there is no solution
pub cycle_unsolved : (n : ℕ) (cell : ℕ → ℕ → ℤ) (value : ℕ → ℤ) → HasNegativeCycle n cell → IsSolution n cell value → ⊥
cycle_unsolved n cell value c s =
    let met = walk_met n cell value s c.0 c.0 c.1 (walk_start n cell c.0 c.0 c.1 c.2) c.2 in
    let less = c.3 in
    absurd (omega (arith, ints))

-- a walk over bounds is one over lower ones, with no greater sum
pub walk_lowered : (n : ℕ) (high low : ℕ → ℕ → ℤ)
    → ((a b : ℕ) → a < n → b < n → high a b ≢ no_bound → (low a b ≢ no_bound) × (low a b ≤ℤ high a b))
    → (a b : ℕ) (ps : List ℕ) → b < n → IsWalk n high a ps b → IsWalk n low a ps b × (walk_sum low a ps b ≤ℤ walk_sum high a ps b)
walk_lowered n high low lower a b [] hb w =
    let x = lower a b w.0 w.1 w.2 in
    ((w.0, w.1, x.0), x.1)
walk_lowered n high low lower a b (p ∷ ps) hb w =
    let x = lower a p w.0 (walk_start n high p b ps w.2) w.1 in
    let y = walk_lowered n high low lower p b ps hb w.2 in
    let lx = x.1 in
    let ly = y.1 in
    ((w.0, x.0, y.0), omega (arith, ints))

-- a walk over cells that follow from bounds follows from them
pub walk_follows : (n : ℕ) (bounds cell : ℕ → ℕ → ℤ)
    → ((a b : ℕ) → a < n → b < n → cell a b ≢ no_bound → HasWalk n bounds a b (cell a b))
    → (a b : ℕ) (ps : List ℕ) → b < n → IsWalk n cell a ps b → HasWalk n bounds a b (walk_sum cell a ps b)
walk_follows n bounds cell follows a b [] hb w = follows a b w.0 w.1 w.2
walk_follows n bounds cell follows a b (p ∷ ps) hb w =
    let x = follows a p w.0 (walk_start n cell p b ps w.2) w.1 in
    let y = walk_follows n bounds cell follows p b ps hb w.2 in
    let s = sum_append bounds a p b x.through y.through in
    let lx = x.sum in
    let ly = y.sum in
    record {
      through = x.through ++ p ∷ y.through;
      is = walk_append n bounds a p b x.through y.through x.is y.is;
      sum = omega (arith, ints);
    }
