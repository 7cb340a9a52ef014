-- The least values that meet closed bounds.
use Rattle.std.proofs.Common.{◌≡◌, ℕ, ◌<◌, ℤ, pos, neg_ℤ, ◌≤ℤ◌, arith}
use Rattle.std.proofs.lemmas.Int.{ints}
use Rattle.lt_diff.specs.Bounds.{HasLeasts, IsSolution}
use Rattle.lt_diff.specs.Closing.{IsClosed}

-- minus the cells of variable 0 are a solution, where the bounds are closed
pub least_met : (n : ℕ) (cell : ℕ → ℕ → ℤ) (value : ℕ → ℤ) → 0 < n → IsClosed n cell → HasLeasts n cell → ((a : ℕ) → a < n → value a ≡ neg_ℤ (cell 0 a)) → IsSolution n cell value
least_met n cell value h closed low is = (
  (let e = is 0 h in let o = closed.origin in omega (arith, ints)),
  (λ a b ha hb f. (let c = closed.at a ha 0 b h hb (low a ha) f in let x = is a ha in let y = is b hb in omega (arith, ints))),
)

-- and no solution has a smaller value anywhere
pub least_is_least : (n : ℕ) (cell : ℕ → ℕ → ℤ) (value : ℕ → ℤ) → 0 < n → HasLeasts n cell → ((a : ℕ) → a < n → value a ≡ neg_ℤ (cell 0 a)) → (other : ℕ → ℤ) → IsSolution n cell other → (a : ℕ) → a < n → value a ≤ℤ other a
least_is_least n cell value h low is other s a ha = let m = s.1 0 a h ha (low a ha) in let z = s.0 in let e = is a ha in omega (arith, ints)

-- where each variable has a lower bound, the cells of variable 0 can be negated
pub least_fits : (n : ℕ) (cell : ℕ → ℕ → ℤ) → 0 < n → IsClosed n cell → HasLeasts n cell → (a : ℕ) → a < n → neg_ℤ (pos 9223372036854775807) ≤ℤ cell 0 a
least_fits n cell h closed low a ha = let w = closed.within 0 a h ha (low a ha) in omega (arith, ints)
