-- Cells that are closed at variables are at most the sums of the walks through these.
use Rattle.std.proofs.Common.{◌≢◌, ℕ, ◌<◌, ◌≤◌, List, [], ◌∷◌, ℤ, ◌+ℤ◌, ◌≤ℤ◌, inl, inr, sym, subst, arith}
use Rattle.std.proofs.lemmas.Int.{ints}
use Rattle.lt_diff.specs.Bounds.{no_bound}
use Rattle.lt_diff.specs.Closing.{AreWithin, IsClosedAt}
use Rattle.lt_diff.specs.Walks.{IsWalk, walk_sum}
use Rattle.lt_diff.proofs.Pivots.{is_stated}
use Rattle.lt_diff.proofs.Places.{AreBelow, IsIn}
use Rattle.lt_diff.proofs.Walks.{walk_start}

-- what holds of cells that are closed at each variable below k
module _ (n k : ℕ) (stated cell : ℕ → ℕ → ℤ) (hk : k ≤ n) (small : AreWithin 67600000000000000 n cell)
    (less : (a b : ℕ) → a < n → b < n → cell a b ≤ℤ stated a b) (within : AreWithin 520000000000000 n stated)
    (closed : (p : ℕ) → p < k → IsClosedAt n cell p) where
  -- a cell is at most its bound
  is_less : (a b : ℕ) → a < n → b < n → stated a b ≢ no_bound → (cell a b ≢ no_bound) × (cell a b ≤ℤ stated a b)
  is_less a b ha hb f = let w = within a b ha hb f in let l = less a b ha hb in ((λ e. omega (arith, ints)), l)

  -- a cell is at most the sum of each walk between its ends that stays below k
  pub least_walk : (a b : ℕ) (ps : List ℕ) → b < n → IsWalk n stated a ps b → AreBelow k ps → (cell a b ≢ no_bound) × (cell a b ≤ℤ walk_sum stated a ps b)
  least_walk a b [] hb w h = is_less a b w.0 w.1 w.2
  least_walk a b (p ∷ ps) hb w h =
      let hp : p < n = walk_start n stated p b ps w.2 in
      let x = is_less a p w.0 hp w.1 in
      let y = least_walk p b ps hb w.2 h.1 in
      let c = closed p h.0 a b w.0 hb x.0 y.0 in
      let lx = x.1 in
      let ly = y.1 in
      (is_stated _ _ _ c (small a p w.0 hp x.0).1 (small p b hp hb y.0).1, omega (arith, ints))

  -- and at most that of its two parts at a variable that it passes
  pub least_parts : (a p b : ℕ) (ps : List ℕ) → b < n → IsWalk n stated a ps b → AreBelow k ps → IsIn p ps
      → (p < n) × (cell a p ≢ no_bound) × (cell p b ≢ no_bound) × ((cell a p +ℤ cell p b) ≤ℤ walk_sum stated a ps b)
  least_parts a p b [] hb w h i = absurd i
  least_parts a p b (q ∷ qs) hb w h i =
      let hq : q < n = walk_start n stated q b qs w.2 in
      let x = is_less a q w.0 hq w.1 in
      let lx = x.1 in
      elim i [
        | inl e ↦
            let y = least_walk q b qs hb w.2 h.1 in
            let ly = y.1 in
            subst (λ (r : ℕ). (r < n) × (cell a r ≢ no_bound) × (cell r b ≢ no_bound) × ((cell a r +ℤ cell r b) ≤ℤ (stated a q +ℤ walk_sum stated q qs b))) (sym e) (hq, x.0, y.0, omega (arith, ints))
        | inr m ↦
            let y = least_parts q p b qs hb w.2 h.1 m in
            let ly = y.3 in
            let c = closed q h.0 a p w.0 y.0 x.0 y.1 in
            (y.0, is_stated _ _ _ c (small a q w.0 hq x.0).1 (small q p hq y.0 y.1).1, y.2, omega (arith, ints))
      ]
