-- What leaves weigh in the part of a tree at hand.
use Rattle.std.specs.Prelude.{◌≡◌, ◌≤◌, ◌^◌, ℕ, List, All, length, slice_index_or}
use Rattle.lt_term.specs.Size.{Weights, capped}

-- a number that a leaf may weigh: it is exact up to 65,537, which stands for more
abbrev pub IsWeight : ℕ → Type 0
IsWeight n = (1 ≤ n) × (n ≤ 65537)

-- what leaves weigh that raise exceptions, by the number of the exception, which has 32 bits
pub record AreWeights (zs : List ℕ) : Type 0 where
  pub each : All IsWeight zs
  pub few : length zs ≤ 2 ^ 32

-- What leaves weigh in the part of a tree at hand, where x, y and zs are known of it: a leaf that vanishes, one that goes on, and
-- those that raise exceptions weigh as many nodes as stand in their place in the whole tree, and any other leaf weighs 1.
pub record IsContext (x y : ℕ) (zs : List ℕ) (w : Weights) : Type 0 where
  pub other : w.other ≡ 1
  pub vanish : x ≡ capped w.vanish
  pub go : y ≡ capped w.go
  pub raise : (z : ℕ) → slice_index_or zs z 1 ≡ capped (w.raise z)
  pub some_vanish : 1 ≤ w.vanish
  pub some_go : 1 ≤ w.go
  pub some_raise : (z : ℕ) → 1 ≤ w.raise z
