-- What a search of a leaf finds.
use Rattle.std.specs.Prelude.{◌≡◌, ◌<◌, ℕ, Bool, List, ℤ, map, Ok, Err, is_some}
use Rattle.std.specs.declared.result.Result.{Result}
use Rattle.lt_draw.specs.declared.directions.Draw.TheVariants.{Up}
use Rattle.lt_num.specs.declared.range.Range.{Range}
use Rattle.lt_space.specs.Formula.{Formula}
use Rattle.lt_term.specs.Scene.{Scene}
use Rattle.lt_term.specs.Tree.{Lasts}
use Rattle.lt_instant.specs.Instant.{Leaf, is_live}
use Rattle.lt_instant.specs.Solved.{need_of, solution_of}

-- the low ends of ranges
abbrev pub lows_of : List Range → List ℤ
lows_of ranges = map (λ r. r.low) ranges

-- whether values can make a formula true, by any words: whether there are some doesn't depend on these
abbrev pub can_hold : Scene → Lasts → Formula → Bool
can_hold s ls f = is_some (solution_of s Up (λ slot. 0) ls f)

-- whether a leaf is live
abbrev pub is_alive : Scene → Leaf → Bool
is_alive s o = is_live s Up (λ slot. 0) o

-- what a search has found: whether values can make a formula true, or its need, which is over the budget
abbrev pub IsSearched : Scene → ℕ → Lasts → Formula → Result Bool ℕ → Type 0
IsSearched s budget ls f (Ok b) = b ≡ can_hold s ls f
IsSearched s budget ls f (Err need) = (budget < need) × (need_of s ls f ≡ need)
