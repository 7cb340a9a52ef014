-- Points of marked variables.
use Rattle.std.specs.Prelude.{ℕ, suc, ◌*◌, Bool, false, List, [], ◌∷◌, slice_index_or, if◌then◌else◌}
use Rattle.lt_num.specs.Range.{count_of}
use Rattle.lt_num.specs.declared.range.Range.{Range}

-- how many points a variable has, where it counts
abbrev pub points_in : Bool → Range → ℕ
points_in counts range = if counts then count_of range else 1

-- how many points the marked ones have of these variables, of which the first has this number
abbrev pub marked_points : List Bool → ℕ → List Range → ℕ
marked_points marks i [] = 1
marked_points marks i (range ∷ ranges) =
    points_in (slice_index_or marks i false) range * marked_points marks (suc i) ranges
