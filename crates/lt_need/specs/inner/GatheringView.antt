-- What is known of the room to gather atoms in.
use Rattle.std.specs.Prelude.{◌≡◌, ◌≤◌, ℕ, length, vec_capacity}
use Rattle.lt_need.specs.declared.gathering.Gathering.{Gathering}
use Rattle.lt_need.specs.inner.Marks.{AreUnmarked}

-- it has marks for so many gates, none of which is set, and as much room for what they reach
pub record HasRoom (count : ℕ) (g : Gathering) : Type 0 where
  pub marks : count ≤ length g.marks.items
  pub unmarked : AreUnmarked g.marks.items
  pub reached : length g.marks.items ≤ vec_capacity g.reached
  pub found : length g.marks.items ≤ vec_capacity g.found

-- afterwards it has as much room, and no mark is set
pub record KeepsRoom (before after : Gathering) : Type 0 where
  pub marks : length after.marks.items ≡ length before.marks.items
  pub unmarked : AreUnmarked after.marks.items
  pub reached : vec_capacity after.reached ≡ vec_capacity before.reached
  pub found : vec_capacity after.found ≡ vec_capacity before.found
