-- Room in which texts are written.
use Rattle.std.specs.Prelude.{◌≡◌, ◌≤◌, ℕ, ◌+◌, ◌*◌, List, ◌++◌, length, vec_len, vec_capacity}
use Rattle.std.specs.declared.alloc.Global.{Global}
use Rattle.std.specs.declared.vec.Vec.{Vec}

-- a text can be appended without memory
abbrev pub HasRoom : Vec ℕ Global → List ℕ → Type 0
HasRoom into text = vec_len into + length text ≤ vec_capacity into

-- a text was appended
pub record AddsText (old new : Vec ℕ Global) (text : List ℕ) : Type 0 where
  pub items : new.items ≡ old.items ++ text
  pub capacity : vec_capacity old ≤ vec_capacity new

-- the bytes that are enough for a header, a line, or a step with an end line after it, of so many variables, whose names
-- and those of the exceptions have so many bytes together
abbrev pub room_for : ℕ → ℕ → ℕ
room_for variables names = 256 + 32 * variables + names
