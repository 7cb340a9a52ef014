-- What files tell of themselves.
use Rattle.std.specs.Prelude.{ℕ, List, map, string_bytes}
use Rattle.std.specs.declared.alloc.Global.{Global}
use Rattle.std.specs.declared.option.Option.{Option}
use Rattle.std.specs.declared.string.String.{String}

-- what files tell at one moment
pub record Files : Type 0 where
  -- the contents by name, where they are told
  pub contents : List ℕ → Option (List ℕ)
  -- the names that were asked for, the last one at the end
  pub asked : List (List ℕ)
  -- how many of their calls failed, up to the greatest number of 64 bits
  pub faults : ℕ

-- the bytes of each name
abbrev pub names_of : List (String Global) → List (List ℕ)
names_of names = map (λ name. string_bytes name) names
