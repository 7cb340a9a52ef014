-- What a sink tells of itself.
use Rattle.std.specs.Prelude.{ℕ, Bool, List}
use Rattle.std.specs.declared.option.Option.{Option}

-- what a sink tells at one moment
pub record Sink : Type 0 where
  -- the bytes that it took so far, where they are told
  pub written : Option (List ℕ)
  -- how many of its calls failed, up to the greatest number of 64 bits
  pub faults : ℕ
  -- whether texts may wait for further ones, to be written together with them
  pub gathers : Bool
