-- Half a step.
use Rattle.std.specs.Prelude.{◌≡◌, ℕ, ◌%◌, ◌^◌, ◌<◌}
use Rattle.rand_pcg.specs.Lcg.{Lcg}

-- how many slots half a step has
abbrev pub half : ℕ
half = 2 ^ 23

-- the increment of a generator is one of a stream: odd, and of 128 bits
abbrev pub HasStream : Lcg → Type 0
HasStream g = (g.increment % 2 ≡ 1) × (g.increment < 2 ^ 128)
