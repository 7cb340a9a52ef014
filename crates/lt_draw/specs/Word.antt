-- The words of a seed. All that is drawn in a run comes from them, each from the word at a slot of a step.
use Rattle.std.specs.Prelude.{◌≡◌, ℕ, ◌+◌, ◌*◌, ◌^◌, ◌<◌, replicate}
use Rattle.rand_core.specs.Pcg32Seed.{pcg32_seed}
use Rattle.rand_core.specs.Steps.{stream_of, steps_u64_low}
use Rattle.rand_core.specs.Stream.{u64_call}
use Rattle.rand_pcg.specs.Lcg.{Lcg, advance}
use Rattle.rand_pcg.specs.Pcg.{multiplier_128, pcg64, pcg64_of_seed}

-- how many slots a step has
abbrev pub slots : ℕ
slots = 2 ^ 24

-- the place of a slot of a step among the words of a seed
abbrev pub place_of : ℕ → ℕ → ℕ
place_of step slot = step * slots + slot

-- the PCG64 generator of a seed, whose 64 bits PCG32 spreads over 32 bytes
abbrev pub generator_of : ℕ → Lcg
generator_of seed = pcg64_of_seed (pcg32_seed 32 seed)

-- that generator, once it has given so many words
abbrev pub generator_at : ℕ → ℕ → Lcg
generator_at seed place = advance 128 multiplier_128 place (generator_of seed)

-- the word of a seed at a place
abbrev pub nth_word : ℕ → ℕ → ℕ
nth_word seed place = (pcg64 (generator_at seed place)).0

-- the word of a seed at a slot of a step
abbrev pub word_at : ℕ → ℕ → ℕ → ℕ
word_at seed step slot = nth_word seed (place_of step slot)

-- a step of a seed: what is seen of the words of a step
pub record StepOfSeed : Type 0 where
  pub seed : ℕ
  pub step : ℕ

-- a slot of a step of a seed: what is seen of the words from a slot on
pub record SlotOfSeed : Type 0 where
  pub seed : ℕ
  pub step : ℕ
  pub slot : ℕ

-- The word at a place is what the generator of the seed answers to `next_u64` after as many calls of it.
abbrev pub WordsAreAnswers : Type 0
WordsAreAnswers = (seed place : ℕ) →
    nth_word seed place ≡ (stream_of (steps_u64_low pcg64) (generator_of seed)).u64_after (replicate place u64_call)

-- Two slots, of one step or of two, are at two places.
abbrev pub PlacesAreApart : Type 0
PlacesAreApart = (step other_step slot other_slot : ℕ) → slot < slots → other_slot < slots →
    place_of step slot ≡ place_of other_step other_slot → (step ≡ other_step) × (slot ≡ other_slot)
