-- Steps of a generator after steps.
use Rattle.std.proofs.Common.{◌≡◌, ℕ, zero, suc, ◌+◌, replicate, refl, sym, ap, ◌∙◌, arith, zero-add, suc-add}
use Rattle.rand_core.specs.Steps.{steps_u64_low, stream_of}
use Rattle.rand_core.specs.Steps as steps
use Rattle.rand_core.specs.Stream.{u64_call}
use Rattle.rand_pcg.specs.Lcg.{Lcg, advance, next, state_after}
use Rattle.rand_pcg.specs.Pcg.{multiplier_128, pcg64}
use Rattle.lt_draw.specs.Word.{place_of, generator_of, generator_at, WordsAreAnswers}

-- so many steps and then so many are the sum of them
pub state_after-add : (w m p a b s : ℕ) → state_after w m p b (state_after w m p a s) ≡ state_after w m p (a + b) s
unfolding state_after
state_after-add w m p zero b s = rw zero-add refl
state_after-add w m p (suc a) b s = rw suc-add (state_after-add w m p a b _)

-- generators of one state and one increment are one
pub same_generator : (a b : Lcg) → b.state ≡ a.state → b.increment ≡ a.increment → b ≡ a
same_generator a b state increment =
    ap (λ (s : ℕ). let g : Lcg = record { state = s; increment = b.increment } in g) state
    ∙ ap (λ (i : ℕ). let g : Lcg = record { state = a.state; increment = i } in g) increment

-- a generator behind so many words, moved on by so many
pub generator_at-add : (seed place more there : ℕ) → place + more ≡ there → advance 128 multiplier_128 more (generator_at seed place) ≡ generator_at seed there
generator_at-add seed place more there e =
    ap (λ (s : ℕ). record { state = s; increment = (generator_of seed).increment }) (state_after-add 128 multiplier_128 _ place more _)
    ∙ ap (generator_at seed) e

-- a generator behind so many words, behind one more
pub generator_at-next : (seed place there : ℕ) → place + 1 ≡ there → next 128 multiplier_128 (generator_at seed place) ≡ generator_at seed there
unfolding state_after
generator_at-next seed place there e = generator_at-add seed place 1 there e

-- the slot behind a slot
pub place_of-next : (step slot : ℕ) → place_of step slot + 1 ≡ place_of step (slot + 1)
place_of-next step slot = omega arith

-- a slot, from the first one of its step
pub place_of-from : (step slot : ℕ) → place_of step 0 + slot ≡ place_of step slot
place_of-from step slot = omega arith

-- so many calls of `next_u64` are so many steps
called : (n : ℕ) (g : Lcg) → steps.state_after (steps_u64_low pcg64) (replicate n u64_call) g ≡ advance 128 multiplier_128 n g
unfolding state_after
called zero g = refl
called (suc n) g = called n (next 128 multiplier_128 g)

pub words_are_answers : WordsAreAnswers
unfolding stream_of
words_are_answers seed place = ap (λ (g : Lcg). (pcg64 g).0) (sym (called place (generator_of seed)))
