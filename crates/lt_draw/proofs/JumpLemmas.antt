-- Many steps of a generator as one sum, and the streams of seeds.
use Rattle.std.proofs.Common.{◌≡◌, ℕ, zero, suc, ◌+◌, ◌*◌, ◌/◌, ◌%◌, ◌^◌, ◌<◌, ◌≤◌, inl, inr, List, [], ◌∷◌, ◌++◌, bit_or, length, slice_index, get_or, take, All, refl, sym, ap, subst, ◌∙◌, arith, mod-lt, mod-eq_of_lt, pow-suc}
use Rattle.std.proofs.lemmas.List.Elements.{All-append, All-cons, All-head, All-nil, All-tail, All-take}
use Rattle.std.proofs.lemmas.Grind.{pow_more}
use Rattle.std.proofs.lemmas.List.{get_or-append-add, get_or-take, get_or_append_left}
use Rattle.std.proofs.lemmas.Nat.{mul-mod_first, mul-mod_second, or_lt, or_shifted, pow_pos}
use Rattle.std.proofs.Math.Nat.{pow-le-pow_right}
use Rattle.std.proofs.lemmas.Bool.{cases_lt}
use Rattle.std.specs.Int.{w32, byte_at, bytes_low_first, to_le_bytes}
use native.Mathlib.Nat.{add-mod, mod-add-mod}
use Rattle.rand_core.specs.Pcg32Seed.{pcg32_seed, pcg32_step}
use Rattle.rand_core.specs.Steps.{u32_at, u64_at, word_bytes}
use Rattle.rand_pcg.proofs.LcgLemmas.{odd_after_or}
use Rattle.rand_pcg.specs.Lcg.{Lcg, advance, increment_of, state_after, u128_at}
use Rattle.rand_pcg.specs.Pcg.{multiplier_128}
use Rattle.lt_draw.specs.Word.{generator_at, generator_of, place_of, slots}
use Rattle.lt_draw.specs.inner.Half.{half, HasStream}
use Rattle.lt_draw.specs.declared.jump_table.Jump.{Jump}
use Rattle.lt_draw.specs.declared.jump_table.TheConstants.{JUMPS}
use Rattle.lt_draw.proofs.WordLemmas.{generator_at-add, state_after-add}

-- Jumps.

module _ (w m : ℕ) where
  -- so many steps are one jump
  abbrev IsJump : ℕ → Jump → Type 0
  IsJump n j = (p s : ℕ) → s < 2 ^ w → state_after w m p n s ≡ (j.of_state * s + j.of_increment * p) % 2 ^ w

  -- by another name of the number and of the jump
  renamed : (n k : ℕ) (i j : Jump) → k ≡ n → i ≡ j → IsJump n i → IsJump k j
  renamed n k i j number same jump p s few =
      ap (λ (x : ℕ). state_after w m p x s) number
      ∙ jump p s few
      ∙ ap (λ (x : Jump). (x.of_state * s + x.of_increment * p) % 2 ^ w) same

  -- a sum of products, by the remainders of their factors
  by_remainders : (a s c p : ℕ) → (a % 2 ^ w * s + c % 2 ^ w * p) % 2 ^ w ≡ (a * s + c * p) % 2 ^ w
  by_remainders a s c p =
      let M = 2 ^ w in
      add-mod (a % M * s) (c % M * p) M
      ∙ (λ i. (mul-mod_first a s M i + mul-mod_first c p M i) % M)
      ∙ sym (add-mod (a * s) (c * p) M)

  -- a product with a remainder, in a sum
  of_remainder : (a x q : ℕ) → (a * (x % 2 ^ w) + q) % 2 ^ w ≡ (a * x + q) % 2 ^ w
  of_remainder a x q =
      let M = 2 ^ w in
      add-mod (a * (x % M)) q M
      ∙ ap (λ (n : ℕ). (n + q % M) % M) (mul-mod_second a x M)
      ∙ sym (add-mod (a * x) q M)

  -- no step
  abbrev none : Jump
  none = record { of_state = 1; of_increment = 0 }

  no_step : IsJump 0 none
  unfolding state_after
  no_step p s few =
      let same : s ≡ 1 * s + 0 * p = omega arith in
      sym (mod-eq_of_lt few) ∙ ap (λ (n : ℕ). n % 2 ^ w) same

  -- one step
  abbrev one : Jump
  one = record { of_state = m; of_increment = 1 }

  one_step : IsJump 1 one
  unfolding state_after
  one_step p s few =
      let same : s * m + p ≡ m * s + 1 * p = omega arith in
      mod-add-mod (s * m) (2 ^ w) p ∙ ap (λ (n : ℕ). n % 2 ^ w) same

  -- the steps of one jump, and then those of another
  abbrev both : Jump → Jump → Jump
  both j k = record {
    of_state = j.of_state * k.of_state % 2 ^ w;
    of_increment = (j.of_increment * k.of_state + k.of_increment) % 2 ^ w;
  }

  both_are : (n more : ℕ) (j k : Jump) → IsJump n j → IsJump more k → IsJump (n + more) (both j k)
  both_are n more j k first then p s few =
      let a : ℕ = j.of_state in
      let c : ℕ = j.of_increment in
      let b : ℕ = k.of_state in
      let d : ℕ = k.of_increment in
      let below : (a * s + c * p) % 2 ^ w < 2 ^ w = mod-lt (a * s + c * p) (pow_pos w) in
      let same : b * (a * s + c * p) + d * p ≡ a * b * s + (c * b + d) * p = omega arith in
      sym (state_after-add w m p n more s)
      ∙ then p (state_after w m p n s) (subst (λ (x : ℕ). x < 2 ^ w) (sym (first p s few)) below)
      ∙ ap (λ (x : ℕ). (b * x + d * p) % 2 ^ w) (first p s few)
      ∙ of_remainder b (a * s + c * p) (d * p)
      ∙ ap (λ (x : ℕ). x % 2 ^ w) same
      ∙ sym (by_remainders (a * b) s (c * b + d) p)

  -- so many jumps, each behind the one before by a jump over a unit
  abbrev multiples : ℕ → Jump → Jump → List Jump
  multiples zero unit j = []
  multiples (suc count) unit j = j ∷ multiples count unit (both j unit)

  -- the jump behind them
  abbrev repeated : ℕ → Jump → Jump → Jump
  repeated zero unit j = j
  repeated (suc count) unit j = repeated count unit (both j unit)

  multiples_count : (count : ℕ) (unit j : Jump) → length (multiples count unit j) ≡ count
  multiples_count zero unit j = refl
  multiples_count (suc count) unit j = ap suc (multiples_count count unit (both j unit))

  multiples_are : (count k n at : ℕ) (unit j other : Jump) → k < count → IsJump n unit → IsJump at j → IsJump (at + k * n) (get_or (multiples count unit j) k other)
  multiples_are zero k n at unit j other within u jump = absurd (omega (arith, within))
  multiples_are (suc count) zero n at unit j other within u jump = renamed at (at + 0 * n) j j (omega arith) refl jump
  multiples_are (suc count) (suc k) n at unit j other within u jump =
      let row = get_or (multiples count unit (both j unit)) k other in
      let behind = multiples_are count k n (at + n) unit (both j unit) other (omega (arith, within)) u (both_are at n j unit jump u) in
      renamed (at + n + k * n) (at + suc k * n) row row (omega arith) refl behind

  repeated_is : (count n at : ℕ) (unit j : Jump) → IsJump n unit → IsJump at j → IsJump (at + count * n) (repeated count unit j)
  repeated_is zero n at unit j u jump = renamed at (at + 0 * n) j j (omega arith) refl jump
  repeated_is (suc count) n at unit j u jump =
      let last = repeated count unit (both j unit) in
      renamed (at + n + count * n) (at + suc count * n) last last (omega arith) refl
      (repeated_is count n (at + n) unit (both j unit) u (both_are at n j unit jump u))

  -- the jumps of the digits at so many places, where a unit is the jump of the digit 1 at the lowest
  abbrev digits_at : ℕ → Jump → List Jump
  digits_at zero unit = []
  digits_at (suc places) unit = multiples 32 unit none ++ digits_at places (repeated 32 unit none)

  digits_are : (places place digit n : ℕ) (unit other : Jump) → place < places → digit < 32 → IsJump n unit →
      IsJump (digit * 32 ^ place * n) (get_or (digits_at places unit) (32 * place + digit) other)
  digits_are zero place digit n unit other within small u = absurd (omega (arith, within))
  digits_are (suc places) zero digit n unit other within small u =
      let own = multiples 32 unit none in
      let later = digits_at places (repeated 32 unit none) in
      let inside : digit < length own = omega (arith, small, multiples_count 32 unit none) in
      let index : 32 * 0 + digit ≡ digit = omega arith in
      let row : get_or own digit other ≡ get_or (own ++ later) (32 * 0 + digit) other =
      sym (ap (λ (i : ℕ). get_or (own ++ later) i other) index ∙ get_or_append_left own later other digit inside) in
      let number : digit * 32 ^ 0 * n ≡ 0 + digit * n = omega arith in
      renamed (0 + digit * n) (digit * 32 ^ 0 * n) (get_or own digit other) (get_or (own ++ later) (32 * 0 + digit) other) number row
      (multiples_are 32 digit n 0 unit none other small u no_step)
  digits_are (suc places) (suc place) digit n unit other within small u =
      let own = multiples 32 unit none in
      let later = digits_at places (repeated 32 unit none) in
      let index : 32 * suc place + digit ≡ length own + (32 * place + digit) = omega (arith, multiples_count 32 unit none) in
      let row : get_or later (32 * place + digit) other ≡ get_or (own ++ later) (32 * suc place + digit) other =
      sym (ap (λ (i : ℕ). get_or (own ++ later) i other) index ∙ get_or-append-add own later (32 * place + digit) other) in
      let power : digit * 32 ^ suc place * n ≡ digit * (32 ^ place * 32) * n = ap (λ (x : ℕ). digit * x * n) (pow-suc 32 place) in
      let number : digit * 32 ^ suc place * n ≡ digit * 32 ^ place * (0 + 32 * n) = power ∙ omega arith in
      renamed (digit * 32 ^ place * (0 + 32 * n)) (digit * 32 ^ suc place * n)
      (get_or later (32 * place + digit) other) (get_or (own ++ later) (32 * suc place + digit) other) number row
      (digits_are places place digit (0 + 32 * n) (repeated 32 unit none) other (omega (arith, within)) small (repeated_is 32 n 0 unit none u no_step))

-- the table has the jumps of the digits at five places, where the lowest ones count single steps, without those over more
-- steps than a step has slots
table_is : JUMPS ≡ take 144 (digits_at 128 multiplier_128 5 (one 128 multiplier_128))
table_is = refl

-- so a row of the table is the jump over as many steps as a digit counts
row_is : (place digit : ℕ) (other : Jump) → 32 * place + digit < 144 → digit < 32 → IsJump 128 multiplier_128 (digit * 32 ^ place) (get_or JUMPS (32 * place + digit) other)
row_is place digit other within small =
    let all = digits_at 128 multiplier_128 5 (one 128 multiplier_128) in
    let row : get_or all (32 * place + digit) other ≡ get_or JUMPS (32 * place + digit) other =
    sym (ap (λ (rows : List Jump). get_or rows (32 * place + digit) other) table_is ∙ get_or-take 144 all (32 * place + digit) other within) in
    renamed 128 multiplier_128 (digit * 32 ^ place * 1) (digit * 32 ^ place)
    (get_or all (32 * place + digit) other) (get_or JUMPS (32 * place + digit) other) (omega arith) row
    (digits_are 128 multiplier_128 5 place digit 1 (one 128 multiplier_128) other (omega (arith, within)) small (one_step 128 multiplier_128))

-- the lowest digit of what is left of a number of a step's slots has a row in the table
pub row_within : (rest place : ℕ) → 0 < rest → rest * 32 ^ place < slots → 32 * place + rest % 32 < 144
row_within zero place some few = absurd (omega (arith, some))
row_within (suc rest) place some few = elim (cases_lt place 4) [
  | inl below ↦ omega (arith, below)
  | inr above ↦
      let last : place ≡ 4 = elim (cases_lt place 5) [
        | inl below ↦ omega (arith, above, below)
        | inr more ↦ absurd (omega (arith, few, pow-le-pow_right {n = 32} (omega arith) {i = 5} {j = place} more))
      ] in
      let fewer : suc rest * 32 ^ 4 < slots = subst (λ (x : ℕ). suc rest * 32 ^ x < slots) last few in
      omega (arith, last, fewer)
]

-- once the jump of a digit is made, the places above it lead to where all of them led
pub one_jump : (p s rest place there : ℕ) (other : Jump) → 32 * place + rest % 32 < 144 → s < 2 ^ 128 →
    there ≡ ((get_or JUMPS (32 * place + rest % 32) other).of_state * s + (get_or JUMPS (32 * place + rest % 32) other).of_increment * p) % 2 ^ 128 →
    state_after 128 multiplier_128 p (rest / 32 * 32 ^ (place + 1)) there ≡ state_after 128 multiplier_128 p (rest * 32 ^ place) s
one_jump p s rest place there other within few jump =
    let small : rest % 32 < 32 = mod-lt rest (omega arith) in
    let power : 32 ^ (place + 1) ≡ 32 ^ place * 32 = pow_more 32 place in
    let above : rest / 32 * 32 ^ (place + 1) ≡ rest / 32 * 32 * 32 ^ place = ap (λ (x : ℕ). rest / 32 * x) power ∙ omega arith in
    let parts : rest % 32 + rest / 32 * 32 ≡ rest = omega arith in
    let whole : rest % 32 * 32 ^ place + rest / 32 * 32 ^ (place + 1) ≡ rest * 32 ^ place =
    ap (λ (x : ℕ). rest % 32 * 32 ^ place + x) above ∙ omega arith ∙ ap (λ (x : ℕ). x * 32 ^ place) parts in
    ap (state_after 128 multiplier_128 p (rest / 32 * 32 ^ (place + 1))) (jump ∙ sym (row_is place (rest % 32) other within small p s few))
    ∙ state_after-add 128 multiplier_128 p (rest % 32 * 32 ^ place) (rest / 32 * 32 ^ (place + 1)) s
    ∙ ap (λ (n : ℕ). state_after 128 multiplier_128 p n s) whole

-- the places above a digit count no more than the number
pub places_above : (rest place : ℕ) → rest / 32 * 32 ^ (place + 1) ≤ rest * 32 ^ place
places_above rest place =
    let above : rest / 32 * 32 ^ (place + 1) ≡ rest / 32 * 32 * 32 ^ place = ap (λ (x : ℕ). rest / 32 * x) (pow_more 32 place) ∙ omega arith in
    let parts : (rest % 32 + rest / 32 * 32) * 32 ^ place ≡ rest * 32 ^ place = ap (λ (x : ℕ). x * 32 ^ place) (omega arith) in
    omega (arith, above, parts)

-- Streams.

-- the increment of a generator that has a stream is that of its stream
pub stream_is : (g : Lcg) → HasStream g → increment_of 128 (g.increment / 2) ≡ g.increment
stream_is g h =
    let stream : ℕ = g.increment / 2 in
    let whole : stream * 2 + 1 ≡ g.increment = omega (arith, h.0) in
    let fits : stream * 2 < 2 ^ 128 = omega (arith, h.1, whole) in
    ap (λ (n : ℕ). bit_or n 1) (mod-eq_of_lt fits) ∙ or_shifted stream 1 1 (omega arith) ∙ whole

-- where no steps are left, the generator of the state and the stream is the one that was sought
pub arrived : (g moved : Lcg) (words rest place state stream : ℕ) → HasStream g → stream ≡ g.increment / 2 → rest ≡ 0 →
    state_after 128 multiplier_128 (increment_of 128 stream) (rest * 32 ^ place) state ≡ state_after 128 multiplier_128 (increment_of 128 stream) words g.state →
    moved ≡ record { state = state; increment = increment_of 128 stream } → moved ≡ advance 128 multiplier_128 words g
unfolding state_after
arrived g moved words rest place state stream h e nothing led is =
    let increment : increment_of 128 stream ≡ g.increment = ap (increment_of 128) e ∙ stream_is g h in
    let left : rest * 32 ^ place ≡ 0 = ap (λ (n : ℕ). n * 32 ^ place) nothing ∙ omega arith in
    let there : state ≡ state_after 128 multiplier_128 (increment_of 128 stream) words g.state =
    sym (ap (λ (n : ℕ). state_after 128 multiplier_128 (increment_of 128 stream) n state) left) ∙ led in
    is
    ∙ ap (λ (s : ℕ). let x : Lcg = record { state = s; increment = increment_of 128 stream } in x) there
    ∙ ap (λ (p : ℕ). let x : Lcg = record { state = state_after 128 multiplier_128 p words g.state; increment = p } in x) increment

-- Seeds.

abbrev IsByte : ℕ → Type 0
IsByte b = b < 256

a_byte : (i n : ℕ) → IsByte (byte_at i n)
a_byte zero n = mod-lt n (omega arith)
a_byte (suc i) n = mod-lt (n / 256 ^ suc i) (omega arith)

bytes_of_number : (i k n : ℕ) → All IsByte (bytes_low_first i k n)
bytes_of_number i zero n = All-nil IsByte
bytes_of_number i (suc k) n = All-cons IsByte (byte_at i n) (bytes_low_first (suc i) k n) (a_byte i n) (bytes_of_number (suc i) k n)

bytes_of_words : (step : ℕ → ℕ × ℕ) (k s : ℕ) → All IsByte (word_bytes (to_le_bytes w32) step k s).0
unfolding word_bytes
bytes_of_words step zero s = All-nil IsByte
bytes_of_words step (suc k) s =
    let before = word_bytes (to_le_bytes w32) step k s in
    All-append IsByte before.0 (to_le_bytes w32 (step before.1).0) (bytes_of_words step k s) (bytes_of_number 0 4 (step before.1).0)

bytes_of_seed : (len seed : ℕ) → All IsByte (pcg32_seed len seed)
unfolding pcg32_seed
bytes_of_seed len seed = All-take IsByte len _ (bytes_of_words pcg32_step ((len + 3) / 4) seed)

-- a byte of a list, or 0 behind them
a_byte_of : (bytes : List ℕ) (i : ℕ) → All IsByte bytes → IsByte (slice_index bytes i)
a_byte_of [] i h = omega arith
a_byte_of (b ∷ bytes) zero h = All-head IsByte b bytes h
a_byte_of (b ∷ bytes) (suc i) h = a_byte_of bytes i (All-tail IsByte b bytes h)

four_bytes : (bytes : List ℕ) (i : ℕ) → All IsByte bytes → u32_at bytes i < 2 ^ 32
unfolding u32_at
four_bytes bytes i h =
    omega (arith, a_byte_of bytes (4 * i) h, a_byte_of bytes (4 * i + 1) h, a_byte_of bytes (4 * i + 2) h, a_byte_of bytes (4 * i + 3) h)

eight_bytes : (bytes : List ℕ) (i : ℕ) → All IsByte bytes → u64_at bytes i < 2 ^ 64
eight_bytes bytes i h = omega (arith, four_bytes bytes (2 * i) h, four_bytes bytes (2 * i + 1) h)

sixteen_bytes : (bytes : List ℕ) (i : ℕ) → All IsByte bytes → u128_at bytes i < 2 ^ 128
sixteen_bytes bytes i h = omega (arith, eight_bytes bytes (2 * i) h, eight_bytes bytes (2 * i + 1) h)

-- the generator of a seed has a stream
pub seed_has_stream : (seed : ℕ) → HasStream (generator_of seed)
seed_has_stream seed =
    let bytes : List ℕ = pcg32_seed 32 seed in
    (odd_after_or (u128_at bytes 1), or_lt 128 (u128_at bytes 1) 1 (sixteen_bytes bytes 1 (bytes_of_seed 32 seed)) (omega arith))

-- the generator of a seed at a place
pub place_has_stream : (seed place : ℕ) (g : Lcg) → g ≡ generator_at seed place → HasStream g
place_has_stream seed place g e = let P : Lcg → Type 0 = HasStream in subst P (sym e) (seed_has_stream seed)

-- from a place to one behind it
behind : (seed place more there : ℕ) (g moved : Lcg) → place + more ≡ there → g ≡ generator_at seed place → moved ≡ advance 128 multiplier_128 more g → moved ≡ generator_at seed there
behind seed place more there g moved sum e jump = jump ∙ ap (advance 128 multiplier_128 more) e ∙ generator_at-add seed place more there sum

-- from the start of a step to its middle, and from there to the start of the next step
pub middle_is : (seed step : ℕ) (start middle : Lcg) → start ≡ generator_at seed (place_of step 0) → middle ≡ advance 128 multiplier_128 half start → middle ≡ generator_at seed (place_of step half)
middle_is seed step start middle = behind seed (place_of step 0) half (place_of step half) start middle (omega arith)

pub next_is : (seed step : ℕ) (middle next : Lcg) → middle ≡ generator_at seed (place_of step half) → next ≡ advance 128 multiplier_128 half middle → next ≡ generator_at seed (place_of (step + 1) 0)
next_is seed step middle next = behind seed (place_of step half) half (place_of (step + 1) 0) middle next (omega arith)

-- from a slot of a step to one behind it
pub slot_is : (seed step slot more there : ℕ) (g moved : Lcg) → slot + more ≡ there → g ≡ generator_at seed (place_of step slot) → moved ≡ advance 128 multiplier_128 more g → moved ≡ generator_at seed (place_of step there)
slot_is seed step slot more there g moved sum = behind seed (place_of step slot) more (place_of step there) g moved (omega (arith, sum))
