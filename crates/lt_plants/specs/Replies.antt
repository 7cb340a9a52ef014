-- Lines to a plant, and what it replies. The byte 32 is a blank.
use Rattle.std.specs.Prelude.{◌≡◌, ℕ, ◌≤◌, Bool, true, false, ◌&&◌, List, [], ◌∷◌, ◌++◌, ℤ, pos, ◌<ℤ◌, ◌≤ℤ◌, unsigned_abs, ◌↔◌}
use Rattle.lt_num.specs.Bounds.{most_raw}
use Rattle.lt_num.specs.Text.{text_of}
use Rattle.lt_plants.specs.declared.plant.Plant.{Plant}
use Rattle.lt_plants.specs.declared.plant.Plant.TheVariants as plant

-- the letter of a truth: `t` and `f`
abbrev pub letter : Bool → ℕ
letter true = 116
letter false = 102

-- a blank and a truth after it
abbrev pub after_blank : Bool → List ℕ
after_blank truth = 32 ∷ letter truth ∷ []

-- how many decimals a plant's reals have
abbrev pub decimals : ℕ
decimals = 2

-- a line has this real, of which the raw number counts hundredths, in prefix of a text
pub record HasReal (line : List ℕ) (raw : ℤ) (after : List ℕ) : Type 0 where
  pub within : unsigned_abs raw ≤ most_raw
  pub text : line ≡ text_of decimals raw ++ after

-- The answer of a thermostat whose last one is known, at a temperature: it heats below 19.00, it doesn't above
-- 21.00, and between them it goes on as it did.
pub record IsHeating (last : Bool) (temperature : ℤ) (now : Bool) : Type 0 where
  pub cold : temperature <ℤ pos 1900 → now ≡ true
  pub warm : pos 2100 <ℤ temperature → now ≡ false
  pub between : pos 1900 ≤ℤ temperature → temperature ≤ℤ pos 2100 → now ≡ last

-- The reply of a plant to a line, both without their line feeds. `last` is what the plant kept of the line before,
-- and `now` what it keeps of this one.
abbrev pub IsReply : Plant → Bool → List ℕ → List ℕ → Bool → Type 0
-- a temperature, and whether the door is open, which changes nothing: whether it heats, which is kept
IsReply plant.Thermostat last line reply now =
    (temperature : ℤ) × (door : Bool) × HasReal line temperature (after_blank door) × IsHeating last temperature now × (reply ≡ letter now ∷ [])
-- a truth, which is kept: whether this one and the one before are true
IsReply plant.Gate last line reply now = (line ≡ letter now ∷ []) × (reply ≡ letter (last && now) ∷ [])
-- whatever the line is: always the same number
IsReply (plant.Constant n) last line reply now = (reply ≡ text_of 0 n) × (now ≡ last)
-- a temperature, whether the door is open, and whether it is heated: false exactly where it is heated over 30.00
IsReply plant.Safe last line reply now =
    (temperature : ℤ) × (door : Bool) × (heat : Bool) × HasReal line temperature (after_blank door ++ after_blank heat)
    × (safe : Bool) × (reply ≡ letter safe ∷ []) × ((safe ≡ false) ↔ ((pos 3000 <ℤ temperature) × (heat ≡ true))) × (now ≡ last)

-- The plant has no reply to the line.
abbrev pub HasNoReply : Plant → Bool → List ℕ → Type 0
HasNoReply plant last line = (reply : List ℕ) (now : Bool) → IsReply plant last line reply now → ⊥
