-- The direction in which a variable goes on from its target, and the slots of what is drawn for variables.
use Rattle.std.specs.Prelude.{◌≢◌, ℕ, ◌+◌, ◌%◌, ◌^◌, ◌<◌, ◌==◌, Bool, false}
use Rattle.lt_draw.specs.Word.{slots}
use Rattle.lt_draw.specs.declared.directions.Draw.{Draw}
use Rattle.lt_draw.specs.declared.directions.Draw.TheVariants.{Directed, Inside, Up}

-- how many variables have slots
abbrev pub most_drawn : ℕ
most_drawn = 128

-- the slot of the word that a variable has its target from, by the variable's number
abbrev pub slot_of_target : ℕ → ℕ
slot_of_target variable = 2 ^ 23 + variable

-- the slot of the word that it has its direction from
abbrev pub slot_of_direction : ℕ → ℕ
slot_of_direction variable = 2 ^ 23 + most_drawn + variable

-- a word says downward where it is odd
abbrev pub is_downward : ℕ → Bool
is_downward word = word % 2 == 1

-- Whether a variable goes downward from its target, where the word of each slot is given: as its own word says, if directions
-- are drawn, and else never.
abbrev pub goes_down : Draw → (ℕ → ℕ) → ℕ → Bool
goes_down Up word variable = false
goes_down Directed word variable = is_downward (word (slot_of_direction variable))
goes_down Inside word variable = is_downward (word (slot_of_direction variable))

-- No target and no direction have one slot, and each has a slot of the step.
abbrev pub SlotsAreApart : Type 0
SlotsAreApart =
    (variable other : ℕ) → variable < most_drawn → other < most_drawn →
    (slot_of_target variable ≢ slot_of_direction other) × (slot_of_target variable < slots) × (slot_of_direction other < slots)
