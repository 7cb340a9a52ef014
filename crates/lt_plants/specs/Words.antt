-- Which plant words name.
use Rattle.std.specs.Prelude.{◌≡◌, ℕ, ◌<◌, ◌≤◌, List, [], ◌∷◌, length, codes, IsTrue, ℤ}
use Rattle.std.specs.Char.{is_ascii_digit}
use Rattle.std.specs.List.{list_all}
use Rattle.std.specs.Str.Parse.{starts_with_minus, digits_value}
use Rattle.lt_num.specs.Literal.{without_minus}
use Rattle.lt_num.specs.Rounding.{with_sign}
use Rattle.lt_plants.specs.declared.plant.Plant.{Plant}
use Rattle.lt_plants.specs.declared.plant.Plant.TheVariants as plant

-- digits of a number that a plant may answer: one at least, and eighteen at most
pub record AreDigits (digits : List ℕ) : Type 0 where
  pub form : IsTrue (list_all is_ascii_digit digits)
  pub some : 0 < length digits
  pub short : length digits ≤ 18

-- a text that is such digits, with a minus where it has one, and the number that it is
pub record IsNumberText (text : List ℕ) (number : ℤ) : Type 0 where
  pub digits : AreDigits (without_minus text)
  pub value : number ≡ with_sign (starts_with_minus text) (digits_value 10 (without_minus text))

-- the words name a plant: its own word alone, or `constant` and the number
abbrev pub IsNamed : Plant → List (List ℕ) → Type 0
IsNamed plant.Thermostat words = words ≡ codes "thermostat" ∷ []
IsNamed plant.Gate words = words ≡ codes "gate" ∷ []
IsNamed plant.Safe words = words ≡ codes "safe" ∷ []
IsNamed (plant.Constant n) words = (text : List ℕ) × (words ≡ codes "constant" ∷ text ∷ []) × IsNumberText text n
