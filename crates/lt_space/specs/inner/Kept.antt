-- What is kept of expressions while constraints are loaded: items in a list that grows, and for each expression the number of
-- its item.
use Rattle.std.specs.Prelude.{◌≡◌, ◌<◌, ◌≤◌, ℕ, suc, Bool, true, false, List, [], ◌∷◌, length, slice_index_or, Option, None, Some, Ok}
use Rattle.std.specs.List.{list_all}
use Rattle.std.specs.declared.result.Result.{Result}
use Rattle.lt_num.specs.declared.fault.Arith.{Arith}

-- the number that is kept at a place
abbrev pub number_at : List (Option ℕ) → ℕ → Option ℕ
number_at numbers k = slice_index_or numbers k None

-- how many places keep none
abbrev pub unkept : List (Option ℕ) → ℕ
unkept [] = 0
unkept (None ∷ numbers) = suc (unkept numbers)
unkept (Some n ∷ numbers) = unkept numbers

-- whether a place keeps none
abbrev pub is_free : Option ℕ → Bool
is_free None = true
is_free (Some n) = false

-- whether no place keeps one
abbrev pub are_free : List (Option ℕ) → Bool
are_free numbers = list_all is_free numbers

-- The item of a number is what is due.
pub record Stands (A : Type 0) (filler : A) (items : List A) (n : ℕ) (due : Result A Arith) : Type 0 where
  pub within : n < length items
  pub is : Ok (slice_index_or items n filler) ≡ due

-- each number that is kept stands for what is due at its place
abbrev pub AreKept : (A : Type 0) → A → List A → List (Option ℕ) → (ℕ → Result A Arith) → Type 0
AreKept A filler items numbers due = (k n : ℕ) → number_at numbers k ≡ Some n → Stands A filler items n (due k)

-- Each item that was there is there.
pub record Grows (A : Type 0) (filler : A) (old new : List A) : Type 0 where
  pub more : length old ≤ length new
  pub same : (n : ℕ) → n < length old → slice_index_or new n filler ≡ slice_index_or old n filler

-- from a place on nothing changed
abbrev pub SameFrom : ℕ → List (Option ℕ) → List (Option ℕ) → Type 0
SameFrom from old new = (k : ℕ) → from ≤ k → number_at new k ≡ number_at old k
