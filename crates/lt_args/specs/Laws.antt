-- What follows for the words of a call.
use Rattle.std.specs.Prelude.{◌≡◌, ◌≤◌, ℕ, false, true, List, decimal}
use Rattle.clap.specs.ValueTests.{accepts}
use Rattle.clap.specs.declared.builder.value_parser.ValueParser.TheVariants.{Unsigned}
use Rattle.lt_args.specs.Settings.{most_seed}
use Rattle.lt_args.specs.Words.{number_of}

-- clap lets a word through as a number from the least to the most
abbrev pub IsTaken : ℕ → ℕ → List ℕ → Type 0
IsTaken least most word = accepts false (Unsigned least most) word ≡ true

-- A word that is let through is read as a number within those bounds ..
abbrev pub NumbersAreWithin : Type 0
NumbersAreWithin = (least most : ℕ) (word : List ℕ) → IsTaken least most word → (least ≤ number_of word) × (number_of word ≤ most)

-- .. and the printed form of each number within them, where they are no wider than those of a seed, is let through and read as that number.
abbrev pub PrintedNumbersAreTaken : Type 0
PrintedNumbersAreTaken = (least most n : ℕ) → least ≤ n → n ≤ most → most ≤ most_seed → IsTaken least most (decimal n) × (number_of (decimal n) ≡ n)
