-- The numbers that clap lets through.
use Rattle.std.specs.Prelude.{ℕ, List, IfSome, codes}
use Rattle.clap.specs.Values.{IsUnsignedIn}
use Rattle.clap.specs.Walk.{Row, Text, one_of}
use Rattle.lt_args.specs.Settings.{most_steps, most_seed, most_decimals, most_budget, most_count, most_draw}

-- where an option was given, its word is a number within bounds
abbrev pub Fits : Text → ℕ → ℕ → List Row → Type 0
Fits name least most found = IfSome (one_of name found) (IsUnsignedIn least most)

-- each option that wants a number, and was given, has one within its bounds
pub record NumbersFit (found : List Row) : Type 0 where
  pub limit : Fits (codes "limit") 0 most_steps found
  pub seed : Fits (codes "seed") 0 most_seed found
  pub decimals : Fits (codes "precision") 0 most_decimals found
  pub budget : Fits (codes "budget") 1 most_budget found
  pub draw : Fits (codes "draw") 1 most_draw found
  pub count : Fits (codes "count") 1 most_count found
