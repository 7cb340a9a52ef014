-- Numbers that a call goes by: the greatest that it takes, and those that hold where its words give none.
use Rattle.std.specs.Prelude.{ℕ}
use Rattle.lt_num.specs.Bounds as numbers
use Rattle.lt_loop.specs.Machine as machine

-- the longest text of a scenario, in bytes
abbrev pub longest_text : ℕ
longest_text = 1_048_576

-- the longest trace that is played again, in bytes
abbrev pub longest_replay : ℕ
longest_replay = 67_108_864

-- the most steps that words may ask for: as many as a machine makes
abbrev pub most_steps : ℕ
most_steps = machine.most_steps

-- the most steps where they don't say
abbrev pub default_steps : ℕ
default_steps = 100

-- the greatest number that a large run may be made from
abbrev pub most_number : ℕ
most_number = 999_999

-- the most decimals that words may ask for: as many as a real may have
abbrev pub most_decimals : ℕ
most_decimals = numbers.most_decimals

-- the decimals of a real where words don't say
abbrev pub default_decimals : ℕ
default_decimals = 2

-- the greatest seed that words may ask for
abbrev pub most_seed : ℕ
most_seed = 18_446_744_073_709_551_615

-- the seed where they don't say
abbrev pub default_seed : ℕ
default_seed = 0

-- the greatest number of a rule of drawing that words may ask for; the least is 1
abbrev pub most_draw : ℕ
most_draw = 3

-- the number of the rule where they don't say
abbrev pub default_draw : ℕ
default_draw = 1

-- the most sessions of a campaign that words may ask for; the least is 1
abbrev pub most_count : ℕ
most_count = 64

-- how many sessions a campaign has where words don't say
abbrev pub default_count : ℕ
default_count = 1

-- the greatest budget that words may ask for
abbrev pub most_budget : ℕ
most_budget = 1_000_000_000_000

-- the budget where they don't say
abbrev pub default_budget : ℕ
default_budget = 10_000_000
