-- The command that the words of a call are read by, in clap's words for a simple command.
use Rattle.std.specs.Prelude.{ℕ, true, List, [], ◌∷◌, Some, codes, fold}
use Rattle.clap.specs.Simple.{App, new_app, new_rule, on_top, with_rule}
use Rattle.clap.specs.Walk.{Rule, Text}
use Rattle.clap.specs.declared.builder.action.ArgAction.TheVariants.{SetTrue}
use Rattle.clap.specs.declared.builder.value_parser.ValueParser.TheVariants.{Unsigned}
use Rattle.lt_args.specs.Settings.{most_steps, most_seed, most_decimals, most_budget, most_count, most_draw}

-- a word that has to be there, and is known by its place
abbrev pub placed : Text → Rule
placed name = record (new_rule name) { required = true }

-- `--NAME`, with a word after it
abbrev pub with_word : Text → Rule
with_word name = record (new_rule name) { long = Some name }

-- `--NAME`, with a number from the least to the most after it
abbrev pub with_number : Text → ℕ → ℕ → Rule
with_number name least most = record (with_word name) { parser = Some (Unsigned least most) }

-- `-l`, with a number of steps after it
abbrev pub limit : Rule
limit = record (new_rule (codes "limit")) { short = Some 108; parser = Some (Unsigned 0 most_steps) }

-- `--locals`, with nothing after it
abbrev pub locals : Rule
locals = record (with_word (codes "locals")) { action = Some SetTrue }

-- MODE, FILE and the options; clap adds `-h` and `--help`
abbrev pub arguments : List Rule
arguments =
    placed (codes "mode")
    ∷ placed (codes "file")
    ∷ limit
    ∷ with_number (codes "seed") 0 most_seed
    ∷ with_number (codes "precision") 0 most_decimals
    ∷ with_number (codes "budget") 1 most_budget
    ∷ with_word (codes "node")
    ∷ with_word (codes "sut")
    ∷ with_word (codes "oracle")
    ∷ with_word (codes "replay")
    ∷ locals
    ∷ with_number (codes "draw") 1 most_draw
    ∷ with_number (codes "count") 1 most_count
    ∷ []

-- no argument yet; the words have no program's name before them
abbrev pub no_arguments : App
no_arguments = on_top (λ s. record s { no_binary_name = true }) (new_app (codes "lurette"))

-- the command
abbrev pub command : App
command = fold with_rule no_arguments arguments
