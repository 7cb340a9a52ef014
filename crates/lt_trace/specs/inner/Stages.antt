-- Where the code stands between two lines.
use Rattle.std.specs.Prelude.{◌≡◌, ℕ, suc, ◌+◌, false, List, [], ◌∷◌, ◌++◌, drop, length, None, Some}
use Rattle.std.specs.List.{list_any}
use Rattle.std.specs.declared.option.Option.{Option}
use Rattle.lt_trace.specs.Lines.{IsLine, Place, at_end, at_inputs, at_locals, at_outputs, at_rule, at_seed, at_step, at_values, is_feed}
use Rattle.lt_trace.specs.Shape.{Shape}
use Rattle.lt_trace.specs.Told.{Shown}
use Rattle.lt_trace.specs.declared.stage.HeaderLine.{HeaderLine}
use Rattle.lt_trace.specs.declared.stage.HeaderLine.TheVariants as header
use Rattle.lt_trace.specs.declared.stage.Next.{Next}
use Rattle.lt_trace.specs.declared.stage.Next.TheVariants as next
use Rattle.lt_trace.specs.declared.stage.Stage.{Stage}
use Rattle.lt_trace.specs.declared.stage.Stage.TheVariants as stage

-- the place of a line of the header
abbrev pub place_in_header : HeaderLine → Place
place_in_header header.Seed = at_seed
place_in_header header.Rule = at_rule
place_in_header header.Outputs = at_outputs
place_in_header header.Inputs = at_inputs
place_in_header header.Locals = at_locals

-- the place of a stage, where these steps were told
abbrev pub place_at : Stage → List Shown → Place
place_at (stage.Header line) steps = place_in_header line
place_at stage.Step steps = at_step steps
place_at stage.Values steps = at_values steps

-- no step is told before the first one
abbrev pub IsSoFar : Stage → List Shown → Type 0
IsSoFar (stage.Header line) steps = steps ≡ []
IsSoFar _ steps = Unit {0}

-- what comes next, by a line, where a reader stands at a place; these steps were told then
abbrev pub ComesNext : Shape → Place → List ℕ → Next → List Shown → Type 0
ComesNext shape p text (next.At s) steps = IsLine shape p text (place_at s steps) × IsSoFar s steps
ComesNext shape p text (next.Over e) steps = IsLine shape p text (at_end (record { steps = steps; end = e }))
ComesNext shape p text next.Bad steps = (q : Place) → IsLine shape p text q → ⊥

-- the first line feed from a place on
abbrev pub IsFeed : List ℕ → ℕ → Option ℕ → Type 0
IsFeed text at None = list_any is_feed (drop at text) ≡ false
IsFeed text at (Some end) =
    (word : List ℕ) × (list_any is_feed word ≡ false) × (end ≡ at + length word) × (drop at text ≡ word ++ 10 ∷ drop (suc end) text)
