-- How the last line of a trace tells its end.
use Rattle.std.specs.Prelude.{◌≡◌, ◌<◌, ℕ, ◌^◌, List, length}
use Rattle.lt_rif.specs.Trace.{end_number, end_text, line}
use Rattle.lt_rif.specs.declared.end.End.{End}
use Rattle.lt_rif.specs.declared.end.End.TheVariants as end
use Rattle.lt_trace.specs.declared.recorded.RecordedEnd.{RecordedEnd}
use Rattle.lt_trace.specs.declared.recorded.RecordedEnd.TheVariants as recorded

-- what an end tells of a scenario: of the other ends it says nothing
abbrev pub recorded_of : End → RecordedEnd
recorded_of end.Normal = recorded.Normal
recorded_of end.Deadlock = recorded.Deadlock
recorded_of (end.Raise exception) = recorded.Raise exception
recorded_of (end.Fault fault) = recorded.Fault fault
recorded_of _ = recorded.Cut

-- the line of an end behind so many steps, where exceptions have these names
abbrev pub end_line : End → List (List ℕ) → ℕ → List ℕ
end_line e names steps = end_text e names (end_number e steps)

-- An end that a trace may tell behind so many steps, where exceptions have these names. A verdict is false of a step, and
-- a need has 128 bits; of exceptions with one name the first one is told.
abbrev pub MayTell : End → List (List ℕ) → ℕ → Type 0
MayTell end.Oracle names steps = 0 < steps
MayTell (end.Budget need) names steps = need < 2 ^ 128
MayTell (end.Raise exception) names steps =
    (exception < length names)
    × ((other : ℕ) → other < exception →
    end_line (end.Raise other) names steps ≡ end_line (end.Raise exception) names steps → ⊥)
MayTell _ names steps = Unit {0}

-- a text, which has no line feed, tells this end behind so many steps
abbrev pub IsEnd : List (List ℕ) → ℕ → List ℕ → RecordedEnd → Type 0
IsEnd names steps text r =
    (e : End) × MayTell e names steps × (line text ≡ end_line e names steps) × (r ≡ recorded_of e)
