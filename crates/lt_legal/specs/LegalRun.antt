-- Which traces are legal runs of a scenario.
use Rattle.std.specs.Prelude.{◌≡◌, ℕ, false, List, [], slice_index_or}
use Rattle.lt_num.specs.declared.value.Value.{Value}
use Rattle.lt_term.specs.Configuration.{Configuration}
use Rattle.lt_term.specs.Evaluated.{faulty, raised, vanish}
use Rattle.lt_term.specs.Scene.{Scene}
use Rattle.lt_trace.specs.Told.{Told}
use Rattle.lt_trace.specs.declared.recorded.RecordedEnd.{RecordedEnd}
use Rattle.lt_trace.specs.declared.recorded.RecordedEnd.TheVariants as recorded
use Rattle.lt_instant.specs.Instant.{is_too_large, judged}
use Rattle.lt_instant.specs.Legal.{HasLiveLeaf}
use Rattle.lt_legal.specs.Follows.{MayTake, Reached, inputs_behind}

-- the name of an exception
abbrev pub name_of : Scene → ℕ → List ℕ
name_of s z = slice_index_or s.exceptions z []

-- This may be the end of a run that stands here, where these are the inputs of the next instant. A
-- trace shows the name of an exception, so one of the same name serves. Of the other ends the
-- scenario says nothing.
abbrev pub MayEnd : Scene → Configuration → List Value → RecordedEnd → Type 0
MayEnd s c inputs recorded.Normal = (is_too_large s c ≡ false) × MayTake s c inputs vanish
MayEnd s c inputs (recorded.Raise z) =
    (is_too_large s c ≡ false)
    × ((y : ℕ) × (name_of s y ≡ name_of s z) × MayTake s c inputs (raised y))
MayEnd s c inputs (recorded.Fault f) = (is_too_large s c ≡ false) × MayTake s c inputs (faulty f)
MayEnd s c inputs recorded.Deadlock =
    (is_too_large s c ≡ false) × (HasLiveLeaf s (judged s c inputs) → ⊥)
MayEnd s c inputs recorded.Cut = Unit {0}

-- The whole trace is a legal run: its steps lead somewhere, and there it may end so.
abbrev pub IsLegalRun : Scene → Told → Type 0
IsLegalRun s t =
    (c : Configuration) × Reached s t.steps c × MayEnd s c (inputs_behind s t.steps) t.end
