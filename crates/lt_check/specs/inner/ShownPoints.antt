-- Whether what a step shows are points of ranges.
use Rattle.std.specs.Prelude.{Bool, true, ◌&&◌, List, [], ◌∷◌, None, Some}
use Rattle.std.specs.declared.option.Option.{Option}
use Rattle.lt_num.specs.Range.{is_point}
use Rattle.lt_num.specs.Value.{raw_of, value_of}
use Rattle.lt_num.specs.declared.value.Value.{Value}
use Rattle.lt_term.specs.Scene.{Scene, Variable}
use Rattle.lt_trace.specs.Told.{Shown}
use Rattle.lt_legal.specs.Follows.{local_raw}

-- whether values are points of the ranges of their variables
abbrev pub are_points : List Variable → List Value → Bool
are_points (v ∷ vs) (value ∷ values) = is_point v.range (raw_of value) && are_points vs values
are_points _ _ = true

-- whether the value of a local is one, where it is in scope
abbrev pub is_local_point : Variable → Option Value → Bool
is_local_point v None = true
is_local_point v (Some value) = is_point v.range (raw_of value)

-- whether those of locals are
abbrev pub are_local_points : List Variable → List (Option Value) → Bool
are_local_points (v ∷ vs) (local ∷ locals) = is_local_point v local && are_local_points vs locals
are_local_points _ _ = true

-- the values of locals by their raw numbers
abbrev pub local_values : List Variable → List (Option Value) → List Value
local_values (v ∷ vs) (local ∷ locals) = value_of v.kind (local_raw local) ∷ local_values vs locals
local_values _ _ = []

-- whether each value of a step is a point
abbrev pub possible : Scene → Shown → Bool
possible s step = are_points s.outputs step.outputs && are_local_points s.locals step.locals
