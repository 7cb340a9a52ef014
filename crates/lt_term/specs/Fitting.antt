-- Whether a value may be one of a variable.
use Rattle.std.specs.Prelude.{◌≡◌, IsTrue}
use Rattle.lt_num.specs.Range.{is_point}
use Rattle.lt_num.specs.Value.{raw_of, value_of}
use Rattle.lt_num.specs.declared.kind.Kind.{Kind}
use Rattle.lt_num.specs.declared.range.Range.{Range}
use Rattle.lt_num.specs.declared.value.Value.{Value}

-- A value is of this kind, and its raw number is a point of this range.
pub record IsValueOf (kind : Kind) (range : Range) (value : Value) : Type 0 where
  pub of_kind : value_of kind (raw_of value) ≡ value
  pub point : IsTrue (is_point range (raw_of value))
