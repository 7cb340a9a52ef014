-- What a word is in a slot of a reply.
use Rattle.std.specs.Prelude.{ℕ, Bool, true, ◌&&◌, nat_le, List, ℤ, int_le, unsigned_abs, if◌then◌else◌, None, Some, Ok, Err}
use Rattle.std.specs.declared.option.Option.{Option}
use Rattle.std.specs.declared.result.Result.{Result}
use Rattle.lt_num.specs.Bounds.{most_raw}
use Rattle.lt_num.specs.Value.{value_of}
use Rattle.lt_num.specs.declared.interval.Interval.{Interval}
use Rattle.lt_num.specs.declared.value.Value.{Value}
use Rattle.lt_rif.specs.Number.{raw_written}
use Rattle.lt_rif.specs.declared.slot.Slot.{Slot}
use Rattle.lt_rif.specs.declared.fault.ValueFault.{ValueFault}
use Rattle.lt_rif.specs.declared.fault.ValueFault.TheVariants as fault

-- whether a raw number is within a range, if there is one
abbrev pub is_within : Option Interval → ℤ → Bool
is_within None raw = true
is_within (Some range) raw = int_le range.low raw && int_le raw range.high

-- a raw number that is not past the bound of all numbers
abbrev pub bounded_raw : Option ℤ → Result ℤ ValueFault
bounded_raw None = Err fault.NotAValue
bounded_raw (Some raw) = if nat_le (unsigned_abs raw) most_raw then Ok raw else Err fault.OutOfRange

-- the value that a raw number is in a slot
abbrev pub in_slot : Slot → Result ℤ ValueFault → Result Value ValueFault
in_slot slot (Ok raw) = if is_within slot.range raw then Ok (value_of slot.kind raw) else Err fault.OutOfRange
in_slot slot (Err f) = Err f

-- the value that a word writes in a slot, or why it writes none; reals have so many decimals
unfoldable pub judged : ℕ → Slot → List ℕ → Result Value ValueFault
judged decimals slot word = in_slot slot (bounded_raw (raw_written decimals slot.kind word))
