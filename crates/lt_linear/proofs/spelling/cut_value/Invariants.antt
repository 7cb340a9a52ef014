use Rattle.std.proofs.Common.{◌≡◌, ◌≤◌, drop}
use Rattle.std.specs.Str.Parse.{digits_value, digits_value_after}
use Rattle.lt_linear.specs.inner.Parsing.{cut, least_past}
use Rattle.lt_linear.proofs.spelling.cut_value.Given as goal

-- the digits that are left, after what was read, write the number up to the cut
abbrev pub invariant-loop-digit : goal.invariant-loop-digit
invariant-loop-digit l =
    record {
      value : cut (digits_value_after 10 l.value (drop l.digit-index l.digits)) ≡ cut (digits_value 10 l.digits);
      small : l.value ≤ least_past;
    }
