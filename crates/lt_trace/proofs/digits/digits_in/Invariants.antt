use Rattle.std.proofs.Common.{◌≡◌, drop}
use Rattle.std.specs.Str.{all_ascii_digits}
use Rattle.std.specs.Str.Parse.{digits_value, digits_value_after}
use Rattle.lt_trace.proofs.digits.digits_in.Given as goal

-- what was read, and what is left, is the text
abbrev pub invariant-loop-byte : goal.invariant-loop-byte
invariant-loop-byte l = record {
  value : digits_value_after 10 l.number (drop l.byte-index l.text) ≡ digits_value 10 l.text;
  digits : all_ascii_digits (drop l.byte-index l.text) ≡ all_ascii_digits l.text;
}
