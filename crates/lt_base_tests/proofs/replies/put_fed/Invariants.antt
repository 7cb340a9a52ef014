use Rattle.std.proofs.Common.{◌≡◌, ◌≤◌, length}
use Rattle.lt_rif.specs.Reading.{reading, given}
use Rattle.lt_base_tests.proofs.replies.put_fed.Given as goal

-- the reader was given all up to this place, and the piece goes on up to its end
abbrev pub invariant-pieces : goal.invariant-pieces
invariant-pieces l = record {
  given : given (reading l.reader) ≡ l.place;
  piece : l.place ≤ l.end;
  stream : l.end ≤ length l.stream;
}
