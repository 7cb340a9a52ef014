-- What was kept is received from its front.
use Rattle.std.proofs.Common.{◌≡◌, ◌<◌, ◌≤◌, ◌++◌, min, take, drop, length, arith, length-append, length-drop}
use Rattle.std.proofs.lemmas.Grind.{common_steps}
use Rattle.std.proofs.lemmas.List.{length-take-le}
use Rattle.lt_io.proofs.Keeping.{received}
use Rattle.lt_io.proofs.Pieces.{piece_taken}
use Rattle.lt_io.proofs.pipes.Pipes.receive.Goals as goal

pub returns-clause-takes : goal.returns-clause-takes
returns-clause-takes g c =
    let kept = c.args.self.now.kept.items in
    let into = c.args.into.now in
    let count = c.min-count.result in
    let rest = c.drop.new.self.0.items in
    let least : count ≡ min (length into) (length kept) = grind (arith, common_steps) in
    let some : 0 < length kept = grind (arith, common_steps) in
    let within : count ≤ length kept = omega (arith, least) in
    let piece : c.copy_from_slice.new.self ≡ take count kept = grind (arith, common_steps) in
    let after : rest ≡ drop count kept = grind (arith, common_steps) in
    let whole : kept ≡ take count (c.copy_from_slice.new.self ++ drop count into) ++ rest = rw (piece, after) (piece_taken kept into count within) in
    let size = length-append c.copy_from_slice.new.self (drop count into) in
    let front : length c.copy_from_slice.new.self ≡ count = rw piece (length-take-le count kept within) in
    (received (g.R.Read.remaining c.args.self.now.output) kept (take count (c.copy_from_slice.new.self ++ drop count into)) rest whole, λ none room. absurd (omega (arith, none, room, least, some, size, front, length-drop count into)))
