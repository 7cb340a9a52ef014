-- A piece is taken from what is left, and is empty at the end alone.
use Rattle.std.proofs.Common.{◌≡◌, ◌+◌, min, take, drop, length, arith, rules, sym}
use Rattle.std.proofs.lemmas.Grind.{common_steps}
use Rattle.std.proofs.lemmas.List.{drop-drop}
use Rattle.lt_io.proofs.Pieces.{piece_taken, none_left}
use Rattle.lt_io.proofs.script_link.ScriptLinkLink.recv.Goals as goal

pub returns-clause-takes : goal.returns-clause-takes
returns-clause-takes c =
    let link = c.self.inside in
    let left = drop link.given link.bytes.items in
    let count = c.min-count.result in
    let is_left : c.args.self.now.left ≡ left = search rules in
    let piece : c.copy_from_slice.new.self ≡ take count left = grind (arith, common_steps) in
    let shortest : count ≡ min c.next-most.result (length left) = grind (arith, common_steps) in
    let after : drop (link.given + count) link.bytes.items ≡ drop count left = sym (drop-drop count link.given link.bytes.items) in
    rw (is_left, piece, after) (piece_taken left c.args.into.now count (omega (arith, shortest)), λ z _. none_left left c.next-most.result count shortest (c.next-most.ensures.some c.requires) z)
