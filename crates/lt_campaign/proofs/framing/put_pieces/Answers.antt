-- A piece more was put, or a write failed.
use Rattle.std.proofs.Common.{◌<◌, ◌+◌, ◌++◌, List, ℕ, [], get_or, take, drop, length, subst}
use Rattle.std.proofs.Common.{Bor}
use Rattle.std.specs.List.{flat_map}
use Rattle.std.proofs.lemmas.List.{take_all}
use Rattle.lt_campaign.specs.inner.Writing.{HasText}
use Rattle.lt_campaign.proofs.Writing.{cut_piece, flat_one_more, flat_rest, has_piece, puts_err}
use Rattle.lt_campaign.proofs.framing.put_pieces.Goals as goal

-- the text of a piece, and no piece
abbrev text_of : Bor (List ℕ) → List ℕ
text_of piece = piece.now

abbrev no_piece : Bor (List ℕ)
no_piece = record { ref_ptr = (0, 0); now = [] }

pub returns-in_err-put_piece : goal.returns-in_err-put_piece
returns-in_err-put_piece g c = λ start before has.
    let after = g.S.Sink.state c.put_piece.new.trace in
    let i = c.loop-piece.piece-index in
    let pieces = c.args.pieces.now in
    let at : i < length pieces = c.loop-piece-test.true in
    puts_err c.from_residual.result start after c.put_piece.new.waiting.items before (flat_map text_of pieces) c.from_residual.ensures.0
    (cut_piece start after before (flat_map text_of (take i pieces)) (get_or pieces i no_piece).now (flat_map text_of (drop (i + 1) pieces)) (flat_map text_of pieces)
    (flat_rest text_of pieces i no_piece at) (c.in_err-put_piece.ensures start (before ++ flat_map text_of (take i pieces)) (c.loop-piece.invariant start before has)))

pub loop-piece-preserved : goal.loop-piece-preserved
loop-piece-preserved g c = λ start before has.
    let after = g.S.Sink.state c.put_piece.new.trace in
    let i = c.loop-piece.piece-index in
    let pieces = c.args.pieces.now in
    let at : i < length pieces = c.loop-piece-test.true in
    has_piece start after c.put_piece.new.waiting.items before (flat_map text_of (take i pieces)) (get_or pieces i no_piece).now (flat_map text_of (take (i + 1) pieces))
    (flat_one_more text_of pieces i no_piece at) (c.in_ok-put_piece.ensures start (before ++ flat_map text_of (take i pieces)) (c.loop-piece.invariant start before has))

pub returns : goal.returns
returns g c = λ start before has.
    let pieces = c.args.pieces.now in
    let all = take_all c.loop-piece.piece-index pieces c.loop-piece-test.false in
    subst (λ (ps : List (Bor (List ℕ))). HasText start (g.S.Sink.state c.loop-piece.trace) c.loop-piece.waiting.items (before ++ flat_map text_of ps)) all (c.loop-piece.invariant start before has)
