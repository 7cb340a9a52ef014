-- A piece waits, or what waited was written and then the piece.
use Rattle.std.proofs.Common.{◌≤◌, List, ℕ, arith, length, subst, sym}
use Rattle.lt_campaign.specs.inner.Writing.{HasText, PutsBehind}
use Rattle.lt_campaign.proofs.Writing.{cut_more, put_written, puts_err}
use Rattle.lt_campaign.proofs.framing.put_piece.Goals as goal

pub returns-in_err-settle : goal.returns-in_err-settle
returns-in_err-settle g c = λ start before has.
    let after = g.S.Sink.state c.settle.new.trace in
    let same : length before ≤ length before = omega arith in
    puts_err c.from_residual.result start after c.settle.new.waiting.items before c.args.piece.now c.from_residual.ensures.0
    (cut_more start after before before before c.args.piece.now same (c.in_err-settle.ensures.cut start before has))

pub returns : goal.returns
returns g c = λ start before has.
    let mid = g.S.Sink.state c.settle.new.trace in
    let after = g.S.Sink.state c.write_text.new.trace in
    let none = c.in_ok-settle.ensures.none in
    let settled = subst (λ (w : List ℕ). HasText start mid w before) none (c.in_ok-settle.ensures.written start before has) in
    subst (λ (w : List ℕ). PutsBehind c.write_text.result start after w before c.args.piece.now) (sym {A = List ℕ} none)
    (put_written start mid after before c.args.piece.now settled c.write_text.result c.write_text.ensures.put c.write_text.ensures.still)
