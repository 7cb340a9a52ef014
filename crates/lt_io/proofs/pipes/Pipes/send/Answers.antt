-- More bytes of the text were sent.
use Rattle.std.proofs.Common.{◌≡◌, ◌≤◌, ◌-◌, arith, length, drop, take, length-drop}
use Rattle.std.proofs.lemmas.List.{take_all}
use Rattle.lt_io.specs.Pipes.{left_of}
use Rattle.lt_io.proofs.Keeping.{stays_longer}
use Rattle.lt_io.proofs.Texts.{written_more}
use Rattle.lt_io.proofs.pipes.Pipes.send.Goals as goal

pub loop-preserved : goal.loop-preserved
loop-preserved g c =
    let text = c.args.bytes.now in
    let sent = c.loop.sent in
    let count = c.in_ok-sent.field-0 in
    let all : take (length text - sent) (drop sent text) ≡ drop sent text = take_all _ _ (omega (arith, length-drop sent text)) in
    let within : count ≤ length (drop sent text) = rw all at c.in_ok-sent.ensures.within in
    let taken = rw all at c.in_ok-sent.ensures.taken in
    record {
      within = omega (arith, c.loop.invariant.within, within, length-drop sent text);
      sent = written_more (g.W.Write.contents c.args.self.now.input) (g.W.Write.contents c.loop.self.input) (g.W.Write.contents c.offer.new.self.input) text sent count c.loop.invariant.sent taken;
      stays = stays_longer (left_of g.R.Read.remaining c.args.self.now) (left_of g.R.Read.remaining c.loop.self) (left_of g.R.Read.remaining c.offer.new.self) c.loop.invariant.stays c.in_ok-sent.ensures.stays;
    }
