-- The pieces of a frame, one behind the other.
use Rattle.std.proofs.Common.{◌∙◌, subst}
use Rattle.lt_campaign.specs.inner.Writing.{PutsBehind}
use Rattle.lt_campaign.proofs.Lines.{frame_pieces}
use Rattle.lt_campaign.proofs.framing.put_frame.Goals as goal

pub returns : goal.returns
returns g c = λ start before has.
    subst (PutsBehind c.put_pieces.result start (g.S.Sink.state c.put_pieces.new.trace) c.put_pieces.new.waiting.items before)
    (frame_pieces c.args.session c.args.text.now c.as_bytes-session.result.now c.as_bytes-length.result.now
    (c.as_bytes-session.ensures.value ∙ c.format.ensures.text) (c.as_bytes-length.ensures.value ∙ c.format-2.ensures.text)) (c.put_pieces.ensures start before has)
