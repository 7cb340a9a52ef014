-- The pieces of the line at the end, one behind the other.
use Rattle.std.proofs.Common.{◌∙◌, subst}
use Rattle.lt_campaign.specs.inner.Writing.{PutsBehind}
use Rattle.lt_campaign.proofs.Lines.{end_pieces}
use Rattle.lt_campaign.proofs.framing.put_end.Goals as goal

pub returns : goal.returns
returns g c = λ start before has.
    subst (PutsBehind c.put_pieces.result start (g.S.Sink.state c.put_pieces.new.trace) c.put_pieces.new.waiting.items before)
    (end_pieces c.args.sessions c.args.well c.as_bytes-sessions.result.now c.as_bytes-well.result.now
    (c.as_bytes-sessions.ensures.value ∙ c.format.ensures.text) (c.as_bytes-well.ensures.value ∙ c.format-2.ensures.text)) (c.put_pieces.ensures start before has)
