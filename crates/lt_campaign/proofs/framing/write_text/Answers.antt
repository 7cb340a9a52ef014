-- What failed to be written is not all of the text.
use Rattle.lt_campaign.proofs.Writing.{all_but_an_end}
use Rattle.lt_campaign.proofs.framing.write_text.Goals as goal

pub returns-in-Err-clause-put : goal.returns-in-Err-clause-put
returns-in-Err-clause-put g c = record {
  all = tt;
  prefix = all_but_an_end (g.S.Sink.state c.args.trace.now).written (g.S.Sink.state c.put_counted.new.sink).written c.args.text.now c.in-Err.field-0 c.in-Err.ensures.part c.in-Err.ensures.prefix;
  cause = record { later = c.in-Err.ensures.cause.later; failed = c.in-Err.ensures.cause.failed; calm = tt };
}
