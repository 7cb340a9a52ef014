use Rattle.lt_io.proofs.Texts.{all_but_an_end}
use Rattle.lt_io.proofs.putting.put.Goals as goal

pub returns-in-Err : goal.returns-in-Err
returns-in-Err g c = record {
  all = tt;
  prefix = all_but_an_end (g.S.Sink.state c.args.sink.now).written (g.S.Sink.state c.put_counted.new.sink).written c.args.text.now c.in-Err.field-0 c.in-Err.ensures.part c.in-Err.ensures.prefix;
  cause = record { later = c.in-Err.ensures.cause.later; failed = c.in-Err.ensures.cause.failed; calm = tt };
}
