-- The reply stands before the line feeds.
use Rattle.lt_plants.proofs.Ways.{fed}
use Rattle.lt_plants.proofs.serving.send_line.Goals as goal

pub returns-in-Ok : goal.returns-in-Ok
returns-in-Ok g c = record {
  sends = record {
    sent = rw (c.copy_from_slice.ensures.after, fed c.args.reply.now c.requires) at c.in-Ok.ensures.all;
    ends = tt;
    fault = λ e. absurd (cc e);
    calm = λ e. c.in-Ok.ensures.cause.calm;
    left = c.in-Ok.ensures.stays;
  };
}
