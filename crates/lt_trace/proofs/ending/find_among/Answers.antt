use Rattle.lt_rif.specs.declared.end.End.TheVariants.{Normal}
use Rattle.lt_trace.proofs.Ends.{in_at}
use Rattle.lt_trace.proofs.ending.find_among.Goals as goal

pub returns-then-is_end : goal.returns-then-is_end
returns-then-is_end c = (in_at c.args.ends.now c.loop-end.end-index Normal c.loop-end-test.true, c.is_end.ensures.yes c.if-is_end.true)
