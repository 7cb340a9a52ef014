-- What was read is all there is, unless it is more than was asked for.
use Rattle.std.proofs.Common.{arith}
use Rattle.lt_io.proofs.Loading.{all_read, more_left}
use Rattle.lt_io.proofs.dir_files.whole.Goals as goal

pub returns-in-Ok-clause-longer : goal.returns-in-Ok-clause-longer
returns-in-Ok-clause-longer g c =
    more_left g.F.Read.remaining c.take-file.result c.args.file c.new-bytes.result.items c.read_to_end.new.buf.items c.take-file.ensures.inner c.new-bytes.ensures.items c.in-Ok.ensures.bytes _ c.args.most (grind arith)

pub returns-in-Ok-2-clause-all : goal.returns-in-Ok-2-clause-all
returns-in-Ok-2-clause-all g c =
    all_read g.F.Read.remaining c.take-file.result c.args.file c.new-bytes.result.items c.read_to_end.new.buf.items c.take-file.ensures.inner c.new-bytes.ensures.items c.in-Ok-2.ensures.bytes (grind arith)
