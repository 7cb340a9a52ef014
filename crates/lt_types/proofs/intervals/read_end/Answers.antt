use Rattle.std.proofs.Common.{rules}
use Rattle.lt_ast.specs.View.{figure}
use Rattle.lt_types.proofs.Ranges.{end_fits, end_raw, end_too_large}
use Rattle.lt_types.proofs.intervals.read_end.Goals as goal

pub returns-in-Ok-clause-size : goal.returns-in-Ok-clause-size
returns-in-Ok-clause-size c = end_fits c.as_bytes.result.now (figure c.args.end.now) c.args.decimals c.read.result c.in-Ok.number (search rules) c.in-Ok.is c.read.ensures

pub returns-in-Ok-clause-raw : goal.returns-in-Ok-clause-raw
returns-in-Ok-clause-raw c = end_raw c.as_bytes.result.now (figure c.args.end.now) c.args.decimals c.read.result c.in-Ok.number (search rules) c.in-Ok.is c.read.ensures

pub returns-clause-size : goal.returns-clause-size
returns-clause-size c = end_too_large c.as_bytes.result.now (figure c.args.end.now) c.args.decimals c.read.result _ (search rules) c.in-Err.is c.read.ensures
