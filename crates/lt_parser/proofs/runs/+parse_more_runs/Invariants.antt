use Rattle.std.proofs.Common.{length}
use Rattle.lt_parser.proofs.runs.+parse_more_runs.Given as goal

abbrev pub decreases-parse_more_runs : goal.decreases-parse_more_runs
decreases-parse_more_runs l = length l.tokens.now
