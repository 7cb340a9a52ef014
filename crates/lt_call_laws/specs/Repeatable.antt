-- Runs that can be played again.
use Rattle.std.specs.Prelude.{Bool, false}
use Rattle.lt_trace_laws.specs.Replay.{is_replayable}
use Rattle.lt_rif.specs.declared.end.End.{End}
use Rattle.lt_rif.specs.declared.end.End.TheVariants as end

-- Whether a run that ended so is told by its replies: not where one was refused or missed, a side failed, or an instant was given
-- up, which another call need not do.
abbrev pub is_repeatable : End → Bool
is_repeatable (end.Budget need) = false
is_repeatable e = is_replayable e
