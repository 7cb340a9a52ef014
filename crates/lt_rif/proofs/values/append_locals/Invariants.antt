use Rattle.std.proofs.Common.{◌≡◌, ◌≤◌, ◌++◌, length, vec_capacity}
use Rattle.lt_rif.specs.Room.{HasRoom}
use Rattle.lt_rif.specs.Trace.{local_words}
use Rattle.lt_rif.specs.inner.Spaced.{after_space}
use Rattle.lt_rif.proofs.values.append_locals.Given as goal

-- what is written so far, and the values to come, are the whole
abbrev pub invariant-loop-kinds : goal.invariant-loop-kinds
invariant-loop-kinds l = record {
  items : l.into.items ++ after_space (local_words l.decimals l.kinds l.locals) ≡ l.fn.into.items ++ after_space (local_words l.decimals l.fn.kinds l.fn.locals);
  capacity : vec_capacity l.fn.into ≤ vec_capacity l.into;
  room : HasRoom l.into (after_space (local_words l.decimals l.kinds l.locals));
}

abbrev pub decreases-loop-kinds : goal.decreases-loop-kinds
decreases-loop-kinds l = length l.kinds
