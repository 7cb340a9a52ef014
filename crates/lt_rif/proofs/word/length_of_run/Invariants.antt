use Rattle.std.proofs.Common.{◌≡◌, false, take}
use Rattle.std.specs.List.{list_any}
use Rattle.lt_rif.specs.Word.{is_blank}
use Rattle.lt_rif.proofs.word.length_of_run.Given as goal

abbrev pub invariant-loop-index : goal.invariant-loop-index
invariant-loop-index l = list_any is_blank (take l.index l.bytes) ≡ false
