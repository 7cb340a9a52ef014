use Rattle.std.proofs.Common.{◌≡◌, drop}
use Rattle.lt_io.specs.MemFiles.{first_named}
use Rattle.lt_io.proofs.mem_files.found.Given as goal

abbrev pub invariant-loop-entry : goal.invariant-loop-entry
invariant-loop-entry l = first_named (drop l.entry-index l.entries) l.name ≡ first_named l.entries l.name
