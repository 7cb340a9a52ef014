-- The two pipes of a program.
use Rattle.std.specs.Prelude.{ℕ, List}
use Rattle.std.specs.Io.KnownBytes.{prepend_known}
use Rattle.std.specs.declared.option.Option.{Option}
use Rattle.lt_io.specs.declared.pipes.Pipes.{Pipes}

-- what is left of them: what was kept, and then what the reader still gives, where that is told
abbrev pub left_of : {W R : Type 0} → (R → Option (List ℕ)) → Pipes W R → Option (List ℕ)
left_of remaining pipes = prepend_known pipes.kept.items (remaining pipes.output)
