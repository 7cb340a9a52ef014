use Rattle.std.proofs.Common.{◌≡◌, ◌∷◌, ◌++◌, drop}
use Rattle.std.specs.Process.{command_args, command_program}
use Rattle.lt_io.specs.Command.{texts_of, words_of}
use Rattle.lt_io.proofs.command.command_of.Given as goal

-- the program, the arguments so far, and those that are left
abbrev pub invariant-loop-argument : goal.invariant-loop-argument
invariant-loop-argument l = words_of l.text ≡ command_program l.command ∷ (command_args l.command ++ texts_of (drop l.argument-index l.arguments))
