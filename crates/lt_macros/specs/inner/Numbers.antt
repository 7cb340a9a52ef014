-- What stands before a place, as the code has it.
use Rattle.lt_macros.specs.Denotation.{Numbers}
use Rattle.lt_macros.specs.declared.numbers.Numbers as code

-- how many terms, locals and counters stand before a place
abbrev pub numbers_view : code.Numbers → Numbers
numbers_view n = record { term = n.term; local = n.local; counter = n.counter }
