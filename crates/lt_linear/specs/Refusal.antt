-- Answers of calls that may lack memory.
use Rattle.std.specs.Prelude.{◌≡◌, Ok, Err}
use Rattle.std.specs.declared.result.Result.{Result}
use Rattle.lt_num.specs.declared.fault.Arith.{Arith}
use Rattle.lt_num.specs.declared.fault.Arith.TheVariants as fault
use Rattle.lt_linear.specs.declared.form.Form.{Form}
use Rattle.lt_linear.specs.declared.refusal.NumRefusal.{NumRefusal}
use Rattle.lt_linear.specs.declared.refusal.NumRefusal.TheVariants.{DivisionByZero, Malformed, Memory, Overflow}

-- A form is what is due, and so is a fault. Want of memory may come in place of each, and no text is malformed where there
-- is none.
abbrev pub TellsForm : Result Form NumRefusal → Result Form Arith → Type 0
TellsForm (Ok form) due = Ok form ≡ due
TellsForm (Err Overflow) due = Err fault.Overflow ≡ due
TellsForm (Err DivisionByZero) due = Err fault.DivisionByZero ≡ due
TellsForm (Err Malformed) due = ⊥
TellsForm (Err Memory) due = Unit {0}
