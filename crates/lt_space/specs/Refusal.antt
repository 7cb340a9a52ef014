-- Answers of calls that may lack memory.
use Rattle.std.specs.Prelude.{◌≡◌, Ok, Err}
use Rattle.std.specs.declared.result.Result.{Result}
use Rattle.lt_num.specs.declared.fault.Arith.{Arith}
use Rattle.lt_num.specs.declared.fault.Arith.TheVariants as fault
use Rattle.lt_linear.specs.declared.refusal.NumRefusal.{NumRefusal}
use Rattle.lt_linear.specs.declared.refusal.NumRefusal.TheVariants as form
use Rattle.lt_space.specs.declared.refusal.FormulaRefusal.{FormulaRefusal}
use Rattle.lt_space.specs.declared.refusal.FormulaRefusal.TheVariants.{Fault, Memory}

-- the refusal that one of a form is; a form is no text, and so none is malformed
abbrev pub refusal_of : NumRefusal → FormulaRefusal
refusal_of form.Overflow = Fault fault.Overflow
refusal_of form.DivisionByZero = Fault fault.DivisionByZero
refusal_of form.Malformed = Memory
refusal_of form.Memory = Memory

-- What is answered, as it is seen, is what is due, and so is a fault. Want of memory may come in place of each.
abbrev pub Tells : {A B : Type 0} → (A → B) → Result A FormulaRefusal → Result B Arith → Type 0
Tells view (Ok a) due = Ok (view a) ≡ due
Tells view (Err (Fault f)) due = Err f ≡ due
Tells view (Err Memory) due = Unit {0}

-- what is seen as it is
abbrev pub same : {A : Type 0} → A → A
same a = a
