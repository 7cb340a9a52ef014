-- What the code seeks.
use Rattle.lt_term.specs.Scene.{Scene}
use Rattle.lt_check.specs.declared.sought.Sought.{Sought}
use Rattle.lt_check.specs.declared.sought.Sought.TheVariants.{Fault, Free, Normal, Raise, Step}
use Rattle.lt_check.specs.inner.Wanted.{Wanted, for_fault, for_free, for_normal, for_raise, for_step}

-- the test for it
abbrev pub wanted : Scene → Sought → Wanted
wanted s (Step step) = for_step s step.now.raws.items step.now.marks.items
wanted s Normal = for_normal
wanted s (Raise exception) = for_raise s exception
wanted s (Fault fault) = for_fault fault
wanted s Free = for_free
