-- Two answers, one after another.
use Rattle.std.specs.Prelude.{Ok}
use Rattle.std.specs.declared.result.Result.{Result}
use Rattle.std.specs.declared.alloc.Global.{Global}
use Rattle.std.specs.declared.boxed.Box.{Box}
use Rattle.lt_num.specs.declared.fault.Arith.{Arith}
use Rattle.lt_space.specs.Formula.{Formula}
use Rattle.lt_space.specs.FormulaView.{boxed_view}
use Rattle.lt_space.specs.Meaning.{after}
use Rattle.lt_space.specs.declared.formula.Formula as code

-- both of them, or the first fault
abbrev pub both : {A B : Type 0} → Result A Arith → Result B Arith → Result (A × B) Arith
both a b = after a (λ x. after b (λ y. Ok (x, y)))

-- the formulas that are meant by two in boxes
abbrev pub boxed_views : Box code.Formula Global × Box code.Formula Global → Formula × Formula
boxed_views boxes = (boxed_view boxes.0, boxed_view boxes.1)
