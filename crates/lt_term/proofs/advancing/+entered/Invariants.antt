use Rattle.std.proofs.Common.{◌≡◌, drop}
use Rattle.lt_term.specs.View.{choices}
use Rattle.lt_term.specs.inner.Entered.{is_entered_anywhere}
use Rattle.lt_term.proofs.advancing.+entered.Given as goal

-- it is left to the parts that were not looked at
abbrev pub invariant-is_entered_anywhere-loop-part : goal.invariant-is_entered_anywhere-loop-part
invariant-is_entered_anywhere-loop-part l = is_entered_anywhere (choices l.parts.items) ≡ is_entered_anywhere (choices (drop l.part-index l.part-items))
