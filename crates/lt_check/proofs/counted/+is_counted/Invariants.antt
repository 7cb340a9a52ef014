use Rattle.std.proofs.Common.{drop}
use Rattle.lt_term.specs.Counted.{AreCounted}
use Rattle.lt_term.specs.View.{choices}
use Rattle.lt_check.proofs.counted.+is_counted.Given as goal

-- all parts are counted where those are that are left
abbrev pub invariant-are_counted-loop-part : goal.invariant-are_counted-loop-part
invariant-are_counted-loop-part l = AreCounted (choices (drop l.part-index l.parts)) → AreCounted (choices l.parts)
