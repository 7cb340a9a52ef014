use Rattle.lt_macros.specs.Answer.{asked_name}
use Rattle.lt_expand.proofs.Asked.{IsLeft}
use Rattle.lt_expand.proofs.nested.has_runs.Given as goal

abbrev pub invariant-loop-decl : goal.invariant-loop-decl
invariant-loop-decl l = IsLeft (asked_name l.wanted) l.typed.program.decls.items l.decl-index
