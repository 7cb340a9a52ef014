use Rattle.std.proofs.Common.{◌≡◌, nat_le, false, Some, Err}
use denote.Text.{Utf8}
use denote.Shadow.{shadow}
use Rattle.lt_ast.specs.View.{program}
use Rattle.lt_expand.specs.Nested.{most_runs, runs_in_nest}
use Rattle.lt_frontend.specs.Nest.{IsNestAnswer}
use Rattle.lt_frontend.specs.declared.refusal.Refusal.{Refusal}
use Rattle.lt_frontend.proofs.nest.large_nest.Given as goal

-- what is refused of the node that is come to is refused of the first one
abbrev pub invariant-loop-next : goal.invariant-loop-next
invariant-loop-next l =
    shadow (Utf8 l.at)
    × (nat_le (runs_in_nest (Some l.at) (program l.typed.program)) most_runs ≡ false)
    × ((reason : Refusal) → IsNestAnswer l.typed.decimals (program l.typed.program) (Some l.at) (Err reason) → IsNestAnswer l.typed.decimals (program l.typed.program) (Some l.node) (Err reason))

-- it has fewer runs
abbrev pub decreases-loop-next : goal.decreases-loop-next
decreases-loop-next l = runs_in_nest (Some l.at) (program l.typed.program)
