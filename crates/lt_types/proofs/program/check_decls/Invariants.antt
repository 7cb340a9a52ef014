use Rattle.std.proofs.Common.{◌≡◌, drop, map}
use Rattle.lt_ast.specs.View.{declaration}
use Rattle.lt_types.specs.Refusals.{declarations_refusals}
use Rattle.lt_types.proofs.program.check_decls.Given as goal

-- what is left breaks the rules that all of it does
abbrev pub invariant-loop-decl : goal.invariant-loop-decl
invariant-loop-decl l =
    record {
      refusals : declarations_refusals l.fn.scope (map declaration l.decls) ≡ declarations_refusals l.scope (map declaration (drop l.decl-index l.decls));
    }
