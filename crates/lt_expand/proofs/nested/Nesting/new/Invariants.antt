use Rattle.std.proofs.Common.{map, take}
use Rattle.lt_ast.specs.View.{declaration}
use Rattle.lt_expand.proofs.Nests.{IsRead}
use Rattle.lt_expand.proofs.nested.Nesting.new.Given as goal

abbrev pub invariant-loop-place : goal.invariant-loop-place
invariant-loop-place l = IsRead (map declaration (take l.place l.typed.program.decls.items)) l.nodes
