use Rattle.std.proofs.Common.{◌≡◌, drop, map}
use Rattle.lt_ast.specs.View.{declaration}
use Rattle.lt_types.specs.Typing.{has_node}
use Rattle.lt_types.proofs.program.has_a_node.Given as goal

abbrev pub invariant-loop-decl : goal.invariant-loop-decl
invariant-loop-decl l = has_node (map declaration l.decls) ≡ has_node (map declaration (drop l.decl-index l.decls))
