use Rattle.std.proofs.Common.{◌≡◌, drop, map}
use Rattle.lt_ast.specs.View.{word}
use Rattle.lt_types.specs.Environment.{group_entry, with_bindings}
use Rattle.lt_types.specs.inner.Scoping.{role_view}
use Rattle.lt_types.proofs.scope.Scope.declare_group.Given as goal

-- what is left, after what is there, is all
abbrev pub invariant-loop-name : goal.invariant-loop-name
invariant-loop-name l =
    record l.self { names = with_bindings (group_entry (role_view l.role) l.kind l.by_ref) (map word (drop l.name-index l.name-items)) l.self.names }
    ≡ record l.fn.self { names = with_bindings (group_entry (role_view l.role) l.kind l.by_ref) (map word l.name-items) l.fn.self.names }
