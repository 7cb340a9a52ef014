use Rattle.std.proofs.Common.{◌≡◌, ◌++◌, map, drop}
use Rattle.lt_ast.specs.View.{word}
use Rattle.lt_ast.specs.Syntax.{Word}
use Rattle.lt_types.specs.Environment.{parameter_of}
use Rattle.lt_types.specs.inner.Scoping.{param_view}
use Rattle.lt_types.proofs.groups.add_group_params.Given as goal

-- what is there and what is left are all
abbrev pub invariant-loop : goal.invariant-loop
invariant-loop l =
    map param_view l.all.items ++ map (λ (w : Word). parameter_of l.group.kind l.group.by_ref) (map word (drop l.index l.items))
    ≡ map param_view l.fn.all.items ++ map (λ (w : Word). parameter_of l.group.kind l.group.by_ref) (map word l.items)
