use Rattle.std.proofs.Common.{◌≡◌, ◌++◌, map, drop}
use Rattle.lt_ast.specs.Syntax.{Word}
use Rattle.lt_ast.specs.View.{word}
use Rattle.lt_types.proofs.node_types.add_group_types.Given as goal

-- what is there and what is left are all
abbrev pub invariant-loop : goal.invariant-loop
invariant-loop l =
    l.all.items ++ map (λ (w : Word). l.group.kind) (map word (drop l.index l.items))
    ≡ l.fn.all.items ++ map (λ (w : Word). l.group.kind) (map word l.items)
