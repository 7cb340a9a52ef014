use Rattle.std.proofs.Common.{◌≡◌, ◌++◌, map, drop}
use Rattle.lt_ast.specs.Syntax.{Word}
use Rattle.lt_ast.specs.View.{word, written_range}
use Rattle.lt_types.specs.Environment.{input_of}
use Rattle.lt_types.specs.inner.Scoping.{input_view}
use Rattle.lt_types.proofs.node_types.add_group_inputs.Given as goal

-- what is there and what is left are all
abbrev pub invariant-loop : goal.invariant-loop
invariant-loop l =
    map input_view l.all.items ++ map (λ (w : Word). input_of l.group.kind (written_range l.group.range)) (map word (drop l.index l.items))
    ≡ map input_view l.fn.all.items ++ map (λ (w : Word). input_of l.group.kind (written_range l.group.range)) (map word l.items)
