use Rattle.std.proofs.Common.{◌≡◌, ◌++◌, map, drop}
use Rattle.lt_ast.specs.View.{word}
use Rattle.lt_ast.specs.Syntax.{Word}
use Rattle.lt_macros.specs.inner.Parameters.{name_text}
use Rattle.lt_macros.proofs.declaring.add_group.Given as goal

-- what is there and what is left are all
abbrev pub invariant-loop-name : goal.invariant-loop-name
invariant-loop-name l = map name_text l.all.items ++ map (λ (w : Word). w.text) (map word (drop l.name-index l.name-items)) ≡ map name_text l.fn.all.items ++ map (λ (w : Word). w.text) (map word l.name-items)
