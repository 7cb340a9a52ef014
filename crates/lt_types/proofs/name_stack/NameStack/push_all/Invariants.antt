use Rattle.std.proofs.Common.{◌≡◌, drop, map}
use Rattle.lt_ast.specs.View.{word}
use Rattle.lt_types.specs.Environment.{with_names}
use Rattle.lt_types.proofs.name_stack.NameStack.push_all.Given as goal

-- what is left, after what is there, is all
abbrev pub invariant-loop-name : goal.invariant-loop-name
invariant-loop-name l = with_names (map word (drop l.name-index l.name-items)) l.self ≡ with_names (map word l.name-items) l.fn.self
