use Rattle.std.proofs.Common.{◌≡◌, ◌++◌, map, take}
use Rattle.std.specs.List.{flat_map}
use Rattle.lt_macros.specs.Tree.{call, declared}
use Rattle.lt_expand.proofs.kinds.input_kinds.Given as goal

abbrev pub invariant-loop-call : goal.invariant-loop-call
invariant-loop-call l = l.found.items ≡ map (λ d. d.kind) (map declared l.from.inputs.items ++ flat_map (λ c. c.names) (map call (take l.call-index l.call-items)))
