use Rattle.std.proofs.Common.{◌≡◌, length, map, reverse, take}
use Rattle.lt_types.specs.Environment.{at_start, binding_of}
use Rattle.lt_types.specs.View.{typed_name}
use Rattle.lt_types.proofs.scope.Scope.with_variables.Given as goal

-- the last ones are there
abbrev pub invariant-loop-name : goal.invariant-loop-name
invariant-loop-name l =
    l.scope
    ≡ record (at_start l.decimals) { names = map binding_of (map typed_name (reverse (take (length l.yielded) (reverse l.variables)))) }
