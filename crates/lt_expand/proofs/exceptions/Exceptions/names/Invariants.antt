use Rattle.std.proofs.Common.{◌≡◌, ◌++◌, map, string_bytes}
use Rattle.lt_expand.specs.Exceptions.{exception_names}
use Rattle.lt_expand.specs.inner.Declarations.{exceptions}
use Rattle.lt_expand.proofs.exceptions.Exceptions.names.Given as goal

-- the names so far and those that are left are all names
abbrev pub invariant-loop-name : goal.invariant-loop-name
invariant-loop-name l = map string_bytes l.names.items ++ map (λ n. n.now) l.name-iterator ≡ exception_names (exceptions l.self)
