-- The entries of a scope.
use Rattle.std.specs.Prelude.{List, reverse}
use Rattle.lt_macros.specs.declared.scope.Entry.{Entry}
use Rattle.lt_macros.specs.declared.scope.Scope.{Scope}

-- its entries, the newest first
abbrev pub rows : Scope → List Entry
rows s = reverse s.entries.items
