-- The keys of an index.
use Rattle.std.specs.Prelude.{List, map}
use Rattle.lt_macros.specs.inner.Hidden.{item_key}
use Rattle.lt_macros.specs.declared.index.Index.{Index}
use Rattle.lt_macros.specs.declared.key.Key.{Key}

-- its keys, the oldest first
abbrev pub keys : Index → List Key
keys x = map item_key x.items.items
