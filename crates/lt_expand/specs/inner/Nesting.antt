-- Nodes that are counted already, as a map of the code has them.
use Rattle.std.specs.Prelude.{◌≡◌, ℕ, List, min}
use Rattle.std.specs.declared.option.Option.{Option}
use Rattle.std.specs.declared.option.Option.TheVariants.{None, Some}
use Rattle.std.specs.declared.string.String.{String}
use Rattle.std.specs.declared.alloc.Global.{Global}
use Rattle.indexmap.specs.IndexMap.{IndexMap, get_by_text}
use Rattle.lt_expand.specs.Nested.{Counted, count_of}
use Rattle.lt_expand.specs.declared.nested.Nested as code

-- how many runs a node has that is found, and 0 where none is
abbrev pub runs_found : Option code.Nested → ℕ
runs_found None = 0
runs_found (Some n) = n.runs

-- Each name leads to how many runs the nest of its node has, up to one more than there may be.
abbrev pub Tells : {S : Type 0} → List Counted → IndexMap (String Global) code.Nested S → Type 0
Tells known nodes = (q : List ℕ) → runs_found (get_by_text nodes q) ≡ min (count_of known q) 17
