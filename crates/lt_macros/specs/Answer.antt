-- What is answered where a node is asked for.
use Rattle.std.specs.Prelude.{◌≡◌, List, ℕ, [], slice_get}
use Rattle.std.specs.Borrow.{Bor}
use Rattle.std.specs.declared.option.Option.{Option}
use Rattle.std.specs.declared.option.Option.TheVariants.{None, Some}
use Rattle.std.specs.declared.result.Result.{Result}
use Rattle.std.specs.declared.result.Result.TheVariants.{Ok, Err}
use Rattle.lt_macros.specs.Expanded as x
use Rattle.lt_macros.specs.Limits.{passed_limits}
use Rattle.lt_macros.specs.Tree.{node}
use Rattle.lt_macros.specs.declared.tree.Node.{Node}
use Rattle.lt_macros.specs.declared.refusal.NodeRefusal.{NodeRefusal}
use Rattle.lt_macros.specs.declared.refusal.NodeRefusal.TheVariants.{UnknownNode, TooLarge, Memory}

-- the name that is asked for, if one is
abbrev pub asked_name : Option (Bor (List ℕ)) → Option (List ℕ)
asked_name None = None
asked_name (Some name) = Some name.now

-- A node that is there and within the limits is answered as it is; of one that is past some, the first limit is told. Memory may
-- run out at any time.
abbrev pub IsAnswer : Option x.Node → Result Node NodeRefusal → Type 0
IsAnswer asked (Ok made) = (asked ≡ Some (node made)) × (passed_limits (node made) ≡ [])
IsAnswer asked (Err UnknownNode) = asked ≡ None
IsAnswer asked (Err (TooLarge limit)) = (n : x.Node) × (asked ≡ Some n) × (slice_get (passed_limits n) 0 ≡ Some limit)
IsAnswer asked (Err Memory) = Unit {0}
