use Rattle.std.proofs.Common.{◌≡◌, map, take}
use Rattle.std.specs.List.{flat_map}
use Rattle.lt_expand.specs.inner.Judged.{kinds}
use Rattle.lt_expand.specs.inner.Places.{call_places}
use Rattle.lt_macros.specs.Tree.{call}
use Rattle.lt_expand.proofs.places.calls_places.Given as goal

abbrev pub invariant-loop-call : goal.invariant-loop-call
invariant-loop-call l =
    l.places ≡ call_places l.decimals (kinds l.over) (flat_map (λ c. c.names) (map call (take l.call-index l.calls))) (flat_map (λ c. c.arguments) (map call (take l.call-index l.calls)))
