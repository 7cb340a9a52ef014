use Rattle.std.proofs.Common.{◌≡◌, None, take}
use Rattle.std.specs.List.{flat_map}
use Rattle.lt_expand.specs.inner.Firsts.{first}
use Rattle.lt_expand.specs.inner.Judged.{kinds}
use Rattle.lt_expand.proofs.Refused.{drawn_in}
use Rattle.lt_expand.proofs.places.controllable_argument.Given as goal

abbrev pub invariant-loop-call : goal.invariant-loop-call
invariant-loop-call l = first (flat_map (drawn_in (kinds l.over)) (take l.call-index l.call-items)) ≡ None
