use Rattle.std.proofs.Common.{◌≡◌, [], map, take}
use Rattle.lt_expand.specs.inner.Judged.{kinds}
use Rattle.lt_expand.specs.inner.Places.{call_places}
use Rattle.lt_macros.specs.Tree.{declared, placed}
use Rattle.lt_expand.proofs.places.one_call_places.Given as goal

abbrev pub invariant-loop-given : goal.invariant-loop-given
invariant-loop-given l = l.places ≡ call_places l.decimals (kinds l.over) (map declared (take l.given-index l.given-items)) []

abbrev pub invariant-loop-argument : goal.invariant-loop-argument
invariant-loop-argument l = l.places ≡ call_places l.decimals (kinds l.over) (map declared l.call.names.items) (map placed (take l.argument-index l.argument-items))
