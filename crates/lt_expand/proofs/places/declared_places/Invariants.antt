use Rattle.std.proofs.Common.{◌≡◌, map, take}
use Rattle.lt_expand.specs.inner.Judged.{kinds}
use Rattle.lt_expand.specs.inner.Places.{declared_places}
use Rattle.lt_macros.specs.Tree.{declared}
use Rattle.lt_expand.proofs.places.declared_places.Given as goal

abbrev pub invariant-loop-variable : goal.invariant-loop-variable
invariant-loop-variable l = l.places ≡ declared_places l.decimals (kinds l.over) (map declared (take l.variable-index l.variables))
