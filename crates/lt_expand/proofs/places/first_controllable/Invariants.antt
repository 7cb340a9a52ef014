use Rattle.std.proofs.Common.{◌≡◌, None, take}
use Rattle.std.specs.List.{flat_map}
use Rattle.lt_expand.specs.inner.Firsts.{first}
use Rattle.lt_expand.specs.inner.Judged.{kinds}
use Rattle.lt_expand.proofs.Refused.{drawn_at}
use Rattle.lt_expand.proofs.places.first_controllable.Given as goal

abbrev pub invariant-loop-expr : goal.invariant-loop-expr
invariant-loop-expr l = first (flat_map (drawn_at (kinds l.over)) (take l.expr-index l.exprs)) ≡ None
