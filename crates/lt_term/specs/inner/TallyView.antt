-- What a tally weighs.
use Rattle.std.specs.Prelude.{ℕ, ◌+◌, ◌*◌}
use Rattle.lt_term.specs.Size.{Weights}
use Rattle.lt_term.specs.declared.tally.Tally.{Tally}
use Rattle.lt_term.specs.inner.Alike.{raises_weight}

-- what the nodes of a tally weigh
abbrev pub tally_weight : Weights → Tally → ℕ
tally_weight w k = k.others * w.other + (k.vanishes * w.vanish + (k.goes * w.go + raises_weight w.raise k.raises.items))
