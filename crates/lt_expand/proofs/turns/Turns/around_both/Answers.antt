use Rattle.std.proofs.Common.{◌≡◌, ℤ, arith}
use Rattle.std.proofs.lemmas.Int.{ints, clamps}
use Rattle.lt_expand.specs.Static.{Turns}
use Rattle.lt_expand.proofs.turns.Turns.around_both.Goals as goal

abbrev made : ℤ → ℤ → Turns
made least most = record { least = least; most = most }

same_turns : (a b c d : ℤ) → a ≡ b → c ≡ d → made a c ≡ made b d
same_turns a b c d h k = λ i. record { least = h i; most = k i }

pub returns : goal.returns
returns c =
    same_turns _ _ _ _ (omega (arith, ints, clamps, c.or_zero.ensures, c.from-average.ensures, c.from-width.ensures))
    (omega (arith, ints, c.from-average.ensures, c.from-width.ensures))
