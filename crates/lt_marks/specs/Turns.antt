-- How many turns of counted loops are done in tracks.
use Rattle.std.specs.Prelude.{ℕ, suc, List}
use Rattle.lt_num.specs.declared.kind.Kind.{Kind}
use Rattle.lt_num.specs.declared.value.Value.{Value}
use Rattle.lt_term.specs.Advanced.{advanced}
use Rattle.lt_term.specs.Counted.{IsDoneTo}
use Rattle.lt_term.specs.Offers.{offers_of}
use Rattle.lt_term.specs.Process.{Process}
use Rattle.lt_marks.specs.View.{body}
use Rattle.lt_marks.specs.Walk.{State, Follows}
use Rattle.lt_marks.specs.declared.track.Track.{Track}
use Rattle.lt_marks.specs.declared.walk.Reached.TheVariants as reached

-- No turn is done in a body.
abbrev pub NoTurnIsDone : Type 0
NoTurnIsDone = (k : ℕ) (t : Track) → IsDoneTo k (body t)

-- Behind an instant that a walk has found, with any values, at most one more turn is done.
abbrev pub StepsGrowByOne : Type 0
StepsGrowByOne =
    (k : ℕ) (kinds : List Kind) (p n : Process ℕ) (s t : State) (values : List (ℕ × Value)) →
    IsDoneTo k p → Follows (offers_of kinds p) s reached.Go t n → IsDoneTo (suc k) (advanced values n)
