-- Between which places of a variable a box has points that pass.
use Rattle.std.specs.Prelude.{ℕ, Bool, List, ℤ, ◌≤ℤ◌}
use Rattle.std.specs.Coded.{×_prop, Π_prop, →_prop}
use Rattle.std.proofs.Props.{props}
use Rattle.lt_formula.specs.declared.scale.Scale.{Scale}
use Rattle.lt_num.specs.declared.interval.Interval.{Interval}
use Rattle.lt_space.specs.Formula.{Formula}
use Rattle.lt_propagation.specs.Linked.{IsCopyOf}
use Rattle.lt_propagation.specs.declared.linked.Linked.{Linked}
use Rattle.lt_solver.specs.inner.Drawing.{Passes, place_of}
use Rattle.lt_solver.specs.inner.Propagated.{holds_at, IsInBox-prop}

-- Two points of a box pass, and each one that does has a place of the variable between theirs.
abbrev pub AreEnds : (List ℤ → Bool) → List Interval → ℕ → List ℤ → List ℤ → Type 0
AreEnds passes box i lowest highest =
    Passes passes box lowest × (Passes passes box highest
    × ((places : List ℤ) → Passes passes box places →
    (place_of lowest i ≤ℤ place_of places i) × (place_of places i ≤ℤ place_of highest i)))

-- They are so by the formula of each circuit that this is a copy of.
abbrev pub AreEndsOf : Linked → ℕ → List Scale → List Interval → ℕ → List ℤ → List ℤ → Type 0
AreEndsOf copy decimals scales box i lowest highest =
    (formulas : List Formula) (root : ℕ) → IsCopyOf copy formulas root →
    AreEnds (holds_at decimals formulas root scales) box i lowest highest

-- It holds in one way: so a struct may keep it in a ghost field.
pub AreEndsOf-prop : (copy : Linked) (decimals : ℕ) (scales : List Scale) (box : List Interval) (i : ℕ) (lowest highest : List ℤ)
    → IsProp (AreEndsOf copy decimals scales box i lowest highest)
AreEndsOf-prop copy decimals scales box i lowest highest =
    Π_prop (λ formulas. Π_prop (λ root. →_prop (×_prop (passing formulas root lowest) (×_prop (passing formulas root highest)
    (Π_prop (λ places. →_prop (×_prop (hlevel props) (hlevel props))))))))
  where
    passing : (formulas : List Formula) (root : ℕ) (places : List ℤ) → IsProp (Passes (holds_at decimals formulas root scales) box places)
    passing formulas root places = ×_prop (IsInBox-prop box places) (hlevel props)
