-- What is behind the first place of a variable.
use Rattle.std.proofs.Common.{◌≡◌, ℕ, ◌<◌, Bool, true, false, List, length, set, get_or, Some, ℤ, pos, ◌+ℤ◌, ◌-ℤ◌, ◌≤ℤ◌, ◌<ℤ◌, ◌++◌, ap, sym, ◌∙◌, subst, arith}
use Rattle.std.specs.Prelude.{int_lt, if◌then◌else◌}
use Rattle.std.specs.Int.{int_max}
use Rattle.std.specs.declared.option.Option.{Option}
use Rattle.std.proofs.lemmas.Int.{ints, clamps, by_lt_z}
use Rattle.std.proofs.lemmas.List.{length-set}
use Rattle.lt_bounds.specs.Ranges.{range_at}
use Rattle.lt_formula.specs.Box.{IsInBox, first_in_box, raws_from}
use Rattle.lt_formula.specs.First.{or_else}
use Rattle.lt_num.specs.declared.interval.Interval.{Interval}
use Rattle.lt_propagation.proofs.Boxes.{set_twice}
use Rattle.lt_solver.specs.inner.Points.{AreFixed, first_raw}
use Rattle.lt_solver.proofs.Dives.{empty_part, fixed_before, set_at}
use Rattle.lt_solver.proofs.Firsts.{none_passes, split_solution}
use Rattle.lt_solver.proofs.Order.{range_of, or_else-none, split_above, split_below, split_within}

-- the first number from a target that is over the high end ..
pub raw_over : (t low high : ℤ) → high <ℤ t → first_raw t (range_of low high) ≡ low
raw_over t low high h = ap (λ (b : Bool). if b then low else int_max low t) (let e : int_lt high t ≡ true = grind (arith, ints) in e)

-- .. or isn't
pub raw_under : (t low high : ℤ) → t ≤ℤ high → first_raw t (range_of low high) ≡ int_max low t
raw_under t low high h = ap (λ (b : Bool). if b then low else int_max low t) (let e : int_lt high t ≡ false = grind (arith, ints) in e)

-- Parts of a box at a variable, where those before it are fixed.
module _ (holds : List ℤ → Bool) (point : List Interval) (starts : List ℤ) (i : ℕ) (fixed : AreFixed i point) (here : i < length point) (count : length starts ≡ length point) where
  abbrev low : ℤ
  low = (range_at point i).low

  abbrev high : ℤ
  high = (range_at point i).high

  abbrev t : ℤ
  t = get_or starts i (pos 0)

  abbrev first_of : Interval → Option (List ℤ)
  first_of part = first_in_box holds (set point i part) starts

  -- a part in two ones, from the target on
  halves : (high next : ℤ) → t ≤ℤ high → next ≡ t +ℤ pos 1 → first_of (range_of t high) ≡ or_else (first_of (range_of t t)) (first_of (range_of next high))
  halves high next under up =
      let box = set point i (range_of t high) in
      let long = length-set point i (range_of t high) in
      split_solution holds box starts i (range_of t t) (range_of next high) (fixed_before i point (range_of t high) fixed) (omega (arith, here, long)) (omega (arith, count, long))
      (ap (raws_from t) (set_at point i (range_of t high) here) ∙ split_above t t t next high (omega (arith, ints)) up (omega (arith, ints)) under)
      ∙ ap (λ (b : List Interval). or_else (first_in_box holds b starts) (first_in_box holds (set box i (range_of next high)) starts)) (set_twice point i (range_of t high) (range_of t t))
      ∙ ap (λ (b : List Interval). or_else (first_of (range_of t t)) (first_in_box holds b starts)) (set_twice point i (range_of t high) (range_of next high))

  -- Where the first place has none, the first solution is that above it, or else that below it.
  module _ (first next before : ℤ) (some : low ≤ℤ high) (is : first ≡ first_raw t (range_at point i)) (up : next ≡ first +ℤ pos 1) (down : before ≡ first -ℤ pos 1)
      (none : (ks : List ℤ) → IsInBox (set point i (range_of first first)) ks → holds ks ≡ false) where
    at_low : first ≡ low → raws_from t (range_of low high) ≡ raws_from t (range_of low first) ++ raws_from t (range_of next high) → first_in_box holds point starts ≡ or_else (first_of (range_of next high)) (first_of (range_of low before))
    at_low e parts =
        split_solution holds point starts i (range_of low first) (range_of next high) fixed here count parts
        ∙ ap (λ (o : Option (List ℤ)). or_else o (first_of (range_of next high)))
        (none_passes holds (set point i (range_of low first)) starts (subst (λ (z : ℤ). (ks : List ℤ) → IsInBox (set point i (range_of z first)) ks → holds ks ≡ false) e none))
        ∙ sym (or_else-none (first_of (range_of next high)))
        ∙ ap (or_else (first_of (range_of next high))) (sym (none_passes holds (set point i (range_of low before)) starts (λ ks p. absurd (empty_part point i (range_of low before) ks here (omega (arith, ints)) p))))

    at_target : first ≡ t → low <ℤ t → t ≤ℤ high → first_in_box holds point starts ≡ or_else (first_of (range_of next high)) (first_of (range_of low before))
    at_target e over under =
        split_solution holds point starts i (range_of t high) (range_of low before) fixed here count (split_within t low high before over under (omega (arith, ints)))
        ∙ ap (λ (o : Option (List ℤ)). or_else o (first_of (range_of low before))) (halves high next under (omega (arith, ints)))
        ∙ ap (λ (o : Option (List ℤ)). or_else (or_else o (first_of (range_of next high))) (first_of (range_of low before)))
        (none_passes holds (set point i (range_of t t)) starts (subst (λ (z : ℤ). (ks : List ℤ) → IsInBox (set point i (range_of z z)) ks → holds ks ≡ false) e none))

    passed : first_in_box holds point starts ≡ or_else (first_of (range_of next high)) (first_of (range_of low before))
    passed =
        by_lt_z high t
        (λ over. let e : first ≡ low = is ∙ raw_over t low high over in at_low e (split_below t low first next high over up (omega (arith, ints)) (omega (arith, ints))))
        (λ under. by_lt_z low t
        (λ inner. at_target (is ∙ raw_under t low high under ∙ (let m : int_max low t ≡ t = omega (arith, ints, clamps) in m)) inner under)
        (λ outer. let e : first ≡ low = is ∙ raw_under t low high under ∙ (let m : int_max low t ≡ low = omega (arith, ints, clamps) in m) in at_low e (split_above t low first next high outer up (omega (arith, ints)) (omega (arith, ints)))))

  -- That by any names of these parts: a solution above it is that of all, ..
  module _ (first : ℤ) (above below : Interval) (some : low ≤ℤ high) (is : first ≡ first_raw t (range_at point i)) (up : above.low ≡ first +ℤ pos 1) (last : above.high ≡ high) (least : below.low ≡ low) (down : below.high ≡ first -ℤ pos 1)
      (none : (ks : List ℤ) → IsInBox (set point i (range_of first first)) ks → holds ks ≡ false) where
    parted : first_in_box holds point starts ≡ or_else (first_of above) (first_of below)
    parted =
        passed first above.low below.high some is up down none
        ∙ ap (λ (z : ℤ). or_else (first_of (range_of above.low z)) (first_of (range_of low below.high))) (sym last)
        ∙ ap (λ (z : ℤ). or_else (first_of above) (first_of (range_of z below.high))) (sym least)

    pub above_leads : (x : List ℤ) → first_of above ≡ Some x → first_in_box holds point starts ≡ Some x
    above_leads x h = parted ∙ ap (λ (o : Option (List ℤ)). or_else o (first_of below)) h

    -- .. and where there is none above it, so is one below it
    pub below_leads : ((ks : List ℤ) → IsInBox (set point i above) ks → holds ks ≡ false) → (x : List ℤ) → first_of below ≡ Some x → first_in_box holds point starts ≡ Some x
    below_leads empty x h = parted ∙ ap (λ (o : Option (List ℤ)). or_else o (first_of below)) (none_passes holds (set point i above) starts empty) ∙ h
