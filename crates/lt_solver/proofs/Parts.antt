-- Parts of the places of a variable, of which a dive passes by those without a solution.
use Rattle.std.proofs.Common.{◌≡◌, ℕ, suc, ◌<◌, ◌≤◌, Bool, true, false, List, ℤ, length, set, get_or, Some, pos, ◌+ℤ◌, ◌≤ℤ◌, ◌<ℤ◌, of_z, to_z, w64, unsigned_abs, refl, ap, sym, ◌∙◌, subst, arith}
use Rattle.std.specs.Prelude.{IfSome, None}
use Rattle.std.specs.declared.option.Option.{Option}
use Rattle.std.specs.Int.{int_max}
use Rattle.std.proofs.lemmas.Int.{ints, clamps, by_lt_z}
use Rattle.std.proofs.lemmas.List.{length-set}
use Rattle.lt_bounds.specs.Places.{AreScaled}
use Rattle.lt_bounds.specs.Ranges.{range_at}
use Rattle.lt_formula.specs.Box.{IsInBox, first_in_box}
use Rattle.lt_formula.specs.declared.scale.Scale.{Scale}
use Rattle.lt_num.specs.Bounds.{most_raw}
use Rattle.lt_num.specs.Interval.{IsWithin}
use Rattle.lt_num.specs.declared.interval.Interval.{Interval}
use Rattle.lt_space.specs.declared.circuit.Circuit.{Circuit}
use Rattle.lt_propagation.specs.Domains.{AreDomains}
use Rattle.lt_propagation.proofs.Boxes.{point_set, point_within, set_twice}
use Rattle.lt_solver.specs.inner.Dive.{Covers, IsDiving, IsUpward, Leads, test_of}
use Rattle.lt_solver.specs.inner.Fixing.{Keeps}
use Rattle.lt_solver.specs.inner.Points.{AreFixed, first_raw}
use Rattle.lt_solver.proofs.Dives.{fixed_before, fixed_more, part_dives, part_narrower, point_wider, set_at}
use Rattle.lt_solver.proofs.Firsts.{narrow_solution}
use Rattle.lt_solver.proofs.Leads.{leads}
use Rattle.lt_solver.proofs.Order.{range_of}
use Rattle.lt_solver.proofs.Passing.{raw_over, raw_under}

-- The points of a box that have a place of a part.
module _ (point : List Interval) (i : ℕ) (here : i < length point) where
  pub in_part : (part : Interval) (ks : List ℤ) → IsInBox (set point i part) ks → IsWithin part (get_or ks i (pos 0))
  in_part part ks p =
      subst (λ (r : Interval). IsWithin r (get_or ks i (pos 0))) (set_at point i part here)
      (point_within (set point i part) ks i (omega (arith, here, length-set point i part)) p)

  pub in_other : (part other : Interval) (ks : List ℤ) → IsInBox (set point i part) ks → IsWithin other (get_or ks i (pos 0)) → IsInBox (set point i other) ks
  in_other part other ks p w = subst (λ (b : List Interval). IsInBox b ks) (set_twice point i part other) (point_set (set point i part) ks i other p w)

  -- What passes of a part is where places are left; where what is tried of those lies from a place on, it is from there on.
  pub keeps_on : (test : List ℤ → Bool) (part : Interval) (low next last : ℤ) → Keeps test (set point i part) (set point i (range_of low part.high)) → next ≤ℤ (last +ℤ pos 1)
      → ((ks : List ℤ) → IsInBox (set point i (range_of low last)) ks → test ks ≡ true → next ≤ℤ get_or ks i (pos 0)) → Keeps test (set point i part) (set point i (range_of next part.high))
  keeps_on test part low next last kept near behind ks p h =
      let q = kept ks p h in
      let w = in_part (range_of low part.high) ks q in
      by_lt_z last (get_or ks i (pos 0))
      (λ over. in_other (range_of low part.high) (range_of next part.high) ks q (omega (arith, ints, near, over), w.1))
      (λ under. in_other (range_of low part.high) (range_of next part.high) ks q (behind ks (in_other (range_of low part.high) (range_of low last) ks q (w.0, under)) h, w.1))

  -- where no place is left, none passes
  pub none_left : (test : List ℤ → Bool) (part : Interval) (low : ℤ) → Keeps test (set point i part) (set point i (range_of low part.high)) → part.high <ℤ low → (ks : List ℤ) → IsInBox (set point i part) ks → test ks ≡ true → ⊥
  none_left test part low kept empty ks p h = let w = in_part (range_of low part.high) ks (kept ks p h) in omega (arith, ints, w.0, w.1, empty)

-- what is so is so of anything that there is
pub of_any : {A : Type 0} (found : Option A) (P : Type 0) → P → IfSome found (λ _. P)
of_any None P p = tt
of_any (Some x) P p = p

pub not_both : (b : Bool) → b ≡ false → b ≡ true → ⊥
not_both b e h = absurd (cc)

-- a range of one number
pub one_range : (r : Interval) → r.low ≡ r.high → range_of r.low r.low ≡ r
one_range r e = ap (λ (z : ℤ). range_of r.low z) e

-- the number behind a place between two places
pub behind_fits : (low high place : ℤ) → unsigned_abs low ≤ most_raw → unsigned_abs high ≤ most_raw → low ≤ℤ place → place ≤ℤ high → to_z w64 (of_z w64 (to_z w64 (of_z w64 place) +ℤ pos 1)) ≡ place +ℤ pos 1
behind_fits low high place least greatest over under = omega (arith, ints, least, greatest, over, under)

-- a place between others
pub inside_fits : (least greatest low place high last : ℤ) → unsigned_abs least ≤ most_raw → unsigned_abs greatest ≤ most_raw → least ≤ℤ low → low ≤ℤ place → place ≤ℤ high → high ≤ℤ last → last ≤ℤ greatest → to_z w64 (of_z w64 place) ≡ place
inside_fits least greatest low place high last small large a b c d e = omega (arith, ints, small, large, a, b, c, d, e)

-- where the next try begins: behind what was tried, or at a place of that
pub from_behind : (first low last next : ℤ) → first ≤ℤ low → low ≤ℤ last → next ≡ last +ℤ pos 1 → first ≤ℤ next
from_behind first low last next a b up = omega (arith, ints, a, b, up)

pub from_place : (first low place next : ℤ) → first ≤ℤ low → low ≤ℤ place → next ≡ place → first ≤ℤ next
from_place first low place next a b is = omega (arith, ints, a, b, is)

pub near_behind : (last next : ℤ) → next ≡ last +ℤ pos 1 → next ≤ℤ (last +ℤ pos 1)
near_behind last next up = omega (arith, ints, up)

pub near_place : (place high last next : ℤ) → place ≤ℤ high → high ≤ℤ last → next ≡ place → next ≤ℤ (last +ℤ pos 1)
near_place place high last next a b is = omega (arith, ints, a, b, is)

-- A variable is fixed at the first one of the places from which on all passes.
pub behind_leads : (scales : List Scale) (box : List Interval) (starts : List ℤ) (i : ℕ) → AreScaled scales box → AreFixed i box → (here : i < length box) → length starts ≡ length box
    → (test : List ℤ → Bool) (next : Interval) → ((range_at box i).low ≤ℤ next.low) × (next.low ≤ℤ next.high) × (next.high ≤ℤ (range_at box i).high)
    → first_raw (get_or starts i (pos 0)) next ≡ next.low → Keeps test box (set box i next) → Leads test starts box (set box i (range_of next.low next.low))
behind_leads scales box starts i scaled fixed here count test next inside upward kept x h =
    let long = length-set box i next in
    let own = set_at box i next here in
    narrow_solution test box (set box i next) starts (part_narrower scales i box scaled here next inside) kept
    ∙ leads test (set box i next) starts i next.low x (fixed_before i box next fixed) (omega (arith, here, long)) (omega (arith, count, long))
    (subst (λ (r : Interval). r.low ≤ℤ r.high) (sym own) inside.1)
    (sym upward ∙ ap (first_raw (get_or starts i (pos 0))) (sym own))
    (ap (λ (b : List Interval). first_in_box test b starts) (set_twice box i next (range_of next.low next.low)) ∙ h)

-- A dive at a variable.
module _ (decimals : ℕ) (circuit : Circuit) (root : ℕ) (scales : List Scale) (starts : List ℤ) (i : ℕ) (point spare : List Interval)
    (dives : IsDiving decimals circuit root scales starts i point spare) (within : i < length starts) where
  abbrev test : List ℤ → Bool
  test = test_of decimals circuit root scales

  there : i < length point
  there = omega (arith, within, dives.count)

  -- Of a part only one place and those behind it are left: the variable is fixed there.
  pub found_leads : (part r : Interval) → ((range_at point i).low ≤ℤ part.low) × (part.high ≤ℤ (range_at point i).high) → IsUpward (get_or starts i (pos 0)) part → r.low ≡ r.high → (part.low ≤ℤ r.low) × (r.high ≤ℤ part.high)
      → Keeps test (set point i part) (set point i (range_of r.low part.high)) → Leads test starts (set point i part) (set point i r)
  found_leads part r inside upward one among kept x h =
      let long = length-set point i part in
      let own = set_at point i part there in
      let next = range_of r.low part.high in
      let wide = part_dives decimals circuit root scales starts i point spare dives within part (inside.0, omega (arith, ints, among.0, among.1, one), inside.1) spare refl dives.domains (λ ks p h. dives.covers ks (point_in ks p) h) in
      behind_leads scales (set point i part) starts i wide.scaled wide.fixed (omega (arith, there, long)) wide.count test next
      (subst (λ (s : Interval). (s.low ≤ℤ next.low) × (next.low ≤ℤ next.high) × (next.high ≤ℤ s.high)) (sym own) (among.0, omega (arith, ints, among.1, one), omega (arith, ints)))
      (upward r.low among.0 (omega (arith, ints, among.1, one)))
      (λ ks p h. subst (λ (b : List Interval). IsInBox b ks) (sym (set_twice point i part next)) (kept ks p h))
      x
      (ap (λ (b : List Interval). first_in_box test b starts) (set_twice point i part (range_of r.low r.low) ∙ ap (set point i) (one_range r one)) ∙ h)
    where
      point_in : (ks : List ℤ) → IsInBox (set point i part) ks → IsInBox point ks
      point_in ks p = point_wider point (set point i part) ks (part_narrower scales i point dives.scaled there part (inside.0, omega (arith, ints, among.0, among.1, one), inside.1)) p

  -- the dive goes on behind it
  pub found_dives : (tried r : Interval) → ((range_at point i).low ≤ℤ r.low) × (r.low ≤ℤ r.high) × (r.high ≤ℤ (range_at point i).high) → r.low ≡ r.high → (tried.low ≤ℤ r.low) × (r.high ≤ℤ tried.high)
      → (new : List Interval) → length new ≡ length spare → AreDomains new → Covers decimals circuit root scales (set point i tried) new → IsDiving decimals circuit root scales starts (suc i) (set point i r) new
  found_dives tried r inside one among new long domains covers =
      let d = part_dives decimals circuit root scales starts i point spare dives within r inside new long domains (λ ks p h. let w = in_part point i there r ks p in covers ks (in_other point i there r tried ks p (omega (arith, ints, w.0, among.0), omega (arith, ints, w.1, among.1))) h) in
      record {
        scaled = d.scaled;
        count = d.count;
        long = d.long;
        domains = d.domains;
        covers = d.covers;
        fixed = subst (λ (s : Interval). AreFixed (suc i) (set point i s)) (one_range r one) (fixed_more i point r.low dives.fixed);
      }

-- The places above the first one are in upward order, ..
pub upward_above : (t first : ℤ) (range above : Interval) → first ≡ first_raw t range → first ≤ℤ above.low → above.high ≡ range.high → IsUpward t above
upward_above t first range above is up last k low high =
    by_lt_z above.high t
    (λ over. raw_over t k above.high over)
    (λ under. raw_under t k above.high under ∙ (let e : int_max k t ≡ k = omega (arith, ints, clamps, start_under under, low, up) in e))
  where
    start_under : t ≤ℤ above.high → t ≤ℤ first
    start_under under = let e : first ≡ int_max range.low t = is ∙ raw_under t range.low range.high (omega (arith, ints, under, last)) in omega (arith, ints, clamps, e)

-- .. and so are those below it
pub upward_below : (t first : ℤ) (range below : Interval) → first ≡ first_raw t range → range.low ≤ℤ below.low → below.high <ℤ first → IsUpward t below
upward_below t first range below is low under k from to =
    by_lt_z below.high t
    (λ over. raw_over t k below.high over)
    (λ inner. by_lt_z range.high t
    (λ out. let e : first ≡ range.low = is ∙ raw_over t range.low range.high out in absurd (omega (arith, ints, e, low, under, from, to)))
    (λ inside. let e : first ≡ int_max range.low t = is ∙ raw_under t range.low range.high inside in absurd (omega (arith, ints, clamps, e, low, under, from, to, inner))))
