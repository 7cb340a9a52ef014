use Rattle.std.proofs.Common.{◌≡◌, ◌∙◌, ℕ, Bool, true, false, List, ℤ, Option, None, Some, to_z, of_z, w64, sym, subst, arith}
use Rattle.std.specs.Option.{is_some}
use Rattle.std.specs.Prelude.{IfSome}
use Rattle.lt_formula.specs.Solution.{comes_before}
use Rattle.lt_num.specs.declared.interval.Interval.{Interval}
use Rattle.lt_solver.specs.inner.Classified.{passes}
use Rattle.lt_solver.specs.inner.Drawing.{IsFirstLeft, Passes, place_of}
use Rattle.lt_solver.proofs.Draws.{place_stays}
use Rattle.lt_solver.proofs.Scaled.{box_long}
use Rattle.lt_solver.proofs.possible.is_first_found.Goals as goal

pub bounds-known-i : goal.bounds-known-i
bounds-known-i c = omega (arith, c.requires.within, box_long c.args.current.now c.args.known.now c.requires.known.0)

pub copy_from_slice-requires : goal.copy_from_slice-requires
copy_from_slice-requires c = c.requires.places ∙ sym (box_long c.args.current.now c.args.known.now c.requires.known.0)

pub copy_from_slice-requires-2 : goal.copy_from_slice-requires-2
copy_from_slice-requires-2 c = c.passes_at_corner.auto.places ∙ c.requires.places ∙ sym (box_long c.args.current.now c.args.known.now c.requires.known.0)

-- what is said of some place, where there is one
there : (P : Type 0) (o : Option ℤ) → IfSome o (λ place. P) → is_some o ≡ true → P
there P None h so = absurd (cc)
there P (Some place) h so = h

pub returns-clause-found : goal.returns-clause-found
returns-clause-found c so = there (Passes (passes c.args.space.now c.args.scales.now) c.args.current.now c.first_found.new.witness) c.first_found.result c.first_found.ensures.found (sym c.is_some.ensures ∙ so)

-- Of those that pass from a start on, none comes before the first one that is left.
none_before : (test : List ℤ → Bool) (box : List Interval) (i : ℕ) (down : Bool) (start stop : ℤ) (ks : List ℤ) (o : Option ℤ) → IfSome o (λ place. IsFirstLeft test box i down start stop place) → IfSome o (λ place. place_of ks i ≡ place) → is_some o ≡ true
    → (other : List ℤ) → Passes test box other → comes_before down (place_of other i) start ≡ false → comes_before down (place_of other i) (place_of ks i) ≡ false
none_before test box i down start stop ks None first is so other p on = absurd (cc)
none_before test box i down start stop ks (Some place) first is so other p on = subst (λ (z : ℤ). comes_before down (place_of other i) z ≡ false) (sym is) (first.2 other p on)

pub returns-clause-first : goal.returns-clause-first
returns-clause-first c so other p =
    let i = c.args.i in
    let down = c.args.is_down in
    let stays : to_z w64 (of_z w64 c.args.end) ≡ c.args.end = place_stays c.args.scales.now c.args.current.now i c.requires.scaled c.requires.within c.args.end c.requires.end in
    none_before (passes c.args.space.now c.args.scales.now) c.args.current.now i down _ _ c.first_found.new.witness c.first_found.result c.first_found.ensures.first c.first_found.ensures.place (sym c.is_some.ensures ∙ so) other p
    (subst (λ (z : ℤ). comes_before down (place_of other i) z ≡ false) (sym stays) (c.requires.first other p))
