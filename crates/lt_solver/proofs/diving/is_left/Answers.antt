use Rattle.std.proofs.Common.{Bool, List, ℤ, length, set, ap, sym, subst, arith}
use Rattle.std.proofs.lemmas.Int.{ints}
use Rattle.std.proofs.lemmas.List.{length-set}
use Rattle.lt_bounds.proofs.Public.{values_rise}
use Rattle.lt_formula.specs.Box.{IsInBox}
use Rattle.lt_formula.specs.Translation.{value_by}
use Rattle.lt_num.specs.Interval.{IsWithin}
use Rattle.lt_num.specs.declared.interval.Interval.{Interval}
use Rattle.lt_space.specs.Evaluated.{Where}
use Rattle.lt_propagation.specs.Domains.{AreDomains}
use Rattle.lt_propagation.specs.Points.{wide_at}
use Rattle.lt_solver.specs.inner.Dive.{test_of}
use Rattle.lt_solver.proofs.Dives.{empty_part, not_true, part_covers, part_domains, part_scaled}
use Rattle.lt_solver.proofs.Scaled.{scale_at, scaled_scales, scales_long}
use Rattle.lt_solver.proofs.diving.is_left.Goals as goal

pub returns-then-part-clause-none : goal.returns-then-part-clause-none
returns-then-part-clause-none c = λ so ks p. absurd (empty_part c.args.point.now c.args.i c.args.part ks c.requires.within (omega (arith, ints)) p)

pub bounds-scales-i : goal.bounds-scales-i
bounds-scales-i c = omega (arith, c.requires.within, scales_long c.args.scales.now c.args.point.now c.requires.scaled)

pub values_within-requires : goal.values_within-requires
values_within-requires c = record { scaled = part_scaled c.args.scales.now c.args.i c.args.point.now c.requires.scaled c.requires.within c.args.part (c.requires.low, omega (arith, ints), c.requires.high) }

pub propagate-requires-clause-scales : goal.propagate-requires-clause-scales
propagate-requires-clause-scales c = scaled_scales c.args.scales.now c.args.point.now c.requires.scaled

pub propagate-requires-clause-long : goal.propagate-requires-clause-long
propagate-requires-clause-long c =
    let e = c.copy_from_slice.ensures.after in
    omega (arith, ap length e, length-set {A = Interval}, c.requires.long, scales_long c.args.scales.now c.args.point.now c.requires.scaled)

pub propagate-requires-clause-domains : goal.propagate-requires-clause-domains
propagate-requires-clause-domains c =
    let i = c.args.i in
    let r = c.values_within.result in
    subst (λ (box : List Interval). AreDomains (set box i r)) (sym c.copy_from_slice.ensures.after)
    (subst (λ (s : Interval). AreDomains (set c.args.spare.now i s)) (sym c.values_within.ensures.value)
    (part_domains c.args.scales.now i c.args.point.now c.requires.scaled c.requires.within c.args.part (c.requires.low, omega (arith, ints), c.requires.high) c.args.spare.now c.requires.domains))

pub returns-clause-covers : goal.returns-clause-covers
returns-clause-covers c = λ so ks p h.
    let scales = c.args.scales.now in
    let i = c.args.i in
    let r = c.values_within.result in
    let x = wide_at c.args.decimals c.args.circuit.now scales ks in
    let values = λ (k : ℤ) (w : IsWithin c.args.part k). subst (λ (s : Interval). IsWithin s (value_by (scale_at scales i) k)) (sym c.values_within.ensures.value) (values_rise (scale_at scales i) c.args.part k w) in
    let kept = part_covers scales i c.args.point.now c.requires.scaled c.requires.within c.args.part (c.requires.low, omega (arith, ints), c.requires.high) c.args.decimals c.args.circuit.now c.args.root c.args.spare.now c.requires.covers r values ks p h in
    subst (λ (b : Bool). Where b (IsInBox c.propagate.new.ranges x)) so
    (c.propagate.ensures.keeps ks (subst (λ (box : List Interval). IsInBox (set box i r) x) (sym c.copy_from_slice.ensures.after) kept))

pub returns-clause-none : goal.returns-clause-none
returns-clause-none c = λ so ks p.
    let scales = c.args.scales.now in
    let i = c.args.i in
    let r = c.values_within.result in
    let x = wide_at c.args.decimals c.args.circuit.now scales ks in
    let values = λ (k : ℤ) (w : IsWithin c.args.part k). subst (λ (s : Interval). IsWithin s (value_by (scale_at scales i) k)) (sym c.values_within.ensures.value) (values_rise (scale_at scales i) c.args.part k w) in
    not_true (test_of c.args.decimals c.args.circuit.now c.args.root scales ks)
    (λ h. subst (λ (b : Bool). Where b (IsInBox c.propagate.new.ranges x)) so
    (c.propagate.ensures.keeps ks (subst (λ (box : List Interval). IsInBox (set box i r) x) (sym c.copy_from_slice.ensures.after)
    (part_covers scales i c.args.point.now c.requires.scaled c.requires.within c.args.part (c.requires.low, omega (arith, ints), c.requires.high) c.args.decimals c.args.circuit.now c.args.root c.args.spare.now c.requires.covers r values ks p h))))
