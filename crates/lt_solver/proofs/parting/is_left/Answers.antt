use Rattle.std.proofs.Common.{◌≡◌, ◌++◌, true, Bool, List, ℤ, length, take, drop, set, ap, sym, subst, ◌∙◌, arith}
use Rattle.std.proofs.lemmas.List.{length-set}
use Rattle.lt_bounds.proofs.Public.{narrower_length, values_rise}
use Rattle.lt_formula.specs.Box.{IsInBox}
use Rattle.lt_formula.specs.Translation.{value_by}
use Rattle.lt_num.specs.Interval.{IsWithin}
use Rattle.lt_num.specs.declared.interval.Interval.{Interval}
use Rattle.lt_space.specs.CircuitView.{circuit_len}
use Rattle.lt_space.specs.Evaluated.{Where}
use Rattle.lt_space.specs.SpaceView.{space_circuit, space_decimals, space_root}
use Rattle.lt_propagation.specs.Domains.{AreDomains}
use Rattle.lt_propagation.specs.Points.{wide_at}
use Rattle.lt_solver.specs.inner.Classified.{passes}
use Rattle.lt_solver.proofs.Dives.{not_true, part_covers, part_domains, part_scaled}
use Rattle.lt_solver.proofs.Scaled.{scale_at, scaled_scales, scales_long}
use Rattle.lt_solver.proofs.Written.{refilled}
use Rattle.lt_solver.proofs.parting.is_left.Goals as goal

pub bounds-scales-i : goal.bounds-scales-i
bounds-scales-i c = omega (arith, c.requires.within, scales_long c.args.scales.now c.args.current.now c.requires.scaled)

pub values_within-requires : goal.values_within-requires
values_within-requires c = record { scaled = part_scaled c.args.scales.now c.args.i c.args.current.now c.requires.scaled c.requires.within c.args.part (c.requires.low, c.requires.some, c.requires.high) }

pub propagate-requires-clause-scales : goal.propagate-requires-clause-scales
propagate-requires-clause-scales c = scaled_scales c.args.scales.now c.args.current.now c.requires.scaled

pub propagate-requires-clause-long : goal.propagate-requires-clause-long
propagate-requires-clause-long c =
    let e = c.deref_mut.ensures.value in
    let items = c.copy_box.ensures.items in
    omega (arith, ap length e, ap length items, length-set {A = Interval}, c.requires.long, ap circuit_len c.circuit.ensures, scales_long c.args.scales.now c.args.current.now c.requires.scaled)

pub propagate-requires-clause-domains : goal.propagate-requires-clause-domains
propagate-requires-clause-domains c =
    let i = c.args.i in
    let r = c.values_within.result in
    subst AreDomains (sym (c.deref_mut.ensures.value ∙ ap (λ (box : List Interval). set box i r) c.copy_box.ensures.items))
    (subst (λ (s : Interval). AreDomains (set c.args.widened.now i s)) (sym c.values_within.ensures.value)
    (part_domains c.args.scales.now i c.args.current.now c.requires.scaled c.requires.within c.args.part (c.requires.low, c.requires.some, c.requires.high) c.args.widened.now c.requires.domains))

-- the wide box of the part, before and after it is propagated
box_is : (c : goal.After-room-2-1) → c.deref_mut.result.now ≡ set c.args.widened.now c.args.i c.values_within.result
box_is c = c.deref_mut.ensures.value ∙ ap (λ (box : List Interval). set box c.args.i c.values_within.result) c.copy_box.ensures.items

new_is : (c : goal.After-room-2-1) → take c.copy_box.new.copy.len (c.propagate.new.ranges ++ drop (length c.propagate.new.ranges) (set c.copy_box.new.copy.items c.args.i c.values_within.result)) ≡ c.propagate.new.ranges
new_is c =
    refilled c.copy_box.new.copy.len (set c.copy_box.new.copy.items c.args.i c.values_within.result) c.propagate.new.ranges
    (c.copy_box.new.copy.ok.0 ∙ sym (length-set c.copy_box.new.copy.items c.args.i c.values_within.result))
    (narrower_length c.deref_mut.result.now c.propagate.new.ranges c.propagate.ensures.narrower ∙ ap length c.deref_mut.ensures.value)

kept : (c : goal.After-room-2-1) (ks : List ℤ) → IsInBox (set c.args.current.now c.args.i c.args.part) ks → passes c.args.space.now c.args.scales.now ks ≡ true
    → Where c.propagate.result (IsInBox c.propagate.new.ranges (wide_at (space_decimals c.args.space.now) (space_circuit c.args.space.now) c.args.scales.now ks))
kept c ks p h =
    let space = c.args.space.now in
    let scales = c.args.scales.now in
    let i = c.args.i in
    let x = wide_at (space_decimals space) (space_circuit space) scales ks in
    let values = λ (k : ℤ) (w : IsWithin c.args.part k). subst (λ (s : Interval). IsWithin s (value_by (scale_at scales i) k)) (sym c.values_within.ensures.value) (values_rise (scale_at scales i) c.args.part k w) in
    let there = part_covers scales i c.args.current.now c.requires.scaled c.requires.within c.args.part (c.requires.low, c.requires.some, c.requires.high) (space_decimals space) (space_circuit space) (space_root space) c.args.widened.now c.requires.covers c.values_within.result values ks p h in
    subst (λ (y : List ℤ). Where c.propagate.result (IsInBox c.propagate.new.ranges y)) (λ j. wide_at (c.decimals.ensures.decimals j) (c.circuit.ensures j) scales ks)
    (c.propagate.ensures.keeps ks (subst (λ (box : List Interval). IsInBox box (wide_at c.decimals.result c.circuit.result.now scales ks)) (sym (box_is c)) (subst (λ (y : List ℤ). IsInBox (set c.args.widened.now i c.values_within.result) y) (λ j. wide_at (sym c.decimals.ensures.decimals j) (sym c.circuit.ensures j) scales ks) there)))

pub returns-clause-covers : goal.returns-clause-covers
returns-clause-covers c so ks p h =
    let x = wide_at (space_decimals c.args.space.now) (space_circuit c.args.space.now) c.args.scales.now ks in
    subst (λ (box : List Interval). IsInBox box x) (sym (new_is c)) (subst (λ (b : Bool). Where b (IsInBox c.propagate.new.ranges x)) so (kept c ks p h))

pub returns-clause-none : goal.returns-clause-none
returns-clause-none c so ks p =
    let x = wide_at (space_decimals c.args.space.now) (space_circuit c.args.space.now) c.args.scales.now ks in
    not_true (passes c.args.space.now c.args.scales.now ks) (λ h. subst (λ (b : Bool). Where b (IsInBox c.propagate.new.ranges x)) so (kept c ks p h))
