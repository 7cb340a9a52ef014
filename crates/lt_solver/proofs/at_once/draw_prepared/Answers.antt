use Rattle.std.proofs.Common.{◌≤◌, ◌*◌, ◌++◌, Bool, negsuc, pos, replicate, ℕ, ℤ, List, length, ap, sym, subst, ◌∙◌, arith}
use Rattle.std.specs.Prelude.{vec_capacity}
use Rattle.lt_bounds.proofs.Public.{narrower_length}
use Rattle.lt_bounds.specs.Places.{AreScaled, values_in_box}
use Rattle.lt_formula.specs.declared.scale.Scale.{Scale}
use Rattle.lt_num.specs.declared.interval.Interval.{Interval}
use Rattle.lt_space.specs.CircuitView.{circuit_formulas, circuit_len}
use Rattle.lt_space.specs.Formula.{holds}
use Rattle.lt_space.specs.SpaceView.{space_circuit, space_decimals, space_formula, space_root}
use Rattle.lt_propagation.proofs.Gates.{formulas_length}
use Rattle.lt_propagation.specs.Ties.{AreTies}
use Rattle.lt_propagation.specs.declared.linked.Linked.{Linked}
use Rattle.lt_solver.specs.inner.Known.{AreTiesOf}
use Rattle.lt_solver.specs.inner.Propagated.{IsPropagated}
use Rattle.lt_solver.proofs.Begins.{narrower_told}
use Rattle.lt_solver.proofs.Dives.{point_wider}
use Rattle.lt_solver.proofs.Drawn.{none_inside}
use Rattle.lt_solver.proofs.Recalls.{still_copied}
use Rattle.lt_solver.proofs.Scaled.{scaled_narrower}
use Rattle.lt_solver.proofs.Written.{refilled}
use Rattle.lt_solver.proofs.at_once.draw_prepared.Goals as goal

-- any sign
abbrev any_sign : Interval
any_sign = record { low = negsuc 0; high = pos 1 }

pub widen-requires-clause-scaled : goal.widen-requires-clause-scaled
widen-requires-clause-scaled c =
    let room = c.args.room.now in
    let space = c.args.space.now in
    let old = room.current.items in
    subst (λ (ss : List Scale). AreScaled ss c.deref-2.result.now) (sym c.deref.ensures.value) (subst (AreScaled room.scales.items) (sym c.deref-2.ensures.value) c.requires.scaled)

pub widen-requires-clause-room : goal.widen-requires-clause-room
widen-requires-clause-room c =
    omega (arith, ap length c.deref-2.ensures.value, c.requires.roomy.wide.widened)

pub propagate_box-requires-clause-ties : goal.propagate_box-requires-clause-ties
propagate_box-requires-clause-ties c =
    subst (λ (xs : List ℕ). AreTies (space_circuit c.args.space.now) xs) (sym c.deref-3.ensures.value) c.requires.ties

pub propagate_box-requires-clause-scaled : goal.propagate_box-requires-clause-scaled
propagate_box-requires-clause-scaled c =
    let room = c.args.room.now in
    let space = c.args.space.now in
    let old = room.current.items in
    subst (λ (ss : List Scale). AreScaled ss c.deref_mut.result.now) (sym c.deref-4.ensures.value) (subst (AreScaled room.scales.items) (sym c.deref_mut.ensures.value) c.requires.scaled)

pub propagate_box-requires-clause-widened : goal.propagate_box-requires-clause-widened
propagate_box-requires-clause-widened c =
    let scales = c.deref.ensures.value ∙ sym c.deref-4.ensures.value in
    let box = c.deref-2.ensures.value ∙ sym c.deref_mut.ensures.value in
    c.deref_mut-2.ensures.value ∙ c.widen.ensures.items ∙ (λ i. values_in_box (scales i) (box i) ++ replicate (circuit_len (space_circuit c.args.space.now)) any_sign)

pub returns-then-not-propagate_box-clause-found : goal.returns-then-not-propagate_box-clause-found
returns-then-not-propagate_box-clause-found c ranges told =
    let room = c.args.room.now in
    let space = c.args.space.now in
    let old = room.current.items in
    let test : List ℤ → Bool = λ vs. holds (space_decimals space) vs (space_formula space) in
    let new = c.propagate_box.new.current in
    let wide = c.propagate_box.new.widened in
    let P : IsPropagated (space_decimals space) (circuit_formulas (space_circuit space)) (space_root space) room.scales.items old c.propagate_box.result new wide =
    subst (λ (ss : List Scale). IsPropagated (space_decimals space) (circuit_formulas (space_circuit space)) (space_root space) ss old c.propagate_box.result new wide) c.deref-4.ensures.value
    (subst (λ (b : List Interval). IsPropagated (space_decimals space) (circuit_formulas (space_circuit space)) (space_root space) c.deref-4.result.now b c.propagate_box.result new wide) c.deref_mut.ensures.value c.propagate_box.ensures.propagated) in
    let shorter = narrower_length old new P.narrower in
    let scaled = scaled_narrower room.scales.items old new c.requires.scaled P.narrower in
    none_inside test ranges c.args.words.now c.args.down.now (c.requires.words ∙ sym told.count)
    (λ h. let t = told.told h.0 h.1 h.2 in P.none c.if-not-propagate_box.true t.0 t.1 (ap test t.2 ∙ h.2))

pub returns-then-not-propagate_box-clause-roomy : goal.returns-then-not-propagate_box-clause-roomy
returns-then-not-propagate_box-clause-roomy c gates before =
    record {
      scales = before.scales;
      starts = before.starts;
      current = before.current;
      stack = before.stack;
      wide = record {
        widened = omega (arith, before.wide.widened, c.widen.ensures.room);
        point = before.wide.point;
        copy = before.wide.copy;
        kleenes = before.wide.kleenes;
      };
      latest = before.latest;
      same = before.same;
      need = before.need;
    }

pub returns-then-not-propagate_box-clause-knows : goal.returns-then-not-propagate_box-clause-knows
returns-then-not-propagate_box-clause-knows c knows kept =
    subst (λ (copy : Linked). AreTiesOf copy c.args.room.now.same.items) (sym c.propagate_box.ensures.same) (knows kept)

pub draw_propagated-requires-clause-dives : goal.draw_propagated-requires-clause-dives
draw_propagated-requires-clause-dives c =
    let room = c.args.room.now in
    let space = c.args.space.now in
    let old = room.current.items in
    let new = c.propagate_box.new.current in
    let wide = c.propagate_box.new.widened in
    let P : IsPropagated (space_decimals space) (circuit_formulas (space_circuit space)) (space_root space) room.scales.items old c.propagate_box.result new wide =
    subst (λ (ss : List Scale). IsPropagated (space_decimals space) (circuit_formulas (space_circuit space)) (space_root space) ss old c.propagate_box.result new wide) c.deref-4.ensures.value
    (subst (λ (b : List Interval). IsPropagated (space_decimals space) (circuit_formulas (space_circuit space)) (space_root space) c.deref-4.result.now b c.propagate_box.result new wide) c.deref_mut.ensures.value c.propagate_box.ensures.propagated) in
    let shorter = narrower_length old new P.narrower in
    let box = refilled room.current.len old new room.current.ok.0 shorter in
    let begun = c.widen.new.widened in
    let around = refilled begun.len begun.items wide begun.ok.0 (c.propagate_box.auto.widened ∙ ap length c.deref_mut-2.ensures.value) in
    rw (box, around) (record {
      scaled = scaled_narrower room.scales.items old new c.requires.scaled P.narrower;
      count = c.requires.starts ∙ sym shorter;
      long = omega (arith, P.long, formulas_length (space_circuit space));
      domains = P.domains;
      covers = P.covers c.if-not-propagate_box.false;
      fixed = tt;
    })

pub draw_propagated-requires-clause-words : goal.draw_propagated-requires-clause-words
draw_propagated-requires-clause-words c =
    let room = c.args.room.now in
    let space = c.args.space.now in
    let old = room.current.items in
    let new = c.propagate_box.new.current in
    let wide = c.propagate_box.new.widened in
    let P : IsPropagated (space_decimals space) (circuit_formulas (space_circuit space)) (space_root space) room.scales.items old c.propagate_box.result new wide =
    subst (λ (ss : List Scale). IsPropagated (space_decimals space) (circuit_formulas (space_circuit space)) (space_root space) ss old c.propagate_box.result new wide) c.deref-4.ensures.value
    (subst (λ (b : List Interval). IsPropagated (space_decimals space) (circuit_formulas (space_circuit space)) (space_root space) c.deref-4.result.now b c.propagate_box.result new wide) c.deref_mut.ensures.value c.propagate_box.ensures.propagated) in
    let shorter = narrower_length old new P.narrower in
    let box = refilled room.current.len old new room.current.ok.0 shorter in
    c.requires.words ∙ sym shorter ∙ sym (ap length box)

pub draw_propagated-requires-clause-witness : goal.draw_propagated-requires-clause-witness
draw_propagated-requires-clause-witness c =
    let room = c.args.room.now in
    let space = c.args.space.now in
    let old = room.current.items in
    let new = c.propagate_box.new.current in
    let wide = c.propagate_box.new.widened in
    let P : IsPropagated (space_decimals space) (circuit_formulas (space_circuit space)) (space_root space) room.scales.items old c.propagate_box.result new wide =
    subst (λ (ss : List Scale). IsPropagated (space_decimals space) (circuit_formulas (space_circuit space)) (space_root space) ss old c.propagate_box.result new wide) c.deref-4.ensures.value
    (subst (λ (b : List Interval). IsPropagated (space_decimals space) (circuit_formulas (space_circuit space)) (space_root space) c.deref-4.result.now b c.propagate_box.result new wide) c.deref_mut.ensures.value c.propagate_box.ensures.propagated) in
    let shorter = narrower_length old new P.narrower in
    let box = refilled room.current.len old new room.current.ok.0 shorter in
    c.requires.witness ∙ sym shorter ∙ sym (ap length box)

pub draw_propagated-requires-clause-values : goal.draw_propagated-requires-clause-values
draw_propagated-requires-clause-values c =
    let room = c.args.room.now in
    let space = c.args.space.now in
    let old = room.current.items in
    let new = c.propagate_box.new.current in
    let wide = c.propagate_box.new.widened in
    let P : IsPropagated (space_decimals space) (circuit_formulas (space_circuit space)) (space_root space) room.scales.items old c.propagate_box.result new wide =
    subst (λ (ss : List Scale). IsPropagated (space_decimals space) (circuit_formulas (space_circuit space)) (space_root space) ss old c.propagate_box.result new wide) c.deref-4.ensures.value
    (subst (λ (b : List Interval). IsPropagated (space_decimals space) (circuit_formulas (space_circuit space)) (space_root space) c.deref-4.result.now b c.propagate_box.result new wide) c.deref_mut.ensures.value c.propagate_box.ensures.propagated) in
    let shorter = narrower_length old new P.narrower in
    let box = refilled room.current.len old new room.current.ok.0 shorter in
    c.requires.values ∙ sym shorter ∙ sym (ap length box)

pub draw_propagated-requires-clause-copied : goal.draw_propagated-requires-clause-copied
draw_propagated-requires-clause-copied c is =
    let after = c.propagate_box.ensures in
    still_copied c.args.room.now.boxes.recall c.propagate_box.new.recall c.args.space.now after.same after.digits (c.requires.copied (sym after.flag ∙ is))

pub draw_propagated-requires-clause-roomy : goal.draw_propagated-requires-clause-roomy
draw_propagated-requires-clause-roomy c =
    let room = c.args.room.now in
    let space = c.args.space.now in
    let old = room.current.items in
    let new = c.propagate_box.new.current in
    let wide = c.propagate_box.new.widened in
    let P : IsPropagated (space_decimals space) (circuit_formulas (space_circuit space)) (space_root space) room.scales.items old c.propagate_box.result new wide =
    subst (λ (ss : List Scale). IsPropagated (space_decimals space) (circuit_formulas (space_circuit space)) (space_root space) ss old c.propagate_box.result new wide) c.deref-4.ensures.value
    (subst (λ (b : List Interval). IsPropagated (space_decimals space) (circuit_formulas (space_circuit space)) (space_root space) c.deref-4.result.now b c.propagate_box.result new wide) c.deref_mut.ensures.value c.propagate_box.ensures.propagated) in
    let shorter = narrower_length old new P.narrower in
    let box = refilled room.current.len old new room.current.ok.0 shorter in
    let many = ap length box ∙ shorter in
    let before = c.requires.roomy in
    record {
      scales = omega (arith, many, before.scales);
      starts = omega (arith, many, before.starts);
      current = omega (arith, many, before.current);
      stack = subst (λ n. n * 42 * n ≤ vec_capacity room.stack) (sym many) before.stack;
      wide = record {
        widened = omega (arith, many, before.wide.widened, c.widen.ensures.room);
        point = omega (arith, many, before.wide.point);
        copy = omega (arith, many, before.wide.copy);
        kleenes = before.wide.kleenes;
      };
      latest = before.latest;
      same = before.same;
      need = before.need;
    }

pub returns-clause-found : goal.returns-clause-found
returns-clause-found c ranges told =
    let room = c.args.room.now in
    let space = c.args.space.now in
    let old = room.current.items in
    let new = c.propagate_box.new.current in
    let wide = c.propagate_box.new.widened in
    let P : IsPropagated (space_decimals space) (circuit_formulas (space_circuit space)) (space_root space) room.scales.items old c.propagate_box.result new wide =
    subst (λ (ss : List Scale). IsPropagated (space_decimals space) (circuit_formulas (space_circuit space)) (space_root space) ss old c.propagate_box.result new wide) c.deref-4.ensures.value
    (subst (λ (b : List Interval). IsPropagated (space_decimals space) (circuit_formulas (space_circuit space)) (space_root space) c.deref-4.result.now b c.propagate_box.result new wide) c.deref_mut.ensures.value c.propagate_box.ensures.propagated) in
    let shorter = narrower_length old new P.narrower in
    let box = refilled room.current.len old new room.current.ok.0 shorter in
    let test : List ℤ → Bool = λ vs. holds (space_decimals space) vs (space_formula space) in
    let narrow = narrower_told test room.scales.items old new ranges shorter (λ ks p. point_wider old new ks P.narrower p) (P.kept c.if-not-propagate_box.false) told in
    c.draw_propagated.ensures.found ranges (rw box narrow)

pub returns-clause-roomy : goal.returns-clause-roomy
returns-clause-roomy c gates before =
    c.draw_propagated.ensures.roomy (length c.args.room.now.current.items) gates (record {
      scales = before.scales;
      starts = before.starts;
      current = before.current;
      stack = before.stack;
      wide = record {
        widened = omega (arith, before.wide.widened, c.widen.ensures.room);
        point = before.wide.point;
        copy = before.wide.copy;
        kleenes = before.wide.kleenes;
      };
      latest = before.latest;
      same = before.same;
      need = before.need;
    })

pub returns-clause-knows : goal.returns-clause-knows
returns-clause-knows c knows =
    c.draw_propagated.ensures.knows (λ kept. subst (λ (copy : Linked). AreTiesOf copy c.args.room.now.same.items) (sym c.propagate_box.ensures.same) (knows kept))
