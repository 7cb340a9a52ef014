use Rattle.std.proofs.Common.{◌≡◌, Bool, true, ℕ, ℤ, List, Some, Vec, length, ap, sym, subst, ◌∙◌, arith}
use Rattle.std.specs.declared.alloc.Global.{Global}
use Rattle.lt_bounds.specs.Places.{AreScaled}
use Rattle.lt_formula.specs.Translation.{values_at}
use Rattle.lt_formula.specs.declared.scale.Scale.{Scale}
use Rattle.lt_num.specs.declared.interval.Interval.{Interval}
use Rattle.lt_space.specs.CircuitView.{circuit_len}
use Rattle.lt_space.specs.Formula.{holds}
use Rattle.lt_space.specs.SpaceView.{space_circuit, space_decimals, space_formula}
use Rattle.lt_propagation.specs.Ties.{AreTies}
use Rattle.lt_propagation.specs.declared.linked.Linked.{Linked}
use Rattle.lt_solver.specs.declared.recalling.Recall.{Recall}
use Rattle.lt_solver.specs.inner.Begun.{IsCopied}
use Rattle.lt_solver.specs.inner.Classified.{passes}
use Rattle.lt_solver.specs.inner.Drawing.{Passes, TellsRanges}
use Rattle.lt_solver.specs.inner.Known.{AreTiesOf}
use Rattle.lt_solver.specs.inner.Points.{first_point}
use Rattle.lt_solver.proofs.Begins.{same_first}
use Rattle.lt_solver.proofs.Written.{refilled}
use Rattle.lt_solver.proofs.at_once.draw_propagated.Goals as goal

pub is_witness_at_hand-requires-clause-ties : goal.is_witness_at_hand-requires-clause-ties
is_witness_at_hand-requires-clause-ties c =
    subst (λ (xs : List ℕ). AreTies (space_circuit c.args.space.now) xs) (sym c.deref.ensures.value) c.requires.ties

pub is_witness_at_hand-requires-clause-dives : goal.is_witness_at_hand-requires-clause-dives
is_witness_at_hand-requires-clause-dives c =
    rw (c.deref-2.ensures.value, c.deref-3.ensures.value, c.deref-4.ensures.value) c.requires.dives

pub is_witness_at_hand-requires-clause-witness : goal.is_witness_at_hand-requires-clause-witness
is_witness_at_hand-requires-clause-witness c =
    c.requires.witness ∙ sym (ap length c.deref-4.ensures.value)

pub is_witness_at_hand-requires-clause-spare : goal.is_witness_at_hand-requires-clause-spare
is_witness_at_hand-requires-clause-spare c =
    c.requires.values ∙ sym (ap length c.deref-4.ensures.value)

pub is_witness_at_hand-requires-clause-wide : goal.is_witness_at_hand-requires-clause-wide
is_witness_at_hand-requires-clause-wide c =
    rw c.deref-4.ensures.value c.requires.roomy.wide

pub returns-then-not-is_witness_at_hand-clause-roomy : goal.returns-then-not-is_witness_at_hand-clause-roomy
returns-then-not-is_witness_at_hand-clause-roomy c variables gates before = record {
  scales = before.scales;
  starts = before.starts;
  current = before.current;
  stack = before.stack;
  wide = c.is_witness_at_hand.ensures.wide variables gates before.wide;
  latest = before.latest;
  same = before.same;
  need = before.need;
}

pub returns-then-not-is_witness_at_hand-clause-knows : goal.returns-then-not-is_witness_at_hand-clause-knows
returns-then-not-is_witness_at_hand-clause-knows c knows kept =
    subst (λ (r : Recall). AreTiesOf r.circuit c.args.room.now.same.items) (sym c.is_witness_at_hand.ensures.recall) (knows kept)

pub draw_all-requires : goal.draw_all-requires
draw_all-requires c =
    let room = c.args.room.now in
    let space = c.args.space.now in
    let after = c.is_witness_at_hand.ensures in
    let wide = after.wide (length room.current.items) (circuit_len (space_circuit space)) c.requires.roomy.wide in
    let along = ap length c.deref_mut.ensures.value in
    let around = c.deref_mut-2.ensures.value ∙ ap (λ (v : Vec Interval Global). v.items) after.widened in
    record {
      ties = subst (λ (xs : List ℕ). AreTies (space_circuit space) xs) (sym c.deref-5.ensures.value) c.requires.ties;
      copied = subst (λ (r : Recall). r.is_copied ≡ true → IsCopied r space) (sym after.recall) c.requires.copied;
      words = c.requires.words ∙ sym c.requires.dives.count ∙ sym (ap length c.deref-7.ensures.value);
      dives = rw (c.deref-6.ensures.value, c.deref-7.ensures.value, c.deref_mut.ensures.value, around) c.requires.dives;
      witness = subst (λ (b : List Interval). Passes (passes space c.deref-6.result.now) b c.is_witness_at_hand.new.witness) (c.deref-4.ensures.value ∙ sym c.deref_mut.ensures.value)
          (subst (λ (ss : List Scale). Passes (passes space ss) c.deref-4.result.now c.is_witness_at_hand.new.witness) (c.deref-2.ensures.value ∙ sym c.deref-6.ensures.value) (after.found c.if-not-is_witness_at_hand.false));
      found = c.is_witness_at_hand.auto.spare ∙ c.requires.values ∙ sym along;
      point = omega (arith, along, wide.point);
      copy = omega (arith, ap length around, c.requires.dives.long, wide.copy);
      kleenes = wide.kleenes;
    }

pub returns-then-not-draw_all-clause-roomy : goal.returns-then-not-draw_all-clause-roomy
returns-then-not-draw_all-clause-roomy c variables gates before =
    let wide = c.is_witness_at_hand.ensures.wide variables gates before.wide in
    record {
      scales = before.scales;
      starts = before.starts;
      current = before.current;
      stack = before.stack;
      wide = record {
        widened = wide.widened;
        point = omega (arith, wide.point, c.draw_all.ensures.point);
        copy = omega (arith, wide.copy, c.draw_all.ensures.copy);
        kleenes = omega (arith, wide.kleenes, c.draw_all.ensures.kleenes);
      };
      latest = before.latest;
      same = before.same;
      need = before.need;
    }

pub returns-then-not-draw_all-clause-knows : goal.returns-then-not-draw_all-clause-knows
returns-then-not-draw_all-clause-knows c knows kept =
    let circuit = c.draw_all.ensures.circuit ∙ ap (λ (r : Recall). r.circuit) c.is_witness_at_hand.ensures.recall in
    subst (λ (copy : Linked). AreTiesOf copy c.args.room.now.same.items) (sym circuit) (knows kept)

pub write_first-requires : goal.write_first-requires
write_first-requires c =
    let room = c.args.room.now in
    let last = c.draw_all.new.current in
    let lasting = c.draw_all.auto.current ∙ ap length c.deref_mut.ensures.value in
    let box = c.deref-9.ensures.value ∙ refilled room.current.len room.current.items last room.current.ok.0 lasting in
    record {
      scaled = subst (λ (ss : List Scale). AreScaled ss c.deref-9.result.now) (c.deref-6.ensures.value ∙ sym c.deref-8.ensures.value) (subst (AreScaled c.deref-6.result.now) (sym box) (c.draw_all.ensures.scaled c.if-not-draw_all.false));
      starts = omega (arith, ap length box, lasting, c.draw_all.auto.witness, c.is_witness_at_hand.auto.witness, c.requires.witness);
      values = omega (arith, ap length box, lasting, c.draw_all.auto.found, c.is_witness_at_hand.auto.spare, c.requires.values);
    }

pub returns-clause-found : goal.returns-clause-found
returns-clause-found c ranges told =
    let room = c.args.room.now in
    let space = c.args.space.now in
    let so = c.if-not-draw_all.false in
    let test : List ℤ → Bool = λ vs. holds (space_decimals space) vs (space_formula space) in
    let last = c.draw_all.new.current in
    let lasting = c.draw_all.auto.current ∙ ap length c.deref_mut.ensures.value in
    let box : c.deref-9.result.now ≡ last = c.deref-9.ensures.value ∙ refilled room.current.len room.current.items last room.current.ok.0 lasting in
    let witness = c.draw_all.new.witness in
    let there = subst (λ (ss : List Scale). TellsRanges test ss c.deref_mut.result.now ranges) (sym c.deref-6.ensures.value) (subst (λ (b : List Interval). TellsRanges test room.scales.items b ranges) (sym c.deref_mut.ensures.value) told) in
    let scales : c.deref-8.result.now ≡ c.deref-6.result.now = c.deref-8.ensures.value ∙ sym c.deref-6.ensures.value in
    c.draw_all.ensures.drawn so ranges there
    ∙ ap Some (sym (c.write_first.ensures ∙ (λ i. values_at (scales i) (first_point witness (box i))) ∙ ap (values_at c.deref-6.result.now) (same_first last witness (c.draw_all.ensures.witness so).0)))

pub returns-clause-roomy : goal.returns-clause-roomy
returns-clause-roomy c variables gates before =
    let wide = c.is_witness_at_hand.ensures.wide variables gates before.wide in
    record {
      scales = before.scales;
      starts = before.starts;
      current = before.current;
      stack = before.stack;
      wide = record {
        widened = wide.widened;
        point = omega (arith, wide.point, c.draw_all.ensures.point);
        copy = omega (arith, wide.copy, c.draw_all.ensures.copy);
        kleenes = omega (arith, wide.kleenes, c.draw_all.ensures.kleenes);
      };
      latest = before.latest;
      same = before.same;
      need = before.need;
    }

pub returns-clause-knows : goal.returns-clause-knows
returns-clause-knows c knows kept =
    let circuit = c.draw_all.ensures.circuit ∙ ap (λ (r : Recall). r.circuit) c.is_witness_at_hand.ensures.recall in
    subst (λ (copy : Linked). AreTiesOf copy c.args.room.now.same.items) (sym circuit) (knows kept)
