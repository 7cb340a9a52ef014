use Rattle.std.proofs.Common.{◌∙◌, arith, length, subst, sym, ℕ}
use Rattle.lt_space.specs.CircuitView.{circuit_formulas}
use Rattle.lt_need.specs.inner.Reached.{IsIn, IsSpread}
use Rattle.lt_need.proofs.Gatherings.{all_spread, first_gates, first_whole, reached_few, reached_none, spread_more}
use Rattle.lt_need.proofs.Lists.{in_at}
use Rattle.lt_need.proofs.gathering.spread.Goals as goal

pub reach-requires-clause-reached : goal.reach-requires-clause-reached
reach-requires-clause-reached c = reached_none c.args.marks.now.items c.clear.new.self.items c.requires.unmarked c.clear.ensures.items

pub loop-place-init : goal.loop-place-init
loop-place-init c = record {
  known = c.reach.ensures.reached;
  gates = first_gates (length c.args.faces.now) c.clear.new.self.items c.reach.new.reached.items c.args.from c.clear.ensures.items c.requires.within c.reach.ensures.reaches;
  whole = first_whole (circuit_formulas c.args.circuit.now) c.clear.new.self.items c.reach.new.reached.items c.args.from c.clear.ensures.items c.reach.ensures.reaches;
  spread = λ k l. absurd (omega (arith, l));
  len = c.reach.ensures.len;
  room = c.reach.ensures.room ∙ c.clear.ensures.capacity;
}

pub visit-requires-clause-own : goal.visit-requires-clause-own
visit-requires-clause-own c =
    subst (λ (n : ℕ). IsIn c.loop-place.reached.items n) (sym c.index.ensures) (in_at c.loop-place.reached.items c.loop-place.place c.index.result.now (omega (arith, c.len.ensures, c.loop-place-test.true)))

pub loop-place-smaller : goal.loop-place-smaller
loop-place-smaller c =
    let few = reached_few c.loop-place.marks.items c.loop-place.reached.items c.loop-place.invariant.known in
    omega (arith, few, c.visit.ensures.len, c.len.ensures, c.loop-place-test.true)

pub loop-place-preserved : goal.loop-place-preserved
loop-place-preserved c =
    let fs = circuit_formulas c.args.circuit.now in
    let s = c.loop-place.invariant in
    record {
      known = c.visit.ensures.reached;
      gates = c.visit.ensures.gates;
      whole = λ p. c.visit.ensures.same p ∙ s.whole p;
      spread = spread_more fs c.loop-place.reached.items c.visit.new.reached.items c.loop-place.place c.index.result.now (omega (arith, c.len.ensures, c.loop-place-test.true)) c.visit.ensures.more s.spread
          (subst (λ (n : ℕ). IsSpread fs c.visit.new.reached.items n) c.index.ensures c.visit.ensures.spread);
      len = c.visit.ensures.len ∙ s.len;
      room = c.visit.ensures.room ∙ s.room;
    }

pub returns-clause-atoms : goal.returns-clause-atoms
returns-clause-atoms c =
    all_spread (circuit_formulas c.args.circuit.now) c.loop-place.reached.items c.args.from c.loop-place.place (omega (arith, c.len.ensures, c.loop-place-test.false)) c.loop-place.invariant.spread c.loop-place.invariant.whole
