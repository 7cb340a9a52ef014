use Rattle.std.proofs.Common.{rules, Bool, List, ℤ, add-one, sym, subst, ◌∙◌, arith}
use Rattle.lt_space.specs.Formula.{holds}
use Rattle.lt_space.specs.CircuitView.{circuit_formulas}
use Rattle.lt_space.specs.SpaceView.{space_circuit, space_decimals, space_formula, space_root}
use Rattle.lt_propagation.specs.Linked.{IsCopyOf}
use Rattle.lt_propagation.specs.declared.linked.Linked.{Linked}
use Rattle.lt_solver.proofs.Draws.{drawn_all, one_drawn}
use Rattle.lt_solver.proofs.drawing.draw_all.Goals as goal

pub draw_one-requires-clause-copied : goal.draw_one-requires-clause-copied
draw_one-requires-clause-copied c so =
    let s = c.loop-i.invariant in
    let space = c.args.space.now in
    let known = c.requires.copied (sym s.flag ∙ so) in
    (subst (λ (copy : Linked). IsCopyOf copy (circuit_formulas (space_circuit space)) (space_root space)) (sym s.circuit) known.0, s.decimals ∙ known.1)

pub returns-then-not-draw_one-clause-circuit : goal.returns-then-not-draw_one-clause-circuit
returns-then-not-draw_one-clause-circuit c = c.draw_one.ensures.circuit ∙ c.loop-i.invariant.circuit

pub returns-clause-circuit : goal.returns-clause-circuit
returns-clause-circuit c = c.loop-i.invariant.circuit

pub loop-i-preserved : goal.loop-i-preserved
loop-i-preserved c =
    let s = c.loop-i.invariant in
    let dives = s.dives in
    let so = c.if-not-draw_one.false in
    let i = c.loop-i.i in
    let test : List ℤ → Bool = λ vs. holds (space_decimals c.args.space.now) vs (space_formula c.args.space.now) in
    record {
      dives = c.draw_one.ensures.dives so;
      witness = c.draw_one.ensures.witness so;
      current = search rules;
      widened = search rules;
      found = search rules;
      drawn = λ ranges told.
          rw add-one (one_drawn test c.args.scales.now c.loop-i.current c.draw_one.new.current ranges c.args.words.now c.args.down.now i dives.scaled (omega (arith, dives.count)) (omega (arith, dives.count, c.requires.words))
          (s.drawn ranges told) c.mark_at-is_down.result (sym c.mark_at-is_down.ensures) (c.draw_one.ensures.drawn so));
      point = omega (arith, s.point, c.draw_one.ensures.point);
      copy = omega (arith, s.copy, c.draw_one.ensures.copy);
      kleenes = omega (arith, s.kleenes, c.draw_one.ensures.kleenes);
      circuit = c.draw_one.ensures.circuit ∙ s.circuit;
      decimals = c.draw_one.ensures.decimals ∙ s.decimals;
      flag = c.draw_one.ensures.flag ∙ s.flag;
    }

pub returns-clause-drawn : goal.returns-clause-drawn
returns-clause-drawn c so ranges told =
    let s = c.loop-i.invariant in
    let dives = s.dives in
    let test : List ℤ → Bool = λ vs. holds (space_decimals c.args.space.now) vs (space_formula c.args.space.now) in
    drawn_all test c.args.scales.now c.loop-i.current ranges c.args.words.now c.args.down.now c.loop-i.i c.loop-i.witness (s.drawn ranges told) (omega (arith, dives.count)) (omega (arith, dives.count, c.requires.words)) s.witness
