use Rattle.std.proofs.Common.{◌≡◌, ◌+◌, ◌-◌, ◌∙◌, ap, arith, length, sym, suc, List, ℕ, min, take}
use Rattle.lt_space.specs.CircuitView.{circuit_formulas}
use Rattle.lt_need.specs.inner.Conjuncts.{choices_at, weighed}
use Rattle.lt_need.proofs.Rooms.{kept_room, same_room, still_room}
use Rattle.lt_need.proofs.Weights.{last_weighed, length-weighed_last}
use Rattle.lt_need.proofs.conjuncts.choices_of.Goals as goal

pub gates-init : goal.gates-init
gates-init c =
    let count = choices_at (circuit_formulas c.args.circuit.now) in
    record {
      within = omega arith;
      all = ap (λ (k : ℕ). min k 81) (sym (last_weighed count c.args.root) ∙ ap (λ (ws : List ℕ). weighed count (take (suc c.args.root) ws)) (sym c.weigh_last.ensures.items)) ∙ omega arith;
      most = omega arith;
      len = ap length c.weigh_last.ensures.items ∙ length-weighed_last c.args.root;
      weights = c.weigh_last.ensures.capacity;
      kept = same_room (length c.args.faces.now) c.args.gathering.now c.requires.room;
      room = c.requires.room;
    }

pub returns-then-number-eq0-clause-all : goal.returns-then-number-eq0-clause-all
returns-then-number-eq0-clause-all c =
    let count = choices_at (circuit_formulas c.args.circuit.now) in
    sym (c.gates.invariant.all ∙ c.with_gate-sum.ensures.all ∙ ap (λ (n : ℕ). min (c.with_gate-sum.result + weighed count (take n c.with_gate-sum.new.weights.items)) 81) c.if-number-eq0.true ∙ omega (arith, c.with_gate-sum.ensures.most))

pub gates-preserved : goal.gates-preserved
gates-preserved c =
    let s = c.gates.invariant in
    let count = choices_at (circuit_formulas c.args.circuit.now) in
    let next : c.gates.number ≡ suc (c.gates.number - 1) = omega arith in
    record {
      within = omega arith;
      all = s.all ∙ c.with_gate-sum.ensures.all ∙ ap (λ (n : ℕ). min (c.with_gate-sum.result + weighed count (take n c.with_gate-sum.new.weights.items)) 81) next;
      most = c.with_gate-sum.ensures.most;
      len = c.with_gate-sum.ensures.len ∙ s.len;
      weights = c.with_gate-sum.ensures.weights ∙ s.weights;
      kept = still_room c.args.gathering.now c.gates.gathering c.with_gate-sum.new.gathering s.kept c.with_gate-sum.ensures.room;
      room = kept_room (length c.args.faces.now) c.gates.gathering c.with_gate-sum.new.gathering s.room c.with_gate-sum.ensures.room;
    }
