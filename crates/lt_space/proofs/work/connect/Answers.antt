use Rattle.std.proofs.Common.{◌≡◌, ◌∙◌, arith, ap, sym}
use Rattle.lt_space.specs.Circuit.{formula_at}
use Rattle.lt_space.specs.CircuitView.{circuit_formulas}
use Rattle.lt_space.specs.Formula.{conjunction, disjunction, exclusive, negation}
use Rattle.lt_space.specs.Meaning.{connected}
use Rattle.lt_formula.specs.declared.operator.BinaryOperator.{BinaryOperator}
use Rattle.lt_space.proofs.Visitings.{connected_rest, connected_xor, one_fits, pushed_gate, pushed_is, pushed_more, pushed_twice, two_fit}
use Rattle.lt_space.proofs.work.connect.Goals as goal

pub push-requires-clause-fits : goal.push-requires-clause-fits
push-requires-clause-fits c = two_fit c.args.circuit.now c.args.left c.args.right c.requires.left c.requires.right

pub push-requires-in-Or-clause-fits : goal.push-requires-in-Or-clause-fits
push-requires-in-Or-clause-fits c = two_fit c.args.circuit.now c.args.left c.args.right c.requires.left c.requires.right

pub push-denied-requires-clause-fits : goal.push-denied-requires-clause-fits
push-denied-requires-clause-fits c = one_fits c.args.circuit.now c.args.left c.requires.left

pub push-requires-in-Implies-clause-fits : goal.push-requires-in-Implies-clause-fits
push-requires-in-Implies-clause-fits c =
    let old = c.args.circuit.now in
    let e = c.push-denied.ensures in
    let p = pushed_gate old c.push-denied.new.self c.push-denied.result (negation (formula_at (circuit_formulas old) c.args.left)) e.number e.formulas e.len e.terms e.room e.terms_room in
    two_fit c.push-denied.new.self c.push-denied.result c.args.right p.within (omega (arith, p.grows.more, c.requires.right))

pub push-requires-in-Xor-clause-fits : goal.push-requires-in-Xor-clause-fits
push-requires-in-Xor-clause-fits c = two_fit c.args.circuit.now c.args.left c.args.right c.requires.left c.requires.right

pub push-different-requires : goal.push-different-requires
push-different-requires c =
    record {
      fits = two_fit c.args.circuit.now c.args.left c.args.right c.requires.left c.requires.right;
      room = omega (arith, c.requires.room);
    }

pub returns-in-And : goal.returns-in-And
returns-in-And c =
    let old = c.args.circuit.now in
    let f = formula_at (circuit_formulas old) c.args.left in
    let g = formula_at (circuit_formulas old) c.args.right in
    let e = c.push.ensures in
    let p = pushed_gate old c.push.new.self c.push.result (conjunction f g) e.number e.formulas e.len e.terms e.room e.terms_room in
    pushed_is old c.push.new.self c.push.result (conjunction f g) (connected c.args.operator f g) 2 0 (ap (λ (op : BinaryOperator). connected op f g) (sym c.in-And.is))
    (pushed_more old c.push.new.self c.push.result (conjunction f g) 1 2 0 0 (omega arith) (omega arith) p)

pub returns-in-Or : goal.returns-in-Or
returns-in-Or c =
    let old = c.args.circuit.now in
    let f = formula_at (circuit_formulas old) c.args.left in
    let g = formula_at (circuit_formulas old) c.args.right in
    let new = c.push-in-Or.new.self in
    let n = c.push-in-Or.result in
    let e = c.push-in-Or.ensures in
    let p = pushed_gate old new n (disjunction f g) e.number e.formulas e.len e.terms e.room e.terms_room in
    pushed_is old new n (disjunction f g) (connected c.args.operator f g) 2 0 (ap (λ (op : BinaryOperator). connected op f g) (sym c.in-Or.is))
    (pushed_more old new n (disjunction f g) 1 2 0 0 (omega arith) (omega arith) p)

pub returns-in-Implies : goal.returns-in-Implies
returns-in-Implies c =
    let old = c.args.circuit.now in
    let f = formula_at (circuit_formulas old) c.args.left in
    let g = formula_at (circuit_formulas old) c.args.right in
    let mid = c.push-denied.new.self in
    let m = c.push-denied.result in
    let d = c.push-denied.ensures in
    let p = pushed_gate old mid m (negation f) d.number d.formulas d.len d.terms d.room d.terms_room in
    let new = c.push-in-Implies.new.self in
    let n = c.push-in-Implies.result in
    let e = c.push-in-Implies.ensures in
    let whole = disjunction (formula_at (circuit_formulas mid) m) (formula_at (circuit_formulas mid) c.args.right) in
    let q = pushed_gate mid new n whole e.number e.formulas e.len e.terms e.room e.terms_room in
    let is : whole ≡ disjunction (negation f) g = λ i. disjunction (p.is i) (p.grows.same c.args.right c.requires.right i) in
    pushed_is old new n whole (connected c.args.operator f g) 2 0 (is ∙ ap (λ (op : BinaryOperator). connected op f g) (sym c.in-Implies.is))
    (pushed_twice old mid new m n (negation f) whole 0 p q)

pub returns-in-Xor : goal.returns-in-Xor
returns-in-Xor c =
    let old = c.args.circuit.now in
    let f = formula_at (circuit_formulas old) c.args.left in
    let g = formula_at (circuit_formulas old) c.args.right in
    let new = c.push-in-Xor.new.self in
    let n = c.push-in-Xor.result in
    let e = c.push-in-Xor.ensures in
    let p = pushed_gate old new n (exclusive f g) e.number e.formulas e.len e.terms e.room e.terms_room in
    pushed_is old new n (exclusive f g) (connected c.args.operator f g) 2 0 (connected_xor c.args.operator f g c.in-Xor.is)
    (pushed_more old new n (exclusive f g) 1 2 0 0 (omega arith) (omega arith) p)

pub returns-in_default : goal.returns-in_default
returns-in_default c =
    let old = c.args.circuit.now in
    let f = formula_at (circuit_formulas old) c.args.left in
    let g = formula_at (circuit_formulas old) c.args.right in
    let mid = c.push-different.new.self in
    let m = c.push-different.result in
    let d = c.push-different.ensures in
    let p = pushed_gate old mid m (exclusive f g) d.number d.formulas d.len d.terms d.room d.terms_room in
    let new = c.push-in_default.new.self in
    let n = c.push-in_default.result in
    let e = c.push-in_default.ensures in
    let whole = negation (formula_at (circuit_formulas mid) m) in
    let q = pushed_gate mid new n whole e.number e.formulas e.len e.terms e.room e.terms_room in
    let is : whole ≡ negation (exclusive f g) = ap negation p.is in
    let rest = connected_rest c.args.operator f g c.in_default.not-And c.in_default.not-Or c.in_default.not-Xor c.in_default.not-Implies c.in_default.not-Ne in
    pushed_is old new n whole (connected c.args.operator f g) 2 0 (is ∙ rest) (pushed_twice old mid new m n (exclusive f g) whole 0 p q)
