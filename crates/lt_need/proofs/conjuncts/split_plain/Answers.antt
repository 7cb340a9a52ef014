use Rattle.std.proofs.Common.{sym, subst, arith, length}
use Rattle.lt_space.specs.CircuitView.{circuit_formulas, circuit_terms}
use Rattle.lt_space.specs.Formula.{Formula}
use Rattle.lt_need.specs.inner.Faces.{IsCore}
use Rattle.lt_need.proofs.Sums.{both_split, left_below, own_conjunct, right_below}
use Rattle.lt_need.proofs.conjuncts.split_plain.Goals as goal

pub returns-in-And : goal.returns-in-And
returns-in-And c =
    let circuit = c.args.circuit.now in
    let fs = circuit_formulas circuit in (
      left_below fs (length (circuit_terms circuit)) c.args.number c.in-And.left c.in-And.right c.in-And.ensures.fits,
      right_below fs (length (circuit_terms circuit)) c.args.number c.in-And.left c.in-And.right c.in-And.ensures.fits,
      both_split fs (circuit_terms circuit) c.args.number c.in-And.left c.in-And.right c.gate.result c.gate.ensures.formula c.in-And.is
          (subst (λ (x : Formula). IsCore x) (sym c.requires.stands.2) c.requires.stands.1.0),
    )

pub returns-in_default : goal.returns-in_default
returns-in_default c =
    let circuit = c.args.circuit.now in
    let fs = circuit_formulas circuit in
    own_conjunct (circuit_terms circuit) fs c.gate.result c.args.number c.args.base (omega (arith, c.requires.stands.0, c.if-base-number.false)) c.gate.ensures.formula c.in_default.not-And c.requires.stands.1
