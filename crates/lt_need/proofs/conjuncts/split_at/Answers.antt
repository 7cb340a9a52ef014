use Rattle.std.proofs.Common.{sym, subst, suc}
use Rattle.lt_space.specs.CircuitView.{circuit_formulas}
use Rattle.lt_need.specs.declared.faces.Face.{Face}
use Rattle.lt_need.specs.inner.Faces.{StandsFor, absorbed_at}
use Rattle.lt_need.proofs.Sums.{other_conjunct}
use Rattle.lt_need.proofs.conjuncts.split_at.Goals as goal

pub returns-in-Known : goal.returns-in-Known
returns-in-Known c =
    let fs = circuit_formulas c.args.circuit.now in
    other_conjunct fs (suc c.args.number) c.face_at.result (absorbed_at fs c.args.number)
    (subst (λ (x : Face). StandsFor fs (suc c.args.number) x (absorbed_at fs c.args.number)) (sym c.face_at.ensures) (c.requires.known.stand c.args.number c.requires.within)) c.in-Known.is
