use Rattle.std.proofs.Common.{◌∙◌, ap, sym, ℕ, List, Option, None, get_or}
use Rattle.lt_space.specs.CircuitView.{circuit_formulas}
use Rattle.lt_need.proofs.Sharings.{later_use}
use Rattle.lt_need.proofs.uses.note_use.Goals as goal

pub returns-in-Some-clause-owned : goal.returns-in-Some-clause-owned
returns-in-Some-clause-owned c = λ used known.
    later_use (circuit_formulas c.args.circuit.now) used c.args.number c.args.variable c.args.owners.now.items c.args.shared.now.items c.requires.variable known c.in-Some.owner c.note_other.new.shared.items c.requires.shared
    (ap (λ (os : List (Option ℕ)). get_or os c.args.variable None) (sym c.deref.ensures.value) ∙ sym c.in-Some.ensures) c.note_other.ensures.items
