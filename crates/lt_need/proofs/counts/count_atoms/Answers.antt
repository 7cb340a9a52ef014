use Rattle.std.proofs.Common.{◌≡◌, ◌≤◌, ◌∙◌, sym, arith, length}
use Rattle.lt_space.specs.CircuitView.{circuit_formulas}
use Rattle.lt_need.specs.inner.Counts.{found_atoms}
use Rattle.lt_need.proofs.Counting.{noted_step, noted_whole}
use Rattle.lt_need.proofs.counts.count_atoms.Goals as goal

pub loop-place-preserved : goal.loop-place-preserved
loop-place-preserved c =
    let s = c.loop-place.invariant in
    let fs = circuit_formulas c.args.circuit.now in
    record {
      atoms = noted_step fs c.args.atoms.now c.loop-place.place 0 (found_atoms fs c.loop-place.found.items) (found_atoms fs c.note.new.found.items) (omega arith) s.atoms c.note.ensures.atoms;
      different = c.note.ensures.different s.different;
      gates = c.note.ensures.gates;
      few = omega (arith, c.note.ensures.len, s.few);
      room = c.note.ensures.room ∙ s.room;
    }

pub returns-clause-count : goal.returns-clause-count
returns-clause-count c =
    let s = c.loop-place.invariant in
    let fs = circuit_formulas c.args.circuit.now in
    let long : c.len.result ≡ length c.loop-place.found.items = omega (arith, c.len.ensures) in
    let all : length c.args.atoms.now ≤ c.loop-place.place = omega arith in
    long ∙ sym s.different ∙ noted_whole fs c.args.atoms.now c.loop-place.place (found_atoms fs c.loop-place.found.items) all s.atoms
