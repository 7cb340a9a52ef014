use Rattle.std.proofs.Common.{◌≡◌, ◌∙◌, ◌++◌, IsTrue, List, ap, map, refl, subst, sym, ℕ}
use Rattle.lt_formula.specs.View.{table_kinds}
use Rattle.lt_parts.specs.Outline.{atoms_in}
use Rattle.lt_parts.specs.Part.{at}
use Rattle.lt_parts.specs.inner.Collected.{are_within}
use Rattle.lt_parts.proofs.Arrangements.{arranged_have_flags}
use Rattle.lt_parts.proofs.dividing.part.Goals as goal

pub outline-requires-clause-flags : goal.outline-requires-clause-flags
outline-requires-clause-flags c =
    let table = c.args.table.now in
    let atoms = atoms_in (table_kinds table) (at table c.args.exp) in
    let occurring : List ℕ = c.deref.result.now in
    let within : IsTrue (are_within table occurring) =
    subst (λ (ns : List ℕ). IsTrue (are_within table ns)) (sym c.deref.ensures.value)
    (c.in_ok-collect_atoms.ensures.within (subst (λ (ns : List ℕ). IsTrue (are_within table ns)) (sym c.new-occurring.ensures.items) refl)) in
    let spell : map (at table) occurring ≡ atoms =
    ap (map (at table)) c.deref.ensures.value ∙ c.in_ok-collect_atoms.ensures.spell ∙ ap (λ ns. map (at table) ns ++ atoms) c.new-occurring.ensures.items in
    arranged_have_flags table c.has_each_once.ensures atoms occurring c.in_ok-atoms.atoms.numbers.keys within spell c.in_ok-atoms.ensures.numbers
