use Rattle.std.proofs.Common.{◌∙◌, ap, sym}
use Rattle.lt_formula.specs.View.{table_kinds}
use Rattle.lt_formula.specs.declared.facts.Facts.{Facts}
use Rattle.lt_parts.specs.Outline.{atoms_in}
use Rattle.lt_parts.specs.Part.{at}
use Rattle.lt_parts.proofs.Numbers.{atoms_known, collects_one, on_ok}
use Rattle.lt_parts.proofs.collecting.+collect_atoms.Goals as goal

pub returns-then-facts : goal.returns-then-facts
returns-then-facts t c =
    let table = c.args.table.now in
    let x = at table c.args.exp in
    let known = sym (ap (λ (f : Facts). f.is_known) c.facts.ensures) ∙ c.if-facts.true in
    on_ok c.put.result _ _ (λ is. collects_one table c.args.exp c.args.found.now.items c.put.new.found.items (atoms_in (table_kinds table) x) c.requires is (atoms_known (table_kinds table) x known)) c.put.ensures
