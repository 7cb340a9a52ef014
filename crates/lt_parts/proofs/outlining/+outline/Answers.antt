use Rattle.std.proofs.Common.{◌≡◌, ◌∙◌, true, false, [], ◌∷◌, ap, sym, rules}
use Rattle.lt_formula.specs.Table.{spelled}
use Rattle.lt_formula.specs.View.{table_expressions, table_kinds}
use Rattle.lt_formula.specs.declared.facts.Facts.{Facts}
use Rattle.lt_parts.specs.Outline.{atoms_in, is_comparison}
use Rattle.lt_parts.specs.Part.{IsFlagOf, at}
use Rattle.lt_space.specs.FormulaView.{formula_view}
use Rattle.lt_space.specs.Meaning.{is_known}
use Rattle.lt_parts.proofs.Numbers.{atoms_known}
use Rattle.lt_parts.proofs.Outlinings.{atom_has, flag_of, flags_condition, flags_first, flags_right, flags_second, leaf_atoms, outlines_known}
use Rattle.lt_parts.proofs.outlining.+outline.Goals as goal

pub outline-flag-requires : goal.outline-flag-requires
outline-flag-requires t c =
    let table = c.args.table.now in
    let x = at table c.args.exp in
    let known : is_known (table_kinds table) x ≡ true = sym (ap (λ (f : Facts). f.is_known) c.facts.ensures) ∙ c.if-facts.true in
    atom_has table c.args.atoms.now.keys c.args.exp c.requires.within (atoms_known (table_kinds table) x known) c.requires.flags

pub outline-flag-requires-in-Constant : goal.outline-flag-requires-in-Constant
outline-flag-requires-in-Constant t c =
    let table = c.args.table.now in
    let kinds = table_kinds table in
    let is = leaf_atoms kinds (spelled (table_expressions table)) c.shape.result c.in-Constant.is in
    atom_has table c.args.atoms.now.keys c.args.exp c.requires.within (ap (atoms_in kinds) c.shape.ensures.spells ∙ is ∙ ap (λ x. x ∷ []) (sym c.shape.ensures.spells)) c.requires.flags

pub outline-boxed_outline-requires-in-Binary-2 : goal.outline-boxed_outline-requires-in-Binary-2
outline-boxed_outline-requires-in-Binary-2 t c =
    let table = c.args.table.now in
    let x = at table c.args.exp in
    let d = at table c.in-Binary.left in
    let unknown : is_known (table_kinds table) x ≡ false = sym (ap (λ (f : Facts). f.is_known) c.facts.ensures) ∙ c.if-facts.false in
    let logical : is_comparison (table_kinds table) d ≡ false = sym c.is_comparison.ensures ∙ c.if-is_comparison.false in
    (search rules, (search rules, flags_right table c.args.atoms.now.keys x c.in-Binary.operator d (at table c.in-Binary.right) c.in-Binary.ensures.spells unknown logical c.requires.flags))

pub outline-boxed_outline-requires-in-Choice : goal.outline-boxed_outline-requires-in-Choice
outline-boxed_outline-requires-in-Choice t c =
    let table = c.args.table.now in
    let x = at table c.args.exp in
    let unknown : is_known (table_kinds table) x ≡ false = sym (ap (λ (f : Facts). f.is_known) c.facts.ensures) ∙ c.if-facts.false in
    (search rules, (search rules, flags_condition table c.args.atoms.now.keys x (at table c.in-Choice.condition) (at table c.in-Choice.first) (at table c.in-Choice.second) c.in-Choice.ensures.spells unknown c.requires.flags))

pub outline-boxed_outline-requires-in-Choice-2 : goal.outline-boxed_outline-requires-in-Choice-2
outline-boxed_outline-requires-in-Choice-2 t c =
    let table = c.args.table.now in
    let x = at table c.args.exp in
    let unknown : is_known (table_kinds table) x ≡ false = sym (ap (λ (f : Facts). f.is_known) c.facts.ensures) ∙ c.if-facts.false in
    (search rules, (search rules, flags_first table c.args.atoms.now.keys x (at table c.in-Choice.condition) (at table c.in-Choice.first) (at table c.in-Choice.second) c.in-Choice.ensures.spells unknown c.requires.flags))

pub outline-boxed_outline-requires-in-Choice-3 : goal.outline-boxed_outline-requires-in-Choice-3
outline-boxed_outline-requires-in-Choice-3 t c =
    let table = c.args.table.now in
    let x = at table c.args.exp in
    let unknown : is_known (table_kinds table) x ≡ false = sym (ap (λ (f : Facts). f.is_known) c.facts.ensures) ∙ c.if-facts.false in
    (search rules, (search rules, flags_second table c.args.atoms.now.keys x (at table c.in-Choice.condition) (at table c.in-Choice.first) (at table c.in-Choice.second) c.in-Choice.ensures.spells unknown c.requires.flags))

pub outline-returns-then-facts : goal.outline-returns-then-facts
outline-returns-then-facts t c =
    let table = c.args.table.now in
    let atoms = c.args.atoms.now.keys in
    let x = at table c.args.exp in
    let known : is_known (table_kinds table) x ≡ true = sym (ap (λ (f : Facts). f.is_known) c.facts.ensures) ∙ c.if-facts.true in
    outlines_known (IsFlagOf table atoms) (table_kinds table) x (formula_view c.flag.result) known (flag_of table atoms c.args.exp (formula_view c.flag.result) c.requires.within c.flag.ensures)
