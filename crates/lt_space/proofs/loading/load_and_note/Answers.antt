use Rattle.std.proofs.Common.{◌∙◌, length}
use Rattle.lt_formula.specs.View.{valuation_of_known}
use Rattle.lt_space.specs.inner.Memo.{memo_numbers}
use Rattle.lt_space.specs.inner.Work.{formula_due, formulas_in}
use Rattle.lt_space.proofs.Loadings.{loads_noted}
use Rattle.lt_space.proofs.Notings.{all_due, free_below, free_noted, kept_below, notes_evaluated}
use Rattle.lt_space.proofs.loading.load_and_note.Goals as goal

pub returns-in_err-root-clause-below : goal.returns-in_err-root-clause-below
returns-in_err-root-clause-below c = free_below (length (formulas_in c.load_into.new.work)) (memo_numbers c.clear.new.self) c.clear.ensures.free

pub returns-then-not-notes-clause-below : goal.returns-then-not-notes-clause-below
returns-then-not-notes-clause-below c = free_below (length (formulas_in c.load_into.new.work)) (memo_numbers c.clear.new.self) c.clear.ensures.free

pub note_all-requires-clause-noted : goal.note_all-requires-clause-noted
note_all-requires-clause-noted c =
    free_noted (valuation_of_known c.args.known.now) c.args.table.now c.load_into.new.work (memo_numbers c.clear.new.self) c.in_ok-root.ensures.ready (c.clear.ensures.len ∙ c.requires.notes) c.clear.ensures.free

pub note_all-requires-clause-due : goal.note_all-requires-clause-due
note_all-requires-clause-due c =
    all_due (valuation_of_known c.args.known.now) c.args.table.now c.args.wanted.now (_, c.in_ok-root.ensures.loads.0.is)

pub returns-clause-loads : goal.returns-clause-loads
returns-clause-loads c =
    loads_noted _ c.in_ok-root.root c.args.work.now c.load_into.new.work c.note_all.new.work c.in_ok-root.ensures.loads c.note_all.ensures.grows c.note_all.ensures.wide

pub returns-clause-evaluated : goal.returns-clause-evaluated
returns-clause-evaluated c = λ so.
    notes_evaluated (valuation_of_known c.args.known.now) c.args.table.now c.args.wanted.now c.load_into.new.work c.note_all.new.work (memo_numbers c.clear.new.self) (memo_numbers c.note_all.new.noted) c.clear.ensures.free c.note_all.ensures

pub returns-clause-below : goal.returns-clause-below
returns-clause-below c =
    kept_below (formulas_in c.note_all.new.work) (memo_numbers c.note_all.new.noted) (formula_due (valuation_of_known c.args.known.now) c.args.table.now) c.note_all.ensures.right.kept
