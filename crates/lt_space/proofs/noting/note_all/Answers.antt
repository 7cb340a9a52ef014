use Rattle.lt_formula.specs.View.{valuation_of_known}
use Rattle.lt_space.specs.inner.Memo.{memo_numbers}
use Rattle.lt_space.proofs.Notings.{all_noted, left_first, next_noted, none_noted}
use Rattle.lt_space.proofs.noting.note_all.Goals as goal

pub loop-exp-init : goal.loop-exp-init
loop-exp-init c = none_noted (valuation_of_known c.args.known.now) c.args.table.now c.args.wanted.now c.args.work.now (memo_numbers c.args.noted.now) c.requires.within c.requires.due c.requires.noted

pub note-requires-clause-within : goal.note-requires-clause-within
note-requires-clause-within c =
    (left_first (valuation_of_known c.args.known.now) c.args.table.now c.args.wanted.now c.loop-exp.rest.now c.in-Some.more.now c.in-Some.exp.now c.args.work.now c.loop-exp.work (memo_numbers c.args.noted.now) (memo_numbers c.loop-exp.noted) c.in-Some.ensures.cases.0 c.loop-exp.invariant).0

pub note-requires-clause-noted : goal.note-requires-clause-noted
note-requires-clause-noted c = c.loop-exp.invariant.right

pub note-requires-clause-due : goal.note-requires-clause-due
note-requires-clause-due c =
    (left_first (valuation_of_known c.args.known.now) c.args.table.now c.args.wanted.now c.loop-exp.rest.now c.in-Some.more.now c.in-Some.exp.now c.args.work.now c.loop-exp.work (memo_numbers c.args.noted.now) (memo_numbers c.loop-exp.noted) c.in-Some.ensures.cases.0 c.loop-exp.invariant).1

pub loop-exp-preserved : goal.loop-exp-preserved
loop-exp-preserved c =
    next_noted (valuation_of_known c.args.known.now) c.args.table.now c.args.wanted.now c.loop-exp.rest.now c.in-Some.more.now c.in-Some.exp.now c.args.work.now c.loop-exp.work c.note.new.work (memo_numbers c.args.noted.now) (memo_numbers c.loop-exp.noted) (memo_numbers c.note.new.noted)
    c.in-Some.ensures.cases.0 c.loop-exp.invariant c.note.ensures

pub returns : goal.returns
returns c =
    all_noted (valuation_of_known c.args.known.now) c.args.table.now c.args.wanted.now c.loop-exp.rest.now c.args.work.now c.loop-exp.work (memo_numbers c.args.noted.now) (memo_numbers c.loop-exp.noted) c.in_default.ensures.cases c.loop-exp.invariant
