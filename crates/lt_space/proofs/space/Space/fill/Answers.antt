use Rattle.std.proofs.Common.{◌≡◌, ◌∙◌, length, rules, sym}
use Rattle.lt_formula.specs.View.{valuation_of_known}
use Rattle.lt_space.specs.inner.Memo.{memo_numbers}
use Rattle.lt_space.specs.inner.Work.{formulas_in}
use Rattle.lt_space.proofs.Notings.{free_below, tells_evaluated}
use Rattle.lt_space.proofs.space.Space.fill.Goals as goal

pub invariant_of-self-in-Err-clause-below : goal.invariant_of-self-in-Err-clause-below
invariant_of-self-in-Err-clause-below c = free_below (length (formulas_in c.empty-self.new.self)) (memo_numbers c.load_and_note.new.noted) c.in-Err.ensures.none

pub invariant_of-self-in-Err-clause-as_many : goal.invariant_of-self-in-Err-clause-as_many
invariant_of-self-in-Err-clause-as_many c = c.load_and_note.ensures.len ∙ c.args.self.now.as_many ∙ sym c.in-Err.ensures.loads.wide.len ∙ sym c.empty-self.ensures.1.len

pub returns-in-Ok-clause-tells : goal.returns-in-Ok-clause-tells
returns-in-Ok-clause-tells c = λ so.
    let is : c.extend_from_slice.new.self.items ≡ c.args.wanted.now = search rules in
    tells_evaluated (valuation_of_known c.args.known.now) c.args.table.now _ c.args.wanted.now is (c.in-Ok.ensures.evaluated so)
