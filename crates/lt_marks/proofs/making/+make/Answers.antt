use Rattle.std.proofs.Common.{rules, ap, sym, ◌∙◌, subst}
use Rattle.lt_term.specs.declared.term.Term.TheFolds
use Rattle.lt_term.specs.Process.{Process, any}
use Rattle.lt_term.specs.View.{process}
use Rattle.lt_marks.specs.Start.{IsAtStart}
use Rattle.lt_marks.specs.View.{body}
use Rattle.lt_marks.proofs.Views.{process_any, starting_any}
use Rattle.lt_marks.proofs.making.+make.Goals as goal

pub untallied-parts_of-requires : goal.untallied-parts_of-requires
untallied-parts_of-requires t c =
    let P = λ (u : Process _). IsAtStart u in
    (search (rules, TheFolds.the_lemmas), starting_any c.in-Any.parts (subst P (ap process c.in-Any.is) c.requires))

pub untallied-returns-in_ok-new-in-Any-clause-same_body : goal.untallied-returns-in_ok-new-in-Any-clause-same_body
untallied-returns-in_ok-new-in-Any-clause-same_body t c =
    ap body c.in_ok-new-in-Any.ensures.ok ∙ ap any c.in_ok-parts-in-Any.ensures.same_choices ∙ sym (process_any c.in-Any.parts) ∙ sym (ap process c.in-Any.is)
