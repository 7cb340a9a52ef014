use Rattle.std.proofs.Common.{[], sym, subst}
use Rattle.lt_tree_size.specs.TallyView.{IsTally}
use Rattle.lt_term.specs.Offers.{offers_of, offers_of_each}
use Rattle.lt_term.specs.Tree.{expression, weighted}
use Rattle.lt_marks.specs.View.{body, choices_of}
use Rattle.lt_marks.proofs.extents.+choice.Goals as goal

pub tally_among-returns-in-Part : goal.tally_among-returns-in-Part
tally_among-returns-in-Part t c = λ k. subst (λ u. IsTally c.with_part.result (weighted [] (offers_of_each k (choices_of u)))) (sym c.in-Part.is)
    (c.with_part.ensures (expression c.in-Part.field-0) [] (offers_of k (body c.in-Part.part.value)) (offers_of_each k (choices_of c.in-Part.rest.value)) (c.part_tally.ensures k) (c.choice_tally.ensures k))
