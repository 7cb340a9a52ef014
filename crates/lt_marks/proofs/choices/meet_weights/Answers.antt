use Rattle.std.proofs.Common.{◌++◌, map, ◌∙◌}
use Rattle.lt_term.specs.TreeView.{weight}
use Rattle.lt_marks.specs.Choices.{weights_in}
use Rattle.lt_marks.specs.View.{choices_of}
use Rattle.lt_marks.proofs.choices.meet_weights.Goals as goal

pub returns-clause-holds : goal.returns-clause-holds
returns-clause-holds c = λ left.
    c.push_weights.ensures.holds left
    ∙ (λ i. record {
      rest = left;
      constraints = c.args.walk.now.constraints.items;
      lasts = c.args.walk.now.lasts.items;
      scope = c.args.walk.now.scope.items;
      weights = map weight (c.clear.ensures.items i) ++ weights_in (choices_of c.args.parts.now);
    })
