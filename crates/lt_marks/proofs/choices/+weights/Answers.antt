use Rattle.std.proofs.Common.{◌≡◌, ◌++◌, ◌∷◌, map, ap, sym, ◌∙◌, append_assoc}
use Rattle.std.proofs.lemmas.List.{map-append}
use Rattle.lt_term.specs.Tree.{expression}
use Rattle.lt_term.specs.TreeView.{weight}
use Rattle.lt_marks.specs.Choices.{weights_in}
use Rattle.lt_marks.specs.View.{choices_of}
use Rattle.lt_marks.proofs.choices.+weights.Goals as goal

pub returns-in-Part-clause-holds : goal.returns-in-Part-clause-holds
returns-in-Part-clause-holds t c = λ left.
    let old = c.args.walk.now.weights.items in
    let more = weights_in (choices_of c.deref.result.now) in
    let met : map weight c.push_reserved.new.self.items ++ more ≡ map weight old ++ weights_in (choices_of c.args.parts.now) =
    ap (λ ws. map weight ws ++ more) c.push_reserved.ensures.items
    ∙ ap (λ ws. ws ++ more) (map-append weight old _)
    ∙ append_assoc (map weight old) _ more
    ∙ ap (λ ps. map weight old ++ (expression c.in-Part.number ∷ weights_in (choices_of ps))) c.deref.ensures
    ∙ ap (λ ps. map weight old ++ weights_in (choices_of ps)) (sym c.in-Part.is) in
    c.push_weights.ensures.holds left ∙ (λ i. record { rest = left; constraints = c.args.walk.now.constraints.items; lasts = c.args.walk.now.lasts.items; scope = c.args.walk.now.scope.items; weights = met i })
