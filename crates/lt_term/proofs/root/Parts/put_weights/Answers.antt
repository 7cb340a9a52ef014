use Rattle.std.proofs.Common.{◌∙◌, ◌++◌, ap, sym, map}
use Rattle.lt_term.specs.Tree.{expression, weights_of}
use Rattle.lt_term.specs.TreeView.{weight}
use Rattle.lt_term.specs.UnfoldedView.{branches_of}
use Rattle.lt_term.specs.declared.root.Parts.{Parts}
use Rattle.lt_term.proofs.Trees.{weights_of-choices}
use Rattle.lt_term.proofs.Unfoldings.{on_ok}
use Rattle.lt_term.proofs.root.Parts.put_weights.Goals as goal

pub returns-in-Among-clause-weights : goal.returns-in-Among-clause-weights
returns-in-Among-clause-weights c =
    on_ok c.put_expressions.result (λ e kinds.
    e
    ∙ ap (λ ws. map weight ws ++ map (λ p. expression p.0) c.in-Among.parts.now.items) c.clear.ensures.items
    ∙ sym (weights_of-choices kinds c.in-Among.parts.now.items)
    ∙ ap (λ (ps : Parts). weights_of (branches_of kinds ps)) (sym c.in-Among.is))
    c.put_expressions.ensures.weights
