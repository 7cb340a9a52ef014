use Rattle.lt_term.proofs.Unfoldings.{leaf-put, rules-kept}
use Rattle.lt_term.proofs.unfolding.Unfolding.make.Goals as goal

pub returns-clause-tree : goal.returns-clause-tree
returns-clause-tree c kinds =
    leaf-put kinds _ _ _ _ (rules-kept c.args.self.now c.put_made.new.self c.in_ok-number.ensures.grows kinds c.args.outer c.requires.rules) (c.in_ok-number.ensures.instant kinds)
