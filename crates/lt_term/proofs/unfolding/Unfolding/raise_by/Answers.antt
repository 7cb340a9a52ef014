use Rattle.std.proofs.Common.{rules, ◌≡◌, IsTrue, length, subst}
use Rattle.lt_term.specs.UnfoldedView.{term_of}
use Rattle.lt_term.specs.View.{process}
use Rattle.lt_term.specs.inner.Linked.{is_sound}
use Rattle.lt_term.proofs.Unfoldings.{later-within}
use Rattle.lt_term.proofs.unfolding.Unfolding.raise_by.Goals as goal

pub returns-in-Catch-clause-within : goal.returns-in-Catch-clause-within
returns-in-Catch-clause-within c =
    let t : term_of c.of.result ≡ process c.in-Catch.handler.now.value = search rules in
    later-within c.args.self.now c.of.result _ c.args.outer t c.of.ensures.rules c.requires.rules (subst (λ r. IsTrue (is_sound (length c.args.self.now.instants.items) r)) c.in-Catch.is c.requires.sound)
