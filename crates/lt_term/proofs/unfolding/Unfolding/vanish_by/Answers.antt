use Rattle.std.proofs.Common.{rules, ◌≡◌, IsTrue, length, subst}
use Rattle.lt_term.specs.UnfoldedView.{term_of}
use Rattle.lt_term.specs.View.{process}
use Rattle.lt_term.specs.inner.Linked.{is_sound}
use Rattle.lt_term.proofs.Unfoldings.{later-within}
use Rattle.lt_term.proofs.unfolding.Unfolding.vanish_by.Goals as goal

pub returns-in-Seq-clause-within : goal.returns-in-Seq-clause-within
returns-in-Seq-clause-within c =
    let t : term_of c.of.result ≡ process c.in-Seq.second.now.value = search rules in
    later-within c.args.self.now c.of.result _ c.args.outer t c.of.ensures.rules c.requires.rules (subst (λ r. IsTrue (is_sound (length c.args.self.now.instants.items) r)) c.in-Seq.is c.requires.sound)

pub returns-in-Par-clause-within : goal.returns-in-Par-clause-within
returns-in-Par-clause-within c =
    let t : term_of c.of-in-Par.result ≡ process c.in-Par.second.now.value = search rules in
    later-within c.args.self.now c.of-in-Par.result _ c.args.outer t c.of-in-Par.ensures.rules c.requires.rules (subst (λ r. IsTrue (is_sound (length c.args.self.now.instants.items) r)) c.in-Par.is c.requires.sound)
