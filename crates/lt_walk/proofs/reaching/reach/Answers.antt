use Rattle.std.proofs.Common.{◌≡◌, sym, subst}
use Rattle.std.proofs.Common.{All}
use Rattle.lt_term.specs.Offers.{offers_of}
use Rattle.lt_term.specs.View.{kinds_of}
use Rattle.lt_marks.specs.View.{standing}
use Rattle.lt_marks.proofs.Public.{tallied_still}
use Rattle.lt_walk.proofs.Roots.{at_root}
use Rattle.lt_walk.proofs.reaching.reach.Goals as goal

pub arrive-requires-clause-underway : goal.arrive-requires-clause-underway
arrive-requires-clause-underway g c =
    (offers_of (kinds_of c.args.locals.now) (standing c.args.track.now), c.requires.at.0, at_root (g.C.Chooser.is_at c.args.chooser.now c.args.context.now) _ _ _ _ _ c.requires.begins c.set_out.ensures.scope (subst (λ v. All (λ n. n ≡ 1) v.items) (sym c.set_out.ensures.raised) c.requires.raised.ones) c.requires.at.1)

pub returns-clause-tallied : goal.returns-clause-tallied
returns-clause-tallied g c = tallied_still c.arrive.new.track c.args.track.now c.arrive.ensures.still c.arrive.ensures.same_body c.requires.tallied

pub returns-clause-arrives : goal.returns-clause-arrives
returns-clause-arrives g c = λ most h.
    c.arrive.ensures.arrives _ most (at_root (g.C.Chooser.is_at c.args.chooser.now c.args.context.now) _ _ _ _ _ c.requires.begins c.set_out.ensures.scope (subst (λ v. All (λ n. n ≡ 1) v.items) (sym c.set_out.ensures.raised) c.requires.raised.ones) h)
