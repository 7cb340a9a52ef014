use Rattle.std.proofs.Common.{◌++◌, [], refl, ap, sym, ◌∙◌}
use Rattle.lt_term.specs.Offers.{offers_of_each}
use Rattle.lt_marks.proofs.Public.{weights_are}
use Rattle.lt_marks.specs.View.{choices_of}
use Rattle.lt_walk.specs.inner.Spot.{weights_before}
use Rattle.lt_walk.proofs.Asks.{choice_asked, still_held}
use Rattle.lt_walk.proofs.Contexts.{context_again}
use Rattle.lt_walk.proofs.choosing.choose_part.Goals as goal

pub choose_weighed-requires-clause-asked : goal.choose_weighed-requires-clause-asked
choose_weighed-requires-clause-asked g c =
    let h = c.requires.asked in
    let cs = choices_of c.args.among.now in (
      h.1,
      h.2,
      c.in-None.ensures.at c.args.context.now h.1 h.2 h.3.holds,
      choice_asked (g.C.Chooser.is_at c.args.chooser.now c.args.context.now) h.1 h.2 (g.C.Chooser.come c.args.chooser.now) _ c.args.leaf_weights.vanish c.args.leaf_weights.go c.args.walk.now.raised.items c.in-None.ensures.come
          c.args.walk.now.scope.items _ (offers_of_each h.0 cs) _ _ (ap (λ v. v.items) c.meet_weights.ensures.scope)
          (ap (λ s. s.weights) (c.meet_weights.ensures.holds []) ∙ sym (weights_are h.0 cs))
          (λ w k. c.put_before.ensures.puts h.0 w 0 (context_again _ _ _ _ w (c.deref.ensures.value ∙ ap (λ v. v.items) c.meet_weights.ensures.raised) k) refl ∙ ap (λ ns. ns ++ weights_before w 0 (offers_of_each h.0 cs)) c.clear.ensures.items) h.3,
    )

pub returns-in-None-clause-at : goal.returns-in-None-clause-at
returns-in-None-clause-at g c = λ kinds whole most o.
    let cs = choices_of c.args.among.now in
    c.choose_weighed.ensures.at whole most (c.in-None.ensures.at c.args.context.now whole most o.holds)
    (choice_asked (g.C.Chooser.is_at c.args.chooser.now c.args.context.now) whole most (g.C.Chooser.come c.args.chooser.now) _ c.args.leaf_weights.vanish c.args.leaf_weights.go c.args.walk.now.raised.items c.in-None.ensures.come
    c.args.walk.now.scope.items _ (offers_of_each kinds cs) _ _ (ap (λ v. v.items) c.meet_weights.ensures.scope)
    (ap (λ s. s.weights) (c.meet_weights.ensures.holds []) ∙ sym (weights_are kinds cs))
    (λ w k. c.put_before.ensures.puts kinds w 0 (context_again _ _ _ _ w (c.deref.ensures.value ∙ ap (λ v. v.items) c.meet_weights.ensures.raised) k) refl ∙ ap (λ ns. ns ++ weights_before w 0 (offers_of_each kinds cs)) c.clear.ensures.items) o)

pub returns-in-None-clause-stops : goal.returns-in-None-clause-stops
returns-in-None-clause-stops g c = λ n left.
    still_held left c.choose_weighed.new.walk c.meet_weights.new.walk c.choose_weighed.ensures.constraints c.choose_weighed.ensures.lasts c.choose_weighed.ensures.scope (c.choose_weighed.ensures.stops n) ∙ c.meet_weights.ensures.holds left
