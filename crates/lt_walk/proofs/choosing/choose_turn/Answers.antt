use Rattle.std.proofs.Common.{◌++◌, [], ◌∷◌, ap, ◌∙◌}
use Rattle.lt_term.specs.Offers.{offers_of}
use Rattle.lt_term.specs.Tree.{branch, leaf, more, no_branch, stop, vanish}
use Rattle.lt_marks.specs.View.{body}
use Rattle.lt_walk.proofs.Asks.{choice_asked, still_held, turn_before}
use Rattle.lt_walk.proofs.Contexts.{context_again}
use Rattle.lt_walk.proofs.choosing.choose_turn.Goals as goal

pub choose_weighed-requires-clause-asked : goal.choose_weighed-requires-clause-asked
choose_weighed-requires-clause-asked g c =
    let h = c.requires.asked in
    let t = offers_of h.0 (body c.args.again.now.value) in (
      h.1,
      h.2,
      c.in-None.ensures.at c.args.context.now h.1 h.2 h.3.holds,
      choice_asked (g.C.Chooser.is_at c.args.chooser.now c.args.context.now) h.1 h.2 (g.C.Chooser.come c.args.chooser.now) _ c.args.leaf_weights.vanish c.args.leaf_weights.go c.args.walk.now.raised.items c.in-None.ensures.come
          c.args.walk.now.scope.items _ (branch (more c.args.counter c.args.done) t (branch (stop c.args.counter c.args.done) (leaf vanish) no_branch)) _ _ (ap (λ v. v.items) c.meet_turns.ensures.scope)
          (ap (λ s. s.weights) (c.meet_turns.ensures.holds []))
          (λ w k.
          c.push_reserved-in-None.ensures.items ∙ ap (λ ns. ns ++ c.weigh-turn.result ∷ []) (c.push_reserved.ensures.items ∙ ap (λ ns. ns ++ 0 ∷ []) c.clear.ensures.items)
          ∙ turn_before w (more c.args.counter c.args.done) (stop c.args.counter c.args.done) t c.weigh-turn.result (c.weigh-turn.ensures.is h.0 w (context_again _ _ _ _ w (c.deref.ensures.value ∙ ap (λ v. v.items) c.meet_turns.ensures.raised) k))) h.3,
    )

pub returns-in-None-clause-at : goal.returns-in-None-clause-at
returns-in-None-clause-at g c = λ kinds whole most o.
    let t = offers_of kinds (body c.args.again.now.value) in
    c.choose_weighed.ensures.at whole most (c.in-None.ensures.at c.args.context.now whole most o.holds)
    (choice_asked (g.C.Chooser.is_at c.args.chooser.now c.args.context.now) whole most (g.C.Chooser.come c.args.chooser.now) _ c.args.leaf_weights.vanish c.args.leaf_weights.go c.args.walk.now.raised.items c.in-None.ensures.come
    c.args.walk.now.scope.items _ (branch (more c.args.counter c.args.done) t (branch (stop c.args.counter c.args.done) (leaf vanish) no_branch)) _ _ (ap (λ v. v.items) c.meet_turns.ensures.scope)
    (ap (λ s. s.weights) (c.meet_turns.ensures.holds []))
    (λ w k.
    c.push_reserved-in-None.ensures.items ∙ ap (λ ns. ns ++ c.weigh-turn.result ∷ []) (c.push_reserved.ensures.items ∙ ap (λ ns. ns ++ 0 ∷ []) c.clear.ensures.items)
    ∙ turn_before w (more c.args.counter c.args.done) (stop c.args.counter c.args.done) t c.weigh-turn.result (c.weigh-turn.ensures.is kinds w (context_again _ _ _ _ w (c.deref.ensures.value ∙ ap (λ v. v.items) c.meet_turns.ensures.raised) k))) o)

pub returns-in-None-clause-stops : goal.returns-in-None-clause-stops
returns-in-None-clause-stops g c = λ n left.
    still_held left c.choose_weighed.new.walk c.meet_turns.new.walk c.choose_weighed.ensures.constraints c.choose_weighed.ensures.lasts c.choose_weighed.ensures.scope (c.choose_weighed.ensures.stops n) ∙ c.meet_turns.ensures.holds left
