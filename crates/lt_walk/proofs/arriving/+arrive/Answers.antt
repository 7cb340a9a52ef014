use Rattle.std.proofs.Common.{◌≡◌, ◌+◌, ◌++◌, ℕ, suc, [], ◌∷◌, Bool, true, false, length, take, slice_set, refl, ap, sym, ◌∙◌, subst, rules, arith}
use Rattle.std.specs.Prelude.{slice_index_or}
use Rattle.lt_term.specs.Next.{followed_by, with_scope}
use Rattle.lt_term.specs.Offers.{in_turn, offers_of, offers_of_each, start_of}
use Rattle.lt_term.specs.Process.{count, dead, eps, loop, raise}
use Rattle.lt_term.specs.Tree.{branch, leaf, more, no_branch, nothing, stop, vanish, weighted, with_leaves}
use Rattle.lt_term.specs.View.{kinds_of}
use Rattle.lt_marks.specs.Marks.{assert_at, count_at, exist_at, loop_at, try_at}
use Rattle.lt_marks.specs.Over.{is_over}
use Rattle.lt_marks.specs.Path.{at_branch}
use Rattle.lt_marks.specs.View.{begun, begun_each, body, body_each, choices_of, next, nodes, standing, standing_each}
use Rattle.lt_marks.specs.Walk.{held, settled, closed}
use Rattle.lt_marks.specs.declared.track.Parts.TheVariants.{End}
use Rattle.lt_marks.proofs.Public.{any_offers, assert_offers, begun_is, beyond_two, bodies_counted, assert_part, body_counted, branch_of, exist_part, part_counted, catch_offers, con_begun, con_over, count_new, count_offers, does_nothing, exist_offers, first_stays, first_stops, loop_new, loop_offers, meets, nodes_positive, not_handled, not_raised, par_offers, plain, pri_offers, raises, room_met, room_opened, seq_offers, tallied_still, tries, try_offers, try_over, vanishes, weights_are}
use Rattle.lt_walk.proofs.Asks.{still_held}
use Rattle.lt_walk.proofs.Contexts.{context_again, put_back}
use Rattle.lt_walk.proofs.Underways.{again, at_choice, at_order, at_turns, in_asserted, in_beside, in_branch, in_caught, in_first, in_first_turn, in_handler, in_left, in_one_turn, in_other, in_right, in_scope, in_second, in_side, in_this_turn, in_try_order, same_tree}
use Rattle.lt_walk.proofs.Walked.{asserts, both_go, exists, first_goes, first_leads, from_same, gone_scope, gone_weights, handled, on, raised_scope, raised_weights, room_walked, same_scope, same_weights, second_stops, side_leads, stays_there, still, stops_choice, stops_order, taken_first, taken_part, taken_second, to_same, turn_is_none}
use Rattle.lt_walk.specs.Room.{HandlesBelow}
use Rattle.lt_walk.specs.inner.Context.{AreWeights}
use Rattle.lt_marks.specs.Choices.{weights_in}
use Rattle.lt_term.specs.Counted.{IsCounted}
use Rattle.lt_walk.proofs.arriving.+arrive.Goals as goal
use Rattle.lt_walk.proofs.arriving.+arrive.Goals.{arrive-else-not-is_new-via-then-not-is_new+else-is_over, arrive-else-not-is_new-via-else-not-is_new}

no_part : (f : Bool) (place : ℕ) → slice_index_or (begun_each f End) place dead ≡ dead
no_part true place = refl
no_part false place = refl

pub arrive-enter-requires-in_default-standing : goal.arrive-enter-requires-in_default-standing
arrive-enter-requires-in_default-standing g t c κs within =
    (search rules, (within.0, (within.1, (search rules, (search rules, (search rules, (search rules, (search rules, (search rules, (c.requires.underway.0, c.requires.underway.1, (in_first _ _ _ _ _ _ _ _ _ (body c.in-Seq.second.value) (offers_of (kinds_of c.args.locals.now) (body c.in-Seq.second.value)) (offers_of (kinds_of c.args.locals.now) (begun c.is_new.result c.in-Seq.first.value)) (λ w k. c.weigh.ensures.is (kinds_of c.args.locals.now) w (context_again _ _ _ _ w c.deref.ensures.value k)) (same_tree _ _ _ _ _ _ _ _ _ _ (seq_offers (kinds_of c.args.locals.now) c.args.is_fresh c.args.track.now c.in-Seq.marks.at c.standing-in-Seq.result c.is_new.result c.standing-in-Seq.ensures c.in-Seq.first.value c.in-Seq.second.value (ap standing c.in-Seq.is) (ap body c.in-Seq.is) c.in_default-standing.not-Second c.is_new.ensures) c.requires.underway.2))))))))))))

pub arrive-enter-requires-in-Vanish : goal.arrive-enter-requires-in-Vanish
arrive-enter-requires-in-Vanish g t c κs within =
    (search rules, (within.0, (within.1, (search rules, (search rules, (search rules, (search rules, (search rules, (same_weights _ _ _ _ _ _ c.requires.none c.in-Vanish.ensures.walks, (c.requires.underway.0, c.requires.underway.1, (in_second _ _ _ _ _ _ _ _ _ _ _ _ (same_scope _ _ _ _ _ _ c.in-Vanish.ensures.walks) c.enter-in_default-standing.ensures.same_raised (c.in-Vanish.ensures.arrives _ _ (in_first _ _ _ _ _ _ _ _ _ (body c.in-Seq.second.value) (offers_of (kinds_of c.args.locals.now) (body c.in-Seq.second.value)) (offers_of (kinds_of c.args.locals.now) (begun c.is_new.result c.in-Seq.first.value)) (λ w k. c.weigh.ensures.is (kinds_of c.args.locals.now) w (context_again _ _ _ _ w c.deref.ensures.value k)) (same_tree _ _ _ _ _ _ _ _ _ _ (seq_offers (kinds_of c.args.locals.now) c.args.is_fresh c.args.track.now c.in-Seq.marks.at c.standing-in-Seq.result c.is_new.result c.standing-in-Seq.ensures c.in-Seq.first.value c.in-Seq.second.value (ap standing c.in-Seq.is) (ap body c.in-Seq.is) c.in_default-standing.not-Second c.is_new.ensures) c.requires.underway.2))) (body c.in-Seq.second.value) (offers_of (kinds_of c.args.locals.now) (body c.in-Seq.second.value)) (offers_of (kinds_of c.args.locals.now) (begun c.is_new.result c.in-Seq.first.value)) _ _ _ c.in-Vanish.ensures.walks (same_tree _ _ _ _ _ _ _ _ _ _ (seq_offers (kinds_of c.args.locals.now) c.args.is_fresh c.args.track.now c.in-Seq.marks.at c.standing-in-Seq.result c.is_new.result c.standing-in-Seq.ensures c.in-Seq.first.value c.in-Seq.second.value (ap standing c.in-Seq.is) (ap body c.in-Seq.is) c.in_default-standing.not-Second c.is_new.ensures) c.requires.underway.2))))))))))))

pub arrive-enter-requires-in-Inside : goal.arrive-enter-requires-in-Inside
arrive-enter-requires-in-Inside g t c κs within =
    (search rules, (within.0, (within.1, (search rules, (search rules, (search rules, (search rules, (search rules, (search rules, (c.requires.underway.0, c.requires.underway.1, (in_first _ _ _ _ _ _ _ _ _ (loop (body c.in-Loop.body.value)) (offers_of (kinds_of c.args.locals.now) (loop (body c.in-Loop.body.value))) (offers_of (kinds_of c.args.locals.now) (standing c.in-Loop.body.value)) (λ w k. c.weigh_loop.ensures.loops (kinds_of c.args.locals.now) w (context_again _ _ _ _ w c.deref-in-Inside.ensures.value k)) (same_tree _ _ _ _ _ _ _ _ _ _ (loop_offers (kinds_of c.args.locals.now) c.args.is_fresh c.args.track.now c.in-Loop.marks.at c.in-Loop.body.value c.in-Inside.ensures (ap standing c.in-Loop.is) (ap body c.in-Loop.is)) c.requires.underway.2))))))))))))

pub arrive-turn-requires : goal.arrive-turn-requires
arrive-turn-requires g t c κs within =
    (search rules, (within.0, (within.1, (room_walked _ _ _ _ _ _ _ _ (omega (arith, ap (λ u. nodes (body u)) c.in-Loop.is, ap nodes c.enter-in-Inside.ensures.same_body)) c.enter-in-Inside.ensures.same_capacities c.in-Vanish-enter.ensures.walks c.requires.room, (tallied_still c.enter-in-Inside.new.part.value c.in-Loop.body.value c.enter-in-Inside.ensures.still c.enter-in-Inside.ensures.same_body (search rules), (search rules, (search rules, (same_weights _ _ _ _ _ _ c.requires.none c.in-Vanish-enter.ensures.walks, (c.requires.underway.0, c.requires.underway.1, (same_tree _ _ _ _ _ _ _ _ _ _ (ap (λ b. offers_of (kinds_of c.args.locals.now) (loop b)) (sym c.enter-in-Inside.ensures.same_body)) (in_second _ _ _ _ _ _ _ _ _ _ _ _ (same_scope _ _ _ _ _ _ c.in-Vanish-enter.ensures.walks) c.enter-in-Inside.ensures.same_raised (c.in-Vanish-enter.ensures.arrives _ _ (in_first _ _ _ _ _ _ _ _ _ (loop (body c.in-Loop.body.value)) (offers_of (kinds_of c.args.locals.now) (loop (body c.in-Loop.body.value))) (offers_of (kinds_of c.args.locals.now) (standing c.in-Loop.body.value)) (λ w k. c.weigh_loop.ensures.loops (kinds_of c.args.locals.now) w (context_again _ _ _ _ w c.deref-in-Inside.ensures.value k)) (same_tree _ _ _ _ _ _ _ _ _ _ (loop_offers (kinds_of c.args.locals.now) c.args.is_fresh c.args.track.now c.in-Loop.marks.at c.in-Loop.body.value c.in-Inside.ensures (ap standing c.in-Loop.is) (ap body c.in-Loop.is)) c.requires.underway.2))) (loop (body c.in-Loop.body.value)) (offers_of (kinds_of c.args.locals.now) (loop (body c.in-Loop.body.value))) (offers_of (kinds_of c.args.locals.now) (standing c.in-Loop.body.value)) _ _ _ c.in-Vanish-enter.ensures.walks (same_tree _ _ _ _ _ _ _ _ _ _ (loop_offers (kinds_of c.args.locals.now) c.args.is_fresh c.args.track.now c.in-Loop.marks.at c.in-Loop.body.value c.in-Inside.ensures (ap standing c.in-Loop.is) (ap body c.in-Loop.is)) c.requires.underway.2))))))))))))

pub arrive-enter-requires-in-Counted : goal.arrive-enter-requires-in-Counted
arrive-enter-requires-in-Counted g t c κs within =
    (search rules, (within.0, (within.1, (search rules, (search rules, (search rules, (search rules, (search rules, (search rules, (c.requires.underway.0, c.requires.underway.1, (in_first _ _ _ _ _ _ _ _ _ (count c.in-Count.counter c.in-Counted.done (body c.in-Count.body.value)) (offers_of (kinds_of c.args.locals.now) (count c.in-Count.counter c.in-Counted.done (body c.in-Count.body.value))) (offers_of (kinds_of c.args.locals.now) (standing c.in-Count.body.value)) (λ w k. c.weigh_loop-in-Counted.ensures.counts c.in-Count.counter c.in-Counted.done (kinds_of c.args.locals.now) w (context_again _ _ _ _ w c.deref-in-Counted.ensures.value k)) (same_tree _ _ _ _ _ _ _ _ _ _ (count_offers (kinds_of c.args.locals.now) c.args.is_fresh c.args.track.now c.in-Count.marks.at c.in-Count.counter c.in-Counted.done c.in-Count.body.value c.in-Counted.ensures (ap standing c.in-Count.is) (ap body c.in-Count.is)) c.requires.underway.2))))))))))))

pub arrive-counted_turn-requires : goal.arrive-counted_turn-requires
arrive-counted_turn-requires g t c κs within =
    (search rules, (within.0, (within.1, (room_walked _ _ _ _ _ _ _ _ (omega (arith, ap (λ u. nodes (body u)) c.in-Count.is, ap nodes c.enter-in-Counted.ensures.same_body)) c.enter-in-Counted.ensures.same_capacities c.in-Vanish-enter-2.ensures.walks c.requires.room, (tallied_still c.enter-in-Counted.new.part.value c.in-Count.body.value c.enter-in-Counted.ensures.still c.enter-in-Counted.ensures.same_body (search rules), (search rules, (search rules, (same_weights _ _ _ _ _ _ c.requires.none c.in-Vanish-enter-2.ensures.walks, (c.requires.underway.0, c.requires.underway.1, (same_tree _ _ _ _ _ _ _ _ _ _ (ap (λ b. offers_of (kinds_of c.args.locals.now) (count c.in-Count.counter c.in-Counted.done b)) (sym c.enter-in-Counted.ensures.same_body)) (in_second _ _ _ _ _ _ _ _ _ _ _ _ (same_scope _ _ _ _ _ _ c.in-Vanish-enter-2.ensures.walks) c.enter-in-Counted.ensures.same_raised (c.in-Vanish-enter-2.ensures.arrives _ _ (in_first _ _ _ _ _ _ _ _ _ (count c.in-Count.counter c.in-Counted.done (body c.in-Count.body.value)) (offers_of (kinds_of c.args.locals.now) (count c.in-Count.counter c.in-Counted.done (body c.in-Count.body.value))) (offers_of (kinds_of c.args.locals.now) (standing c.in-Count.body.value)) (λ w k. c.weigh_loop-in-Counted.ensures.counts c.in-Count.counter c.in-Counted.done (kinds_of c.args.locals.now) w (context_again _ _ _ _ w c.deref-in-Counted.ensures.value k)) (same_tree _ _ _ _ _ _ _ _ _ _ (count_offers (kinds_of c.args.locals.now) c.args.is_fresh c.args.track.now c.in-Count.marks.at c.in-Count.counter c.in-Counted.done c.in-Count.body.value c.in-Counted.ensures (ap standing c.in-Count.is) (ap body c.in-Count.is)) c.requires.underway.2))) (count c.in-Count.counter c.in-Counted.done (body c.in-Count.body.value)) (offers_of (kinds_of c.args.locals.now) (count c.in-Count.counter c.in-Counted.done (body c.in-Count.body.value))) (offers_of (kinds_of c.args.locals.now) (standing c.in-Count.body.value)) _ _ _ c.in-Vanish-enter-2.ensures.walks (same_tree _ _ _ _ _ _ _ _ _ _ (count_offers (kinds_of c.args.locals.now) c.args.is_fresh c.args.track.now c.in-Count.marks.at c.in-Count.counter c.in-Counted.done c.in-Count.body.value c.in-Counted.ensures (ap standing c.in-Count.is) (ap body c.in-Count.is)) c.requires.underway.2))))))))))))

pub arrive-choose_part-requires-clause-asked : goal.arrive-choose_part-requires-clause-asked
arrive-choose_part-requires-clause-asked g t c =
    ((kinds_of c.args.locals.now), c.requires.underway.0, c.requires.underway.1, (at_choice _ _ _ _ _ _ _ _ _ (same_tree _ _ _ _ _ _ _ _ _ _ ((any_offers (kinds_of c.args.locals.now) c.args.is_fresh c.args.track.now c.in-Any.marks.at c.standing-in-Any.result (choices_of c.in-Any.parts.value) (standing_each c.in-Any.parts.value) c.standing-in-Any.ensures (ap standing c.in-Any.is) (ap body c.in-Any.is) c.in_default-standing-3.not-Chosen) ∙ ap (λ u. weighted [] (offers_of_each (kinds_of c.args.locals.now) (choices_of u))) (sym c.deref-in_default-standing-3.ensures)) c.requires.underway.2)))

pub arrive-enter_part-requires-in-Some : goal.arrive-enter_part-requires-in-Some
arrive-enter_part-requires-in-Some g t c κs within =
    (search rules, (within.0, (within.1, (search rules, (bodies_counted c.in-Any.parts.value c.in-Some.place, (search rules, (search rules, (search rules, (c.in-Some.ensures.goes _ refl, (c.requires.underway.0, c.requires.underway.1, (in_branch _ _ _ _ _ _ _ _ _ _ _ _ (ap (λ v. v.items) c.choose_part.ensures.scope) (ap (λ v. v.items) c.choose_part.ensures.raised) (c.in-Some.ensures.at (kinds_of c.args.locals.now) _ _ (at_choice _ _ _ _ _ _ _ _ _ (same_tree _ _ _ _ _ _ _ _ _ _ ((any_offers (kinds_of c.args.locals.now) c.args.is_fresh c.args.track.now c.in-Any.marks.at c.standing-in-Any.result (choices_of c.in-Any.parts.value) (standing_each c.in-Any.parts.value) c.standing-in-Any.ensures (ap standing c.in-Any.is) (ap body c.in-Any.is) c.in_default-standing-3.not-Chosen) ∙ ap (λ u. weighted [] (offers_of_each (kinds_of c.args.locals.now) (choices_of u))) (sym c.deref-in_default-standing-3.ensures)) c.requires.underway.2))) (kinds_of c.args.locals.now) c.in-Any.parts.value c.in-Some.place c.in-Some.ensures.come (same_tree _ _ _ _ _ _ _ _ _ _ (any_offers (kinds_of c.args.locals.now) c.args.is_fresh c.args.track.now c.in-Any.marks.at c.standing-in-Any.result (choices_of c.in-Any.parts.value) (standing_each c.in-Any.parts.value) c.standing-in-Any.ensures (ap standing c.in-Any.is) (ap body c.in-Any.is) c.in_default-standing-3.not-Chosen) c.requires.underway.2))))))))))))

pub arrive-choose_side-requires-clause-asked : goal.arrive-choose_side-requires-clause-asked
arrive-choose_side-requires-clause-asked g t c =
    ((kinds_of c.args.locals.now), c.requires.underway.0, c.requires.underway.1, (at_order _ _ _ _ _ _ _ _ (offers_of (kinds_of c.args.locals.now) (body c.in-Pri.first.value)) (offers_of (kinds_of c.args.locals.now) (body c.in-Pri.second.value)) (same_tree _ _ _ _ _ _ _ _ _ _ (pri_offers (kinds_of c.args.locals.now) c.args.is_fresh c.args.track.now c.in-Pri.marks.at c.standing-in-Pri.result c.in-Pri.first.value c.in-Pri.second.value c.standing-in-Pri.ensures (ap standing c.in-Pri.is) (ap body c.in-Pri.is) c.in_default-standing-4.not-Inside c.in_default-standing-4.not-Second) c.requires.underway.2)))

pub arrive-enter-requires-in-Some-eq0 : goal.arrive-enter-requires-in-Some-eq0
arrive-enter-requires-in-Some-eq0 g t c κs within =
    (search rules, (within.0, (within.1, (search rules, (body_counted c.in-Pri.first.value, (search rules, (search rules, (search rules, (search rules, (c.requires.underway.0, c.requires.underway.1, (in_left _ _ _ _ _ _ _ _ _ _ _ _ refl refl (c.in-Some-eq0.ensures.at (kinds_of c.args.locals.now) _ _ (at_order _ _ _ _ _ _ _ _ (offers_of (kinds_of c.args.locals.now) (body c.in-Pri.first.value)) (offers_of (kinds_of c.args.locals.now) (body c.in-Pri.second.value)) (same_tree _ _ _ _ _ _ _ _ _ _ (pri_offers (kinds_of c.args.locals.now) c.args.is_fresh c.args.track.now c.in-Pri.marks.at c.standing-in-Pri.result c.in-Pri.first.value c.in-Pri.second.value c.standing-in-Pri.ensures (ap standing c.in-Pri.is) (ap body c.in-Pri.is) c.in_default-standing-4.not-Inside c.in_default-standing-4.not-Second) c.requires.underway.2))) (offers_of (kinds_of c.args.locals.now) (body c.in-Pri.first.value)) (offers_of (kinds_of c.args.locals.now) (body c.in-Pri.second.value)) (c.in-Some-eq0.ensures.come ∙ ap (λ i. g.C.Chooser.come c.args.chooser.now ++ i ∷ []) c.in-Some-eq0.field-0-test) (same_tree _ _ _ _ _ _ _ _ _ _ (pri_offers (kinds_of c.args.locals.now) c.args.is_fresh c.args.track.now c.in-Pri.marks.at c.standing-in-Pri.result c.in-Pri.first.value c.in-Pri.second.value c.standing-in-Pri.ensures (ap standing c.in-Pri.is) (ap body c.in-Pri.is) c.in_default-standing-4.not-Inside c.in_default-standing-4.not-Second) c.requires.underway.2))))))))))))

pub arrive-enter-requires-in-Some-choose_side : goal.arrive-enter-requires-in-Some-choose_side
arrive-enter-requires-in-Some-choose_side g t c κs within =
    (search rules, (within.0, (within.1, (search rules, (body_counted c.in-Pri.second.value, (search rules, (search rules, (search rules, (search rules, (c.requires.underway.0, c.requires.underway.1, (in_right _ _ _ _ _ _ _ _ _ _ _ _ refl refl (c.in-Some-choose_side.ensures.at (kinds_of c.args.locals.now) _ _ (at_order _ _ _ _ _ _ _ _ (offers_of (kinds_of c.args.locals.now) (body c.in-Pri.first.value)) (offers_of (kinds_of c.args.locals.now) (body c.in-Pri.second.value)) (same_tree _ _ _ _ _ _ _ _ _ _ (pri_offers (kinds_of c.args.locals.now) c.args.is_fresh c.args.track.now c.in-Pri.marks.at c.standing-in-Pri.result c.in-Pri.first.value c.in-Pri.second.value c.standing-in-Pri.ensures (ap standing c.in-Pri.is) (ap body c.in-Pri.is) c.in_default-standing-4.not-Inside c.in_default-standing-4.not-Second) c.requires.underway.2))) (offers_of (kinds_of c.args.locals.now) (body c.in-Pri.first.value)) (offers_of (kinds_of c.args.locals.now) (body c.in-Pri.second.value)) c.in-Some-choose_side.field-0 c.in-Some-choose_side.field-0-test.1 c.in-Some-choose_side.ensures.come (same_tree _ _ _ _ _ _ _ _ _ _ (pri_offers (kinds_of c.args.locals.now) c.args.is_fresh c.args.track.now c.in-Pri.marks.at c.standing-in-Pri.result c.in-Pri.first.value c.in-Pri.second.value c.standing-in-Pri.ensures (ap standing c.in-Pri.is) (ap body c.in-Pri.is) c.in_default-standing-4.not-Inside c.in_default-standing-4.not-Second) c.requires.underway.2))))))))))))

pub arrive-enter-requires-in_default-standing-5 : goal.arrive-enter-requires-in_default-standing-5
arrive-enter-requires-in_default-standing-5 g t c κs within =
    (search rules, (within.0, (within.1, (search rules, (search rules, (search rules, (search rules, (search rules, (search rules, (c.requires.underway.0, c.requires.underway.1, (in_side _ _ _ _ _ _ _ _ _ _ (offers_of (kinds_of c.args.locals.now) (begun c.are_new-are_new.result c.in-Par.second.value)) (offers_of (kinds_of c.args.locals.now) (begun c.are_new-are_new.result c.in-Par.first.value)) (λ w k. c.weigh-in_default-standing-5.ensures.is (kinds_of c.args.locals.now) w (context_again _ _ _ _ w c.deref-in_default-standing-5.ensures.value k)) (λ w k. c.weigh-in_default-standing-5-2.ensures.is (kinds_of c.args.locals.now) w (context_again _ _ _ _ w c.deref-in_default-standing-5-2.ensures.value k)) (same_tree _ _ _ _ _ _ _ _ _ _ (par_offers (kinds_of c.args.locals.now) c.args.is_fresh c.args.track.now c.in-Par.marks.at c.standing-in-Par.result c.are_new-are_new.result c.standing-in-Par.ensures c.in-Par.first.value c.in-Par.second.value (ap standing c.in-Par.is) (ap body c.in-Par.is) c.in_default-standing-5.not-Inside c.in_default-standing-5.not-Second c.are_new-are_new.ensures) c.requires.underway.2))))))))))))

pub arrive-enter-requires-in-Vanish-enter-3 : goal.arrive-enter-requires-in-Vanish-enter-3
arrive-enter-requires-in-Vanish-enter-3 g t c κs within =
    (search rules, (within.0, (within.1, (search rules, (search rules, (search rules, (search rules, (search rules, (same_weights _ _ _ _ _ _ c.requires.none c.in-Vanish-enter-3.ensures.walks, (c.requires.underway.0, c.requires.underway.1, (in_other _ _ _ _ _ _ _ _ _ _ _ _ (same_scope _ _ _ _ _ _ c.in-Vanish-enter-3.ensures.walks) c.enter-in_default-standing-5.ensures.same_raised (c.in-Vanish-enter-3.ensures.arrives _ _ (in_side _ _ _ _ _ _ _ _ _ _ (offers_of (kinds_of c.args.locals.now) (begun c.are_new-are_new.result c.in-Par.second.value)) (offers_of (kinds_of c.args.locals.now) (begun c.are_new-are_new.result c.in-Par.first.value)) (λ w k. c.weigh-in_default-standing-5.ensures.is (kinds_of c.args.locals.now) w (context_again _ _ _ _ w c.deref-in_default-standing-5.ensures.value k)) (λ w k. c.weigh-in_default-standing-5-2.ensures.is (kinds_of c.args.locals.now) w (context_again _ _ _ _ w c.deref-in_default-standing-5-2.ensures.value k)) (same_tree _ _ _ _ _ _ _ _ _ _ (par_offers (kinds_of c.args.locals.now) c.args.is_fresh c.args.track.now c.in-Par.marks.at c.standing-in-Par.result c.are_new-are_new.result c.standing-in-Par.ensures c.in-Par.first.value c.in-Par.second.value (ap standing c.in-Par.is) (ap body c.in-Par.is) c.in_default-standing-5.not-Inside c.in_default-standing-5.not-Second c.are_new-are_new.ensures) c.requires.underway.2))) (offers_of (kinds_of c.args.locals.now) (begun c.are_new-are_new.result c.in-Par.second.value)) (offers_of (kinds_of c.args.locals.now) (begun c.are_new-are_new.result c.in-Par.first.value)) _ _ _ c.in-Vanish-enter-3.ensures.walks (same_tree _ _ _ _ _ _ _ _ _ _ (par_offers (kinds_of c.args.locals.now) c.args.is_fresh c.args.track.now c.in-Par.marks.at c.standing-in-Par.result c.are_new-are_new.result c.standing-in-Par.ensures c.in-Par.first.value c.in-Par.second.value (ap standing c.in-Par.is) (ap body c.in-Par.is) c.in_default-standing-5.not-Inside c.in_default-standing-5.not-Second c.are_new-are_new.ensures) c.requires.underway.2))))))))))))

pub arrive-enter-requires-in-Go : goal.arrive-enter-requires-in-Go
arrive-enter-requires-in-Go g t c κs within =
    (search rules, (within.0, (within.1, (search rules, (search rules, (search rules, (search rules, (search rules, (gone_weights _ _ _ _ _ _ c.requires.none c.in-Go.ensures.walks, (c.requires.underway.0, c.requires.underway.1, (in_beside _ _ _ _ _ _ _ _ _ _ _ _ (gone_scope _ _ _ _ _ _ c.in-Go.ensures.walks) c.enter-in_default-standing-5.ensures.same_raised (c.in-Go.ensures.arrives _ _ (in_side _ _ _ _ _ _ _ _ _ _ (offers_of (kinds_of c.args.locals.now) (begun c.are_new-are_new.result c.in-Par.second.value)) (offers_of (kinds_of c.args.locals.now) (begun c.are_new-are_new.result c.in-Par.first.value)) (λ w k. c.weigh-in_default-standing-5.ensures.is (kinds_of c.args.locals.now) w (context_again _ _ _ _ w c.deref-in_default-standing-5.ensures.value k)) (λ w k. c.weigh-in_default-standing-5-2.ensures.is (kinds_of c.args.locals.now) w (context_again _ _ _ _ w c.deref-in_default-standing-5-2.ensures.value k)) (same_tree _ _ _ _ _ _ _ _ _ _ (par_offers (kinds_of c.args.locals.now) c.args.is_fresh c.args.track.now c.in-Par.marks.at c.standing-in-Par.result c.are_new-are_new.result c.standing-in-Par.ensures c.in-Par.first.value c.in-Par.second.value (ap standing c.in-Par.is) (ap body c.in-Par.is) c.in_default-standing-5.not-Inside c.in_default-standing-5.not-Second c.are_new-are_new.ensures) c.requires.underway.2))) (offers_of (kinds_of c.args.locals.now) (begun c.are_new-are_new.result c.in-Par.second.value)) (offers_of (kinds_of c.args.locals.now) (begun c.are_new-are_new.result c.in-Par.first.value)) _ _ _ c.in-Go.ensures.walks (same_tree _ _ _ _ _ _ _ _ _ _ (par_offers (kinds_of c.args.locals.now) c.args.is_fresh c.args.track.now c.in-Par.marks.at c.standing-in-Par.result c.are_new-are_new.result c.standing-in-Par.ensures c.in-Par.first.value c.in-Par.second.value (ap standing c.in-Par.is) (ap body c.in-Par.is) c.in_default-standing-5.not-Inside c.in_default-standing-5.not-Second c.are_new-are_new.ensures) c.requires.underway.2))))))))))))

pub arrive-enter-reached-requires : goal.arrive-enter-reached-requires
arrive-enter-reached-requires g t c κs within =
    (search rules, (within.0, (within.1, (room_met _ _ _ _ (omega (arith, ap (λ u. nodes (body u)) c.in-Assert.is)) c.meet-in-Assert.ensures.len c.meet-in-Assert.ensures.lasts c.meet-in-Assert.ensures.scope c.meet-in-Assert.ensures.weights c.meet-in-Assert.ensures.capacities c.requires.room, (part_counted c.is_new-in-Assert.result c.in-Assert.body.value (λ e. assert_part c.standing-now-in-Assert.result c.in-Assert.constraint (body c.in-Assert.body.value) (standing c.in-Assert.body.value) (sym c.is_new-in-Assert.ensures ∙ e) (subst IsCounted (begun_is c.args.is_fresh c.args.track.now c.in-Assert.marks.at c.standing-now-in-Assert.result (λ l. assert_at l c.in-Assert.constraint (body c.in-Assert.body.value) (standing c.in-Assert.body.value)) c.standing-now-in-Assert.ensures (ap standing c.in-Assert.is) (ap body c.in-Assert.is)) c.requires.counted)), (search rules, (search rules, (search rules, (ap (λ v. v.items) c.meet-in-Assert.ensures.weights ∙ c.requires.none, (c.requires.underway.0, c.requires.underway.1, (again _ _ _ _ _ _ _ _ _ _ _ (ap (λ v. v.items) c.meet-in-Assert.ensures.scope) (ap (λ v. v.items) c.meet-in-Assert.ensures.raised) (in_asserted _ _ _ _ _ _ _ _ c.in-Assert.constraint _ (same_tree _ _ _ _ _ _ _ _ _ _ (assert_offers (kinds_of c.args.locals.now) c.args.is_fresh c.args.track.now c.in-Assert.marks.at c.standing-now-in-Assert.result c.is_new-in-Assert.result c.standing-now-in-Assert.ensures c.in-Assert.constraint c.in-Assert.body.value (ap standing c.in-Assert.is) (ap body c.in-Assert.is) c.is_new-in-Assert.ensures) c.requires.underway.2)))))))))))))

pub arrive-enter-reached-requires-in-Exist : goal.arrive-enter-reached-requires-in-Exist
arrive-enter-reached-requires-in-Exist g t c κs within =
    (search rules, (within.0, (within.1, (room_opened _ _ _ _ (omega (arith, ap (λ u. nodes (body u)) c.in-Exist.is)) c.open.ensures.len_lasts c.open.ensures.len_scope c.open.ensures.constraints c.open.ensures.weights c.open.ensures.capacities c.requires.room, (part_counted c.is_outside.result c.in-Exist.body.value (λ e. exist_part c.standing-now-in-Exist.result c.in-Exist.local (body c.in-Exist.body.value) (standing c.in-Exist.body.value) (sym c.is_outside.ensures ∙ e) (subst IsCounted (begun_is c.args.is_fresh c.args.track.now c.in-Exist.marks.at c.standing-now-in-Exist.result (λ l. exist_at l c.in-Exist.local (body c.in-Exist.body.value) (standing c.in-Exist.body.value)) c.standing-now-in-Exist.ensures (ap standing c.in-Exist.is) (ap body c.in-Exist.is)) c.requires.counted)), (search rules, (search rules, (search rules, (ap (λ v. v.items) c.open.ensures.weights ∙ c.requires.none, (c.requires.underway.0, c.requires.underway.1, (again _ _ _ _ _ _ _ _ _ _ _ (ap (λ s. s.scope) (c.open.ensures.holds [])) (ap (λ v. v.items) c.open.ensures.raised) (in_scope _ _ _ _ _ _ _ _ (start_of (kinds_of c.args.locals.now) c.in-Exist.local) c.in-Exist.local c.last-last.result _ (same_tree _ _ _ _ _ _ _ _ _ _ (exist_offers (kinds_of c.args.locals.now) c.args.is_fresh c.args.track.now c.in-Exist.marks.at c.standing-now-in-Exist.result c.is_outside.result c.standing-now-in-Exist.ensures c.in-Exist.local c.last-last.result c.in-Exist.body.value (ap standing c.in-Exist.is) (ap body c.in-Exist.is) c.is_outside.ensures c.last-last.ensures) c.requires.underway.2)))))))))))))

pub arrive-enter-reached-requires-in_default-standing-6 : goal.arrive-enter-reached-requires-in_default-standing-6
arrive-enter-reached-requires-in_default-standing-6 g t c κs within =
    (search rules, (within.0, (within.1, (search rules, (search rules, (search rules, (search rules, (search rules, (search rules, (c.requires.underway.0, c.requires.underway.1, (in_caught _ _ _ _ _ _ _ _ c.in-Catch.exception _ (body c.in-Catch.otherwise.value) (offers_of (kinds_of c.args.locals.now) (body c.in-Catch.otherwise.value)) (offers_of (kinds_of c.args.locals.now) (begun c.is_new-in_default-standing-6.result c.in-Catch.body.value)) ((subst (HandlesBelow (length c.args.walk.now.raised.items)) (ap body c.in-Catch.is) c.requires.handlers).0) (λ w k. c.weigh-weight.ensures.is (kinds_of c.args.locals.now) w (context_again _ _ _ _ w c.deref-in_default-standing-6.ensures.value k)) (same_tree _ _ _ _ _ _ _ _ _ _ (catch_offers (kinds_of c.args.locals.now) c.args.is_fresh c.args.track.now c.in-Catch.marks.at c.standing-in-Catch.result c.is_new-in_default-standing-6.result c.standing-in-Catch.ensures c.in-Catch.exception c.in-Catch.body.value c.in-Catch.otherwise.value (ap standing c.in-Catch.is) (ap body c.in-Catch.is) c.in_default-standing-6.not-Second c.is_new-in_default-standing-6.ensures) c.requires.underway.2))))))))))))

pub arrive-returns-then-raised-exception-clause-walks : goal.arrive-returns-then-raised-exception-clause-walks
arrive-returns-then-raised-exception-clause-walks g t c =
    on _ _ _ _ _ _ _ _ _ (catch_offers (kinds_of c.args.locals.now) c.args.is_fresh c.args.track.now c.in-Catch.marks.at c.standing-in-Catch.result c.is_new-in_default-standing-6.result c.standing-in-Catch.ensures c.in-Catch.exception c.in-Catch.body.value c.in-Catch.otherwise.value (ap standing c.in-Catch.is) (ap body c.in-Catch.is) c.in_default-standing-6.not-Second c.is_new-in_default-standing-6.ensures) refl (to_same _ _ _ _ c.enter-reached-in_default-standing-6.new.walk _ _ _ (λ ks. refl) (still _ _ _ _ _ _ _ _ _ (λ s s2 i. not_handled c.in-Catch.exception c.in-Raised.raised (body c.in-Catch.otherwise.value) (offers_of (kinds_of c.args.locals.now) (begun c.is_new-in_default-standing-6.result c.in-Catch.body.value)) (offers_of (kinds_of c.args.locals.now) (body c.in-Catch.otherwise.value)) s s2 _ _ c.if-raised-exception.true i) (from_same _ _ _ _ _ _ _ _ (λ ks. refl) c.in-Raised.ensures.walks)))

pub arrive-returns-then-raised-exception-clause-arrives : goal.arrive-returns-then-raised-exception-clause-arrives
arrive-returns-then-raised-exception-clause-arrives g t c =
    λ whole most h. c.in-Raised.ensures.arrives whole most (in_caught _ _ _ _ _ _ _ _ c.in-Catch.exception _ (body c.in-Catch.otherwise.value) (offers_of (kinds_of c.args.locals.now) (body c.in-Catch.otherwise.value)) (offers_of (kinds_of c.args.locals.now) (begun c.is_new-in_default-standing-6.result c.in-Catch.body.value)) ((subst (HandlesBelow (length c.args.walk.now.raised.items)) (ap body c.in-Catch.is) c.requires.handlers).0) (λ w k. c.weigh-weight.ensures.is (kinds_of c.args.locals.now) w (context_again _ _ _ _ w c.deref-in_default-standing-6.ensures.value k)) (same_tree _ _ _ _ _ _ _ _ _ _ (catch_offers (kinds_of c.args.locals.now) c.args.is_fresh c.args.track.now c.in-Catch.marks.at c.standing-in-Catch.result c.is_new-in_default-standing-6.result c.standing-in-Catch.ensures c.in-Catch.exception c.in-Catch.body.value c.in-Catch.otherwise.value (ap standing c.in-Catch.is) (ap body c.in-Catch.is) c.in_default-standing-6.not-Second c.is_new-in_default-standing-6.ensures) h))

pub arrive-returns-then-raised-exception-clause-same_raised : goal.arrive-returns-then-raised-exception-clause-same_raised
arrive-returns-then-raised-exception-clause-same_raised g t c =
    let pb : slice_set c.enter-reached-in_default-standing-6.new.walk.raised.items c.in-Catch.exception c.weight_at-outside.result ≡ c.args.walk.now.raised.items = ap (λ n. slice_set c.enter-reached-in_default-standing-6.new.walk.raised.items c.in-Catch.exception n) (c.weight_at-outside.ensures.is ∙ ap (λ ws. slice_index_or ws c.in-Catch.exception 0) c.deref-in_default-standing-6-2.ensures.value) ∙ put_back c.args.walk.now.raised.items c.enter-reached-in_default-standing-6.new.walk.raised.items c.in-Catch.exception c.weigh-weight.result c.enter-reached-in_default-standing-6.ensures.same_raised in
    pb

pub arrive-enter-requires-in-Raised : goal.arrive-enter-requires-in-Raised
arrive-enter-requires-in-Raised g t c κs within =
    let pb : slice_set c.enter-reached-in_default-standing-6.new.walk.raised.items c.in-Catch.exception c.weight_at-outside.result ≡ c.args.walk.now.raised.items = ap (λ n. slice_set c.enter-reached-in_default-standing-6.new.walk.raised.items c.in-Catch.exception n) (c.weight_at-outside.ensures.is ∙ ap (λ ws. slice_index_or ws c.in-Catch.exception 0) c.deref-in_default-standing-6-2.ensures.value) ∙ put_back c.args.walk.now.raised.items c.enter-reached-in_default-standing-6.new.walk.raised.items c.in-Catch.exception c.weigh-weight.result c.enter-reached-in_default-standing-6.ensures.same_raised in
    (search rules, (within.0, (within.1, (search rules, (body_counted c.in-Catch.otherwise.value, (search rules, (subst AreWeights (sym pb) c.requires.weights, (subst (λ zs. HandlesBelow (length zs) (body c.in-Catch.otherwise.value)) (sym pb) (subst (HandlesBelow (length c.args.walk.now.raised.items)) (ap body c.in-Catch.is) c.requires.handlers).2, (raised_weights c.in-Raised.raised _ _ _ _ _ _ c.requires.none c.in-Raised.ensures.walks, (c.requires.underway.0, c.requires.underway.1, (in_handler _ _ _ _ _ _ _ _ _ _ _ _ (raised_scope c.in-Raised.raised _ _ _ _ _ _ c.in-Raised.ensures.walks) pb (c.in-Raised.ensures.arrives _ _ (in_caught _ _ _ _ _ _ _ _ c.in-Catch.exception _ (body c.in-Catch.otherwise.value) (offers_of (kinds_of c.args.locals.now) (body c.in-Catch.otherwise.value)) (offers_of (kinds_of c.args.locals.now) (begun c.is_new-in_default-standing-6.result c.in-Catch.body.value)) ((subst (HandlesBelow (length c.args.walk.now.raised.items)) (ap body c.in-Catch.is) c.requires.handlers).0) (λ w k. c.weigh-weight.ensures.is (kinds_of c.args.locals.now) w (context_again _ _ _ _ w c.deref-in_default-standing-6.ensures.value k)) (same_tree _ _ _ _ _ _ _ _ _ _ (catch_offers (kinds_of c.args.locals.now) c.args.is_fresh c.args.track.now c.in-Catch.marks.at c.standing-in-Catch.result c.is_new-in_default-standing-6.result c.standing-in-Catch.ensures c.in-Catch.exception c.in-Catch.body.value c.in-Catch.otherwise.value (ap standing c.in-Catch.is) (ap body c.in-Catch.is) c.in_default-standing-6.not-Second c.is_new-in_default-standing-6.ensures) c.requires.underway.2))) c.in-Catch.exception c.in-Raised.raised (body c.in-Catch.otherwise.value) (offers_of (kinds_of c.args.locals.now) (body c.in-Catch.otherwise.value)) (offers_of (kinds_of c.args.locals.now) (begun c.is_new-in_default-standing-6.result c.in-Catch.body.value)) _ _ _ c.if-raised-exception.false c.in-Raised.ensures.walks (same_tree _ _ _ _ _ _ _ _ _ _ (catch_offers (kinds_of c.args.locals.now) c.args.is_fresh c.args.track.now c.in-Catch.marks.at c.standing-in-Catch.result c.is_new-in_default-standing-6.result c.standing-in-Catch.ensures c.in-Catch.exception c.in-Catch.body.value c.in-Catch.otherwise.value (ap standing c.in-Catch.is) (ap body c.in-Catch.is) c.in_default-standing-6.not-Second c.is_new-in_default-standing-6.ensures) c.requires.underway.2))))))))))))

pub arrive-returns-then-is_over-clause-walks : goal.arrive-returns-then-is_over-clause-walks
arrive-returns-then-is_over-clause-walks g t c =
    on _ _ _ _ _ _ _ _ _ (ap (offers_of (kinds_of c.args.locals.now)) (begun_is c.args.is_fresh c.args.track.now c.in-Try.marks.at c.standing-in-Try.result (λ l. try_at l (body c.in-Try.body.value) (body c.in-Try.otherwise.value) (standing c.in-Try.body.value) (standing c.in-Try.otherwise.value)) c.standing-in-Try.ensures (ap standing c.in-Try.is) (ap body c.in-Try.is) ∙ try_over (kinds_of c.args.locals.now) c.standing-in-Try.result c.is_new-is_new.result (body c.in-Try.body.value) (body c.in-Try.otherwise.value) (standing c.in-Try.body.value) (standing c.in-Try.otherwise.value) c.is_new-is_new.ensures c.if-not-is_new.true (ap (λ u. is_over (standing u)) (sym c.deref-then-not-is_new.ensures) ∙ sym c.is_over.ensures ∙ c.if-is_over.true))) refl (stays_there _ _ _ _ _ _ _ refl (λ ks o. vanishes _ _))

pub arrive-returns-then-is_over-clause-arrives : goal.arrive-returns-then-is_over-clause-arrives
arrive-returns-then-is_over-clause-arrives g t c =
    λ whole most h. h.holds

pub arrive-choose_side-requires-in_default-standing-7-clause-asked : goal.arrive-choose_side-requires-in_default-standing-7-clause-asked
arrive-choose_side-requires-in_default-standing-7-clause-asked g t c =
    let o : c.is_new-is_new.result ≡ false → is_over (standing c.in-Try.body.value) ≡ false =
    elim c.else-not-is_new.branch [
      | arrive-else-not-is_new-via-then-not-is_new+else-is_over w ↦ λ e. ap (λ u. is_over (standing u)) (sym w.deref-then-not-is_new.ensures) ∙ sym w.is_over.ensures ∙ w.if-is_over.false
      | arrive-else-not-is_new-via-else-not-is_new w ↦ λ e. absurd (let g : true ≡ false = sym w.if-not-is_new.false ∙ e in cc)
    ] in
    ((kinds_of c.args.locals.now), c.requires.underway.0, c.requires.underway.1, (at_order _ _ _ _ _ _ _ _ (offers_of (kinds_of c.args.locals.now) (begun c.is_new-is_new.result c.in-Try.body.value)) (offers_of (kinds_of c.args.locals.now) (body c.in-Try.otherwise.value)) (in_try_order _ _ _ _ _ _ _ _ (body c.in-Try.otherwise.value) (offers_of (kinds_of c.args.locals.now) (begun c.is_new-is_new.result c.in-Try.body.value)) (offers_of (kinds_of c.args.locals.now) (body c.in-Try.otherwise.value)) (same_tree _ _ _ _ _ _ _ _ _ _ (try_offers (kinds_of c.args.locals.now) c.args.is_fresh c.args.track.now c.in-Try.marks.at c.standing-in-Try.result c.is_new-is_new.result c.standing-in-Try.ensures c.in-Try.body.value c.in-Try.otherwise.value (ap standing c.in-Try.is) (ap body c.in-Try.is) c.in_default-standing-7.not-Second c.is_new-is_new.ensures o) c.requires.underway.2))))

pub arrive-enter-requires-in-Some-eq0-choose_side : goal.arrive-enter-requires-in-Some-eq0-choose_side
arrive-enter-requires-in-Some-eq0-choose_side g t c κs within =
    let o : c.is_new-is_new.result ≡ false → is_over (standing c.in-Try.body.value) ≡ false =
    elim c.else-not-is_new.branch [
      | arrive-else-not-is_new-via-then-not-is_new+else-is_over w ↦ λ e. ap (λ u. is_over (standing u)) (sym w.deref-then-not-is_new.ensures) ∙ sym w.is_over.ensures ∙ w.if-is_over.false
      | arrive-else-not-is_new-via-else-not-is_new w ↦ λ e. absurd (let g : true ≡ false = sym w.if-not-is_new.false ∙ e in cc)
    ] in
    (search rules, (within.0, (within.1, (search rules, (search rules, (search rules, (search rules, (search rules, (search rules, (c.requires.underway.0, c.requires.underway.1, (in_left _ _ _ _ _ _ _ _ _ _ _ _ refl refl (c.in-Some-eq0-choose_side.ensures.at (kinds_of c.args.locals.now) _ _ (at_order _ _ _ _ _ _ _ _ (offers_of (kinds_of c.args.locals.now) (begun c.is_new-is_new.result c.in-Try.body.value)) (offers_of (kinds_of c.args.locals.now) (body c.in-Try.otherwise.value)) (in_try_order _ _ _ _ _ _ _ _ (body c.in-Try.otherwise.value) (offers_of (kinds_of c.args.locals.now) (begun c.is_new-is_new.result c.in-Try.body.value)) (offers_of (kinds_of c.args.locals.now) (body c.in-Try.otherwise.value)) (same_tree _ _ _ _ _ _ _ _ _ _ (try_offers (kinds_of c.args.locals.now) c.args.is_fresh c.args.track.now c.in-Try.marks.at c.standing-in-Try.result c.is_new-is_new.result c.standing-in-Try.ensures c.in-Try.body.value c.in-Try.otherwise.value (ap standing c.in-Try.is) (ap body c.in-Try.is) c.in_default-standing-7.not-Second c.is_new-is_new.ensures o) c.requires.underway.2)))) (offers_of (kinds_of c.args.locals.now) (begun c.is_new-is_new.result c.in-Try.body.value)) (offers_of (kinds_of c.args.locals.now) (body c.in-Try.otherwise.value)) (c.in-Some-eq0-choose_side.ensures.come ∙ ap (λ i. g.C.Chooser.come c.args.chooser.now ++ i ∷ []) c.in-Some-eq0-choose_side.field-0-test) (in_try_order _ _ _ _ _ _ _ _ (body c.in-Try.otherwise.value) (offers_of (kinds_of c.args.locals.now) (begun c.is_new-is_new.result c.in-Try.body.value)) (offers_of (kinds_of c.args.locals.now) (body c.in-Try.otherwise.value)) (same_tree _ _ _ _ _ _ _ _ _ _ (try_offers (kinds_of c.args.locals.now) c.args.is_fresh c.args.track.now c.in-Try.marks.at c.standing-in-Try.result c.is_new-is_new.result c.standing-in-Try.ensures c.in-Try.body.value c.in-Try.otherwise.value (ap standing c.in-Try.is) (ap body c.in-Try.is) c.in_default-standing-7.not-Second c.is_new-is_new.ensures o) c.requires.underway.2)))))))))))))

pub arrive-enter-requires-in-Some-choose_side-2 : goal.arrive-enter-requires-in-Some-choose_side-2
arrive-enter-requires-in-Some-choose_side-2 g t c κs within =
    let o : c.is_new-is_new.result ≡ false → is_over (standing c.in-Try.body.value) ≡ false =
    elim c.else-not-is_new.branch [
      | arrive-else-not-is_new-via-then-not-is_new+else-is_over w ↦ λ e. ap (λ u. is_over (standing u)) (sym w.deref-then-not-is_new.ensures) ∙ sym w.is_over.ensures ∙ w.if-is_over.false
      | arrive-else-not-is_new-via-else-not-is_new w ↦ λ e. absurd (let g : true ≡ false = sym w.if-not-is_new.false ∙ e in cc)
    ] in
    (search rules, (within.0, (within.1, (search rules, (body_counted c.in-Try.otherwise.value, (search rules, (search rules, (search rules, (search rules, (c.requires.underway.0, c.requires.underway.1, (in_right _ _ _ _ _ _ _ _ _ _ _ _ refl refl (c.in-Some-choose_side-2.ensures.at (kinds_of c.args.locals.now) _ _ (at_order _ _ _ _ _ _ _ _ (offers_of (kinds_of c.args.locals.now) (begun c.is_new-is_new.result c.in-Try.body.value)) (offers_of (kinds_of c.args.locals.now) (body c.in-Try.otherwise.value)) (in_try_order _ _ _ _ _ _ _ _ (body c.in-Try.otherwise.value) (offers_of (kinds_of c.args.locals.now) (begun c.is_new-is_new.result c.in-Try.body.value)) (offers_of (kinds_of c.args.locals.now) (body c.in-Try.otherwise.value)) (same_tree _ _ _ _ _ _ _ _ _ _ (try_offers (kinds_of c.args.locals.now) c.args.is_fresh c.args.track.now c.in-Try.marks.at c.standing-in-Try.result c.is_new-is_new.result c.standing-in-Try.ensures c.in-Try.body.value c.in-Try.otherwise.value (ap standing c.in-Try.is) (ap body c.in-Try.is) c.in_default-standing-7.not-Second c.is_new-is_new.ensures o) c.requires.underway.2)))) (offers_of (kinds_of c.args.locals.now) (begun c.is_new-is_new.result c.in-Try.body.value)) (offers_of (kinds_of c.args.locals.now) (body c.in-Try.otherwise.value)) c.in-Some-choose_side-2.field-0 c.in-Some-choose_side-2.field-0-test.1 c.in-Some-choose_side-2.ensures.come (in_try_order _ _ _ _ _ _ _ _ (body c.in-Try.otherwise.value) (offers_of (kinds_of c.args.locals.now) (begun c.is_new-is_new.result c.in-Try.body.value)) (offers_of (kinds_of c.args.locals.now) (body c.in-Try.otherwise.value)) (same_tree _ _ _ _ _ _ _ _ _ _ (try_offers (kinds_of c.args.locals.now) c.args.is_fresh c.args.track.now c.in-Try.marks.at c.standing-in-Try.result c.is_new-is_new.result c.standing-in-Try.ensures c.in-Try.body.value c.in-Try.otherwise.value (ap standing c.in-Try.is) (ap body c.in-Try.is) c.in_default-standing-7.not-Second c.is_new-is_new.ensures o) c.requires.underway.2)))))))))))))

pub arrive-returns-in-Eps-clause-walks : goal.arrive-returns-in-Eps-clause-walks
arrive-returns-in-Eps-clause-walks g t c =
    on _ _ _ _ _ _ _ _ _ (ap (offers_of (kinds_of c.args.locals.now)) (plain c.args.is_fresh c.args.track.now eps (ap standing c.in-Eps.is) (ap body c.in-Eps.is))) refl (stays_there _ _ _ _ _ _ _ refl (λ ks o. vanishes _ _))

pub arrive-returns-in-Dead-clause-walks : goal.arrive-returns-in-Dead-clause-walks
arrive-returns-in-Dead-clause-walks g t c =
    on _ _ _ _ _ _ _ _ _ (ap (offers_of (kinds_of c.args.locals.now)) (plain c.args.is_fresh c.args.track.now dead (ap standing c.in-Dead.is) (ap body c.in-Dead.is))) refl (stays_there _ _ _ _ _ _ _ refl (λ ks o. does_nothing _ _))

pub arrive-returns-in-Over-clause-walks : goal.arrive-returns-in-Over-clause-walks
arrive-returns-in-Over-clause-walks g t c =
    on _ _ _ _ _ _ _ _ _ (ap (offers_of (kinds_of c.args.locals.now)) (con_over c.args.is_fresh c.args.track.now c.in-Con.marks.at c.in-Con.constraint c.in-Over.ensures (ap standing c.in-Con.is) (ap body c.in-Con.is))) refl (stays_there _ _ _ _ _ _ _ refl (λ ks o. vanishes _ _))

pub arrive-returns-in_default-clause-walks : goal.arrive-returns-in_default-clause-walks
arrive-returns-in_default-clause-walks g t c =
    on _ _ _ _ _ _ _ _ _ (ap (offers_of (kinds_of c.args.locals.now)) (con_begun c.args.is_fresh c.args.track.now c.in-Con.marks.at c.standing.result c.in-Con.constraint c.standing.ensures (ap standing c.in-Con.is) (ap body c.in-Con.is) c.in_default.not-Over)) refl (stays_there _ _ _ _ _ _ _ refl (λ ks o. meets _ _ _ (c.meet.ensures.holds ks)))

pub arrive-returns-in_default-clause-arrives : goal.arrive-returns-in_default-clause-arrives
arrive-returns-in_default-clause-arrives g t c =
    λ whole most h. h.holds

pub arrive-returns-in-Raise-clause-walks : goal.arrive-returns-in-Raise-clause-walks
arrive-returns-in-Raise-clause-walks g t c =
    on _ _ _ _ _ _ _ _ _ (ap (offers_of (kinds_of c.args.locals.now)) (plain c.args.is_fresh c.args.track.now (raise c.in-Raise.exception) (ap standing c.in-Raise.is) (ap body c.in-Raise.is))) refl (stays_there _ _ _ _ _ _ _ refl (λ ks o. raises _ _ _))

pub arrive-returns-in-Vanish-clause-walks : goal.arrive-returns-in-Vanish-clause-walks
arrive-returns-in-Vanish-clause-walks g t c =
    on _ _ _ _ _ _ _ _ _ (seq_offers (kinds_of c.args.locals.now) c.args.is_fresh c.args.track.now c.in-Seq.marks.at c.standing-in-Seq.result c.is_new.result c.standing-in-Seq.ensures c.in-Seq.first.value c.in-Seq.second.value (ap standing c.in-Seq.is) (ap body c.in-Seq.is) c.in_default-standing.not-Second c.is_new.ensures) refl (first_leads (body c.in-Seq.second.value) (offers_of (kinds_of c.args.locals.now) (body c.in-Seq.second.value)) (offers_of (kinds_of c.args.locals.now) (begun c.is_new.result c.in-Seq.first.value)) _ _ _ _ _ _ _ _ _ c.in-Vanish.ensures.walks c.enter-in-Vanish.ensures.walks)

pub arrive-returns-in-Vanish-clause-arrives : goal.arrive-returns-in-Vanish-clause-arrives
arrive-returns-in-Vanish-clause-arrives g t c =
    λ whole most h. c.enter-in-Vanish.ensures.arrives whole most (in_second _ _ _ _ _ _ _ _ _ _ _ _ (same_scope _ _ _ _ _ _ c.in-Vanish.ensures.walks) c.enter-in_default-standing.ensures.same_raised (c.in-Vanish.ensures.arrives _ _ (in_first _ _ _ _ _ _ _ _ _ (body c.in-Seq.second.value) (offers_of (kinds_of c.args.locals.now) (body c.in-Seq.second.value)) (offers_of (kinds_of c.args.locals.now) (begun c.is_new.result c.in-Seq.first.value)) (λ w k. c.weigh.ensures.is (kinds_of c.args.locals.now) w (context_again _ _ _ _ w c.deref.ensures.value k)) (same_tree _ _ _ _ _ _ _ _ _ _ (seq_offers (kinds_of c.args.locals.now) c.args.is_fresh c.args.track.now c.in-Seq.marks.at c.standing-in-Seq.result c.is_new.result c.standing-in-Seq.ensures c.in-Seq.first.value c.in-Seq.second.value (ap standing c.in-Seq.is) (ap body c.in-Seq.is) c.in_default-standing.not-Second c.is_new.ensures) h))) (body c.in-Seq.second.value) (offers_of (kinds_of c.args.locals.now) (body c.in-Seq.second.value)) (offers_of (kinds_of c.args.locals.now) (begun c.is_new.result c.in-Seq.first.value)) _ _ _ c.in-Vanish.ensures.walks (same_tree _ _ _ _ _ _ _ _ _ _ (seq_offers (kinds_of c.args.locals.now) c.args.is_fresh c.args.track.now c.in-Seq.marks.at c.standing-in-Seq.result c.is_new.result c.standing-in-Seq.ensures c.in-Seq.first.value c.in-Seq.second.value (ap standing c.in-Seq.is) (ap body c.in-Seq.is) c.in_default-standing.not-Second c.is_new.ensures) h))

pub arrive-returns-in_default-enter-clause-walks : goal.arrive-returns-in_default-enter-clause-walks
arrive-returns-in_default-enter-clause-walks g t c =
    on _ _ _ _ _ _ _ _ _ (seq_offers (kinds_of c.args.locals.now) c.args.is_fresh c.args.track.now c.in-Seq.marks.at c.standing-in-Seq.result c.is_new.result c.standing-in-Seq.ensures c.in-Seq.first.value c.in-Seq.second.value (ap standing c.in-Seq.is) (ap body c.in-Seq.is) c.in_default-standing.not-Second c.is_new.ensures) refl (still _ _ _ _ _ _ _ _ _ (λ s s2 i. first_stays (body c.in-Seq.second.value) (offers_of (kinds_of c.args.locals.now) (body c.in-Seq.second.value)) _ s s2 _ _ c.in_default-enter.not-Vanish i) c.enter-in_default-standing.ensures.walks)

pub arrive-returns-in_default-enter-clause-arrives : goal.arrive-returns-in_default-enter-clause-arrives
arrive-returns-in_default-enter-clause-arrives g t c =
    λ whole most h. c.enter-in_default-standing.ensures.arrives whole most (in_first _ _ _ _ _ _ _ _ _ (body c.in-Seq.second.value) (offers_of (kinds_of c.args.locals.now) (body c.in-Seq.second.value)) (offers_of (kinds_of c.args.locals.now) (begun c.is_new.result c.in-Seq.first.value)) (λ w k. c.weigh.ensures.is (kinds_of c.args.locals.now) w (context_again _ _ _ _ w c.deref.ensures.value k)) (same_tree _ _ _ _ _ _ _ _ _ _ (seq_offers (kinds_of c.args.locals.now) c.args.is_fresh c.args.track.now c.in-Seq.marks.at c.standing-in-Seq.result c.is_new.result c.standing-in-Seq.ensures c.in-Seq.first.value c.in-Seq.second.value (ap standing c.in-Seq.is) (ap body c.in-Seq.is) c.in_default-standing.not-Second c.is_new.ensures) h))

pub arrive-returns-in-Vanish-enter-clause-walks : goal.arrive-returns-in-Vanish-enter-clause-walks
arrive-returns-in-Vanish-enter-clause-walks g t c =
    on _ _ _ _ _ _ _ _ _ (loop_offers (kinds_of c.args.locals.now) c.args.is_fresh c.args.track.now c.in-Loop.marks.at c.in-Loop.body.value c.in-Inside.ensures (ap standing c.in-Loop.is) (ap body c.in-Loop.is)) refl (first_leads (loop (body c.in-Loop.body.value)) (offers_of (kinds_of c.args.locals.now) (loop (body c.in-Loop.body.value))) (offers_of (kinds_of c.args.locals.now) (standing c.in-Loop.body.value)) _ _ _ _ _ _ _ _ _ c.in-Vanish-enter.ensures.walks (on _ _ _ _ _ _ _ _ _ (ap (λ b. offers_of (kinds_of c.args.locals.now) (loop b)) (sym c.enter-in-Inside.ensures.same_body)) (ap (λ b. followed_by (next c.turn.new.again.value) (loop b)) c.turn.ensures.same_body) (c.turn.ensures.walks)))

pub arrive-returns-in-Vanish-enter-clause-arrives : goal.arrive-returns-in-Vanish-enter-clause-arrives
arrive-returns-in-Vanish-enter-clause-arrives g t c =
    λ whole most h. c.turn.ensures.arrives whole most (same_tree _ _ _ _ _ _ _ _ _ _ (ap (λ b. offers_of (kinds_of c.args.locals.now) (loop b)) (sym c.enter-in-Inside.ensures.same_body)) (in_second _ _ _ _ _ _ _ _ _ _ _ _ (same_scope _ _ _ _ _ _ c.in-Vanish-enter.ensures.walks) c.enter-in-Inside.ensures.same_raised (c.in-Vanish-enter.ensures.arrives _ _ (in_first _ _ _ _ _ _ _ _ _ (loop (body c.in-Loop.body.value)) (offers_of (kinds_of c.args.locals.now) (loop (body c.in-Loop.body.value))) (offers_of (kinds_of c.args.locals.now) (standing c.in-Loop.body.value)) (λ w k. c.weigh_loop.ensures.loops (kinds_of c.args.locals.now) w (context_again _ _ _ _ w c.deref-in-Inside.ensures.value k)) (same_tree _ _ _ _ _ _ _ _ _ _ (loop_offers (kinds_of c.args.locals.now) c.args.is_fresh c.args.track.now c.in-Loop.marks.at c.in-Loop.body.value c.in-Inside.ensures (ap standing c.in-Loop.is) (ap body c.in-Loop.is)) h))) (loop (body c.in-Loop.body.value)) (offers_of (kinds_of c.args.locals.now) (loop (body c.in-Loop.body.value))) (offers_of (kinds_of c.args.locals.now) (standing c.in-Loop.body.value)) _ _ _ c.in-Vanish-enter.ensures.walks (same_tree _ _ _ _ _ _ _ _ _ _ (loop_offers (kinds_of c.args.locals.now) c.args.is_fresh c.args.track.now c.in-Loop.marks.at c.in-Loop.body.value c.in-Inside.ensures (ap standing c.in-Loop.is) (ap body c.in-Loop.is)) h)))

pub arrive-returns-in_default-enter-2-clause-walks : goal.arrive-returns-in_default-enter-2-clause-walks
arrive-returns-in_default-enter-2-clause-walks g t c =
    on _ _ _ _ _ _ _ _ _ (loop_offers (kinds_of c.args.locals.now) c.args.is_fresh c.args.track.now c.in-Loop.marks.at c.in-Loop.body.value c.in-Inside.ensures (ap standing c.in-Loop.is) (ap body c.in-Loop.is)) (ap (λ b. followed_by (next c.enter-in-Inside.new.part.value) (loop b)) c.enter-in-Inside.ensures.same_body) (still _ _ _ _ _ _ _ _ _ (λ s s2 i. first_stays (loop (body c.in-Loop.body.value)) (offers_of (kinds_of c.args.locals.now) (loop (body c.in-Loop.body.value))) _ s s2 _ _ c.in_default-enter-2.not-Vanish i) c.enter-in-Inside.ensures.walks)

pub arrive-returns-in_default-enter-2-clause-arrives : goal.arrive-returns-in_default-enter-2-clause-arrives
arrive-returns-in_default-enter-2-clause-arrives g t c =
    λ whole most h. c.enter-in-Inside.ensures.arrives whole most (in_first _ _ _ _ _ _ _ _ _ (loop (body c.in-Loop.body.value)) (offers_of (kinds_of c.args.locals.now) (loop (body c.in-Loop.body.value))) (offers_of (kinds_of c.args.locals.now) (standing c.in-Loop.body.value)) (λ w k. c.weigh_loop.ensures.loops (kinds_of c.args.locals.now) w (context_again _ _ _ _ w c.deref-in-Inside.ensures.value k)) (same_tree _ _ _ _ _ _ _ _ _ _ (loop_offers (kinds_of c.args.locals.now) c.args.is_fresh c.args.track.now c.in-Loop.marks.at c.in-Loop.body.value c.in-Inside.ensures (ap standing c.in-Loop.is) (ap body c.in-Loop.is)) h))

pub arrive-returns-in_default-now-clause-walks : goal.arrive-returns-in_default-now-clause-walks
arrive-returns-in_default-now-clause-walks g t c =
    on _ _ _ _ _ _ _ _ _ (ap (offers_of (kinds_of c.args.locals.now)) (begun_is c.args.is_fresh c.args.track.now c.in-Loop.marks.at c.standing-now.result (λ l. loop_at l (body c.in-Loop.body.value) (standing c.in-Loop.body.value)) c.standing-now.ensures (ap standing c.in-Loop.is) (ap body c.in-Loop.is) ∙ loop_new (kinds_of c.args.locals.now) c.standing-now.result (body c.in-Loop.body.value) (standing c.in-Loop.body.value) c.in_default-now.not-Inside)) (ap (λ b. followed_by (next c.turn-in_default-now.new.again.value) (loop b)) c.turn-in_default-now.ensures.same_body) (c.turn-in_default-now.ensures.walks)

pub arrive-returns-in_default-now-clause-arrives : goal.arrive-returns-in_default-now-clause-arrives
arrive-returns-in_default-now-clause-arrives g t c =
    λ whole most h. c.turn-in_default-now.ensures.arrives whole most (same_tree _ _ _ _ _ _ _ _ _ _ (ap (offers_of (kinds_of c.args.locals.now)) (begun_is c.args.is_fresh c.args.track.now c.in-Loop.marks.at c.standing-now.result (λ l. loop_at l (body c.in-Loop.body.value) (standing c.in-Loop.body.value)) c.standing-now.ensures (ap standing c.in-Loop.is) (ap body c.in-Loop.is) ∙ loop_new (kinds_of c.args.locals.now) c.standing-now.result (body c.in-Loop.body.value) (standing c.in-Loop.body.value) c.in_default-now.not-Inside)) h)

pub arrive-returns-in-Vanish-enter-2-clause-walks : goal.arrive-returns-in-Vanish-enter-2-clause-walks
arrive-returns-in-Vanish-enter-2-clause-walks g t c =
    let e : c.in-Counted.done + 1 ≡ suc c.in-Counted.done = omega arith in
    on _ _ _ _ _ _ _ _ _ (count_offers (kinds_of c.args.locals.now) c.args.is_fresh c.args.track.now c.in-Count.marks.at c.in-Count.counter c.in-Counted.done c.in-Count.body.value c.in-Counted.ensures (ap standing c.in-Count.is) (ap body c.in-Count.is)) refl (first_leads (count c.in-Count.counter c.in-Counted.done (body c.in-Count.body.value)) (offers_of (kinds_of c.args.locals.now) (count c.in-Count.counter c.in-Counted.done (body c.in-Count.body.value))) (offers_of (kinds_of c.args.locals.now) (standing c.in-Count.body.value)) _ _ _ _ _ _ _ _ _ c.in-Vanish-enter-2.ensures.walks (on _ _ _ _ _ _ _ _ _ (ap (λ b. offers_of (kinds_of c.args.locals.now) (count c.in-Count.counter c.in-Counted.done b)) (sym c.enter-in-Counted.ensures.same_body)) (λ i. followed_by (next c.counted_turn.new.again.value) (count c.in-Count.counter (e i) (c.counted_turn.ensures.same_body i))) (c.counted_turn.ensures.walks)))

pub arrive-returns-in-Vanish-enter-2-clause-arrives : goal.arrive-returns-in-Vanish-enter-2-clause-arrives
arrive-returns-in-Vanish-enter-2-clause-arrives g t c =
    λ whole most h. c.counted_turn.ensures.arrives whole most (same_tree _ _ _ _ _ _ _ _ _ _ (ap (λ b. offers_of (kinds_of c.args.locals.now) (count c.in-Count.counter c.in-Counted.done b)) (sym c.enter-in-Counted.ensures.same_body)) (in_second _ _ _ _ _ _ _ _ _ _ _ _ (same_scope _ _ _ _ _ _ c.in-Vanish-enter-2.ensures.walks) c.enter-in-Counted.ensures.same_raised (c.in-Vanish-enter-2.ensures.arrives _ _ (in_first _ _ _ _ _ _ _ _ _ (count c.in-Count.counter c.in-Counted.done (body c.in-Count.body.value)) (offers_of (kinds_of c.args.locals.now) (count c.in-Count.counter c.in-Counted.done (body c.in-Count.body.value))) (offers_of (kinds_of c.args.locals.now) (standing c.in-Count.body.value)) (λ w k. c.weigh_loop-in-Counted.ensures.counts c.in-Count.counter c.in-Counted.done (kinds_of c.args.locals.now) w (context_again _ _ _ _ w c.deref-in-Counted.ensures.value k)) (same_tree _ _ _ _ _ _ _ _ _ _ (count_offers (kinds_of c.args.locals.now) c.args.is_fresh c.args.track.now c.in-Count.marks.at c.in-Count.counter c.in-Counted.done c.in-Count.body.value c.in-Counted.ensures (ap standing c.in-Count.is) (ap body c.in-Count.is)) h))) (count c.in-Count.counter c.in-Counted.done (body c.in-Count.body.value)) (offers_of (kinds_of c.args.locals.now) (count c.in-Count.counter c.in-Counted.done (body c.in-Count.body.value))) (offers_of (kinds_of c.args.locals.now) (standing c.in-Count.body.value)) _ _ _ c.in-Vanish-enter-2.ensures.walks (same_tree _ _ _ _ _ _ _ _ _ _ (count_offers (kinds_of c.args.locals.now) c.args.is_fresh c.args.track.now c.in-Count.marks.at c.in-Count.counter c.in-Counted.done c.in-Count.body.value c.in-Counted.ensures (ap standing c.in-Count.is) (ap body c.in-Count.is)) h)))

pub arrive-returns-in_default-enter-3-clause-walks : goal.arrive-returns-in_default-enter-3-clause-walks
arrive-returns-in_default-enter-3-clause-walks g t c =
    on _ _ _ _ _ _ _ _ _ (count_offers (kinds_of c.args.locals.now) c.args.is_fresh c.args.track.now c.in-Count.marks.at c.in-Count.counter c.in-Counted.done c.in-Count.body.value c.in-Counted.ensures (ap standing c.in-Count.is) (ap body c.in-Count.is)) (ap (λ b. followed_by (next c.enter-in-Counted.new.part.value) (count c.in-Count.counter c.in-Counted.done b)) c.enter-in-Counted.ensures.same_body) (still _ _ _ _ _ _ _ _ _ (λ s s2 i. first_stays (count c.in-Count.counter c.in-Counted.done (body c.in-Count.body.value)) (offers_of (kinds_of c.args.locals.now) (count c.in-Count.counter c.in-Counted.done (body c.in-Count.body.value))) _ s s2 _ _ c.in_default-enter-3.not-Vanish i) c.enter-in-Counted.ensures.walks)

pub arrive-returns-in_default-enter-3-clause-arrives : goal.arrive-returns-in_default-enter-3-clause-arrives
arrive-returns-in_default-enter-3-clause-arrives g t c =
    λ whole most h. c.enter-in-Counted.ensures.arrives whole most (in_first _ _ _ _ _ _ _ _ _ (count c.in-Count.counter c.in-Counted.done (body c.in-Count.body.value)) (offers_of (kinds_of c.args.locals.now) (count c.in-Count.counter c.in-Counted.done (body c.in-Count.body.value))) (offers_of (kinds_of c.args.locals.now) (standing c.in-Count.body.value)) (λ w k. c.weigh_loop-in-Counted.ensures.counts c.in-Count.counter c.in-Counted.done (kinds_of c.args.locals.now) w (context_again _ _ _ _ w c.deref-in-Counted.ensures.value k)) (same_tree _ _ _ _ _ _ _ _ _ _ (count_offers (kinds_of c.args.locals.now) c.args.is_fresh c.args.track.now c.in-Count.marks.at c.in-Count.counter c.in-Counted.done c.in-Count.body.value c.in-Counted.ensures (ap standing c.in-Count.is) (ap body c.in-Count.is)) h))

pub arrive-returns-in_default-standing-2-clause-walks : goal.arrive-returns-in_default-standing-2-clause-walks
arrive-returns-in_default-standing-2-clause-walks g t c =
    on _ _ _ _ _ _ _ _ _ (ap (offers_of (kinds_of c.args.locals.now)) (begun_is c.args.is_fresh c.args.track.now c.in-Count.marks.at c.standing-in-Count.result (λ l. count_at l c.in-Count.counter (body c.in-Count.body.value) (standing c.in-Count.body.value)) c.standing-in-Count.ensures (ap standing c.in-Count.is) (ap body c.in-Count.is) ∙ count_new (kinds_of c.args.locals.now) c.standing-in-Count.result c.in-Count.counter (body c.in-Count.body.value) (standing c.in-Count.body.value) c.in_default-standing-2.not-Counted)) (ap (λ b. followed_by (next c.counted_turn-in_default-standing-2.new.again.value) (count c.in-Count.counter 1 b)) c.counted_turn-in_default-standing-2.ensures.same_body) (c.counted_turn-in_default-standing-2.ensures.walks)

pub arrive-returns-in_default-standing-2-clause-arrives : goal.arrive-returns-in_default-standing-2-clause-arrives
arrive-returns-in_default-standing-2-clause-arrives g t c =
    λ whole most h. c.counted_turn-in_default-standing-2.ensures.arrives whole most (same_tree _ _ _ _ _ _ _ _ _ _ (ap (offers_of (kinds_of c.args.locals.now)) (begun_is c.args.is_fresh c.args.track.now c.in-Count.marks.at c.standing-in-Count.result (λ l. count_at l c.in-Count.counter (body c.in-Count.body.value) (standing c.in-Count.body.value)) c.standing-in-Count.ensures (ap standing c.in-Count.is) (ap body c.in-Count.is) ∙ count_new (kinds_of c.args.locals.now) c.standing-in-Count.result c.in-Count.counter (body c.in-Count.body.value) (standing c.in-Count.body.value) c.in_default-standing-2.not-Counted)) h)

pub arrive-returns-in-None-clause-walks : goal.arrive-returns-in-None-clause-walks
arrive-returns-in-None-clause-walks g t c =
    on _ _ _ _ _ _ _ _ _ (any_offers (kinds_of c.args.locals.now) c.args.is_fresh c.args.track.now c.in-Any.marks.at c.standing-in-Any.result (choices_of c.in-Any.parts.value) (standing_each c.in-Any.parts.value) c.standing-in-Any.ensures (ap standing c.in-Any.is) (ap body c.in-Any.is) c.in_default-standing-3.not-Chosen) refl (stops_choice (offers_of_each (kinds_of c.args.locals.now) (choices_of c.in-Any.parts.value)) _ _ _ _ _ c.in-None.ensures.come (λ ks. c.in-None.ensures.stops refl ks ∙ ap (λ u. record (held ks c.args.walk.now) { weights = weights_in (choices_of u) }) c.deref-in_default-standing-3.ensures ∙ ap (λ ws. record (held ks c.args.walk.now) { weights = ws }) (sym (weights_are (kinds_of c.args.locals.now) (choices_of c.in-Any.parts.value)))))

pub arrive-returns-in-None-clause-arrives : goal.arrive-returns-in-None-clause-arrives
arrive-returns-in-None-clause-arrives g t c =
    λ whole most h. c.in-None.ensures.at (kinds_of c.args.locals.now) whole most (at_choice _ _ _ _ _ _ _ _ _ (same_tree _ _ _ _ _ _ _ _ _ _ ((any_offers (kinds_of c.args.locals.now) c.args.is_fresh c.args.track.now c.in-Any.marks.at c.standing-in-Any.result (choices_of c.in-Any.parts.value) (standing_each c.in-Any.parts.value) c.standing-in-Any.ensures (ap standing c.in-Any.is) (ap body c.in-Any.is) c.in_default-standing-3.not-Chosen) ∙ ap (λ u. weighted [] (offers_of_each (kinds_of c.args.locals.now) (choices_of u))) (sym c.deref-in_default-standing-3.ensures)) h))

pub arrive-returns-in-Some-clause-walks : goal.arrive-returns-in-Some-clause-walks
arrive-returns-in-Some-clause-walks g t c =
    on _ _ _ _ _ _ _ _ _ (any_offers (kinds_of c.args.locals.now) c.args.is_fresh c.args.track.now c.in-Any.marks.at c.standing-in-Any.result (choices_of c.in-Any.parts.value) (standing_each c.in-Any.parts.value) c.standing-in-Any.ensures (ap standing c.in-Any.is) (ap body c.in-Any.is) c.in_default-standing-3.not-Chosen) refl (taken_part (offers_of_each (kinds_of c.args.locals.now) (choices_of c.in-Any.parts.value)) (offers_of (kinds_of c.args.locals.now) (slice_index_or (body_each c.in-Any.parts.value) c.in-Some.place dead)) _ _ _ _ _ c.in-Some.place _ _ (λ ks. branch_of (kinds_of c.args.locals.now) c.in-Any.parts.value c.in-Some.place ks) c.in-Some.ensures.come (from_same _ _ _ c.choose_part.new.walk c.args.walk.now _ _ _ (λ ks. still_held ks c.choose_part.new.walk c.args.walk.now c.choose_part.ensures.constraints c.choose_part.ensures.lasts c.choose_part.ensures.scope (c.in-Some.ensures.goes _ refl ∙ sym c.requires.none)) c.enter_part-in-Some.ensures.walks))

pub arrive-returns-in-Some-clause-arrives : goal.arrive-returns-in-Some-clause-arrives
arrive-returns-in-Some-clause-arrives g t c =
    λ whole most h. c.enter_part-in-Some.ensures.arrives whole most (in_branch _ _ _ _ _ _ _ _ _ _ _ _ (ap (λ v. v.items) c.choose_part.ensures.scope) (ap (λ v. v.items) c.choose_part.ensures.raised) (c.in-Some.ensures.at (kinds_of c.args.locals.now) _ _ (at_choice _ _ _ _ _ _ _ _ _ (same_tree _ _ _ _ _ _ _ _ _ _ ((any_offers (kinds_of c.args.locals.now) c.args.is_fresh c.args.track.now c.in-Any.marks.at c.standing-in-Any.result (choices_of c.in-Any.parts.value) (standing_each c.in-Any.parts.value) c.standing-in-Any.ensures (ap standing c.in-Any.is) (ap body c.in-Any.is) c.in_default-standing-3.not-Chosen) ∙ ap (λ u. weighted [] (offers_of_each (kinds_of c.args.locals.now) (choices_of u))) (sym c.deref-in_default-standing-3.ensures)) h))) (kinds_of c.args.locals.now) c.in-Any.parts.value c.in-Some.place c.in-Some.ensures.come (same_tree _ _ _ _ _ _ _ _ _ _ (any_offers (kinds_of c.args.locals.now) c.args.is_fresh c.args.track.now c.in-Any.marks.at c.standing-in-Any.result (choices_of c.in-Any.parts.value) (standing_each c.in-Any.parts.value) c.standing-in-Any.ensures (ap standing c.in-Any.is) (ap body c.in-Any.is) c.in_default-standing-3.not-Chosen) h))

pub arrive-returns-in-None-choose_side-clause-walks : goal.arrive-returns-in-None-choose_side-clause-walks
arrive-returns-in-None-choose_side-clause-walks g t c =
    on _ _ _ _ _ _ _ _ _ (pri_offers (kinds_of c.args.locals.now) c.args.is_fresh c.args.track.now c.in-Pri.marks.at c.standing-in-Pri.result c.in-Pri.first.value c.in-Pri.second.value c.standing-in-Pri.ensures (ap standing c.in-Pri.is) (ap body c.in-Pri.is) c.in_default-standing-4.not-Inside c.in_default-standing-4.not-Second) refl (stops_order (offers_of (kinds_of c.args.locals.now) (body c.in-Pri.first.value)) (offers_of (kinds_of c.args.locals.now) (body c.in-Pri.second.value)) _ _ _ _ c.in-None-choose_side.ensures.come)

pub arrive-returns-in-None-choose_side-clause-arrives : goal.arrive-returns-in-None-choose_side-clause-arrives
arrive-returns-in-None-choose_side-clause-arrives g t c =
    λ whole most h. c.in-None-choose_side.ensures.at (kinds_of c.args.locals.now) whole most (at_order _ _ _ _ _ _ _ _ (offers_of (kinds_of c.args.locals.now) (body c.in-Pri.first.value)) (offers_of (kinds_of c.args.locals.now) (body c.in-Pri.second.value)) (same_tree _ _ _ _ _ _ _ _ _ _ (pri_offers (kinds_of c.args.locals.now) c.args.is_fresh c.args.track.now c.in-Pri.marks.at c.standing-in-Pri.result c.in-Pri.first.value c.in-Pri.second.value c.standing-in-Pri.ensures (ap standing c.in-Pri.is) (ap body c.in-Pri.is) c.in_default-standing-4.not-Inside c.in_default-standing-4.not-Second) h))

pub arrive-returns-in-Some-eq0-clause-walks : goal.arrive-returns-in-Some-eq0-clause-walks
arrive-returns-in-Some-eq0-clause-walks g t c =
    on _ _ _ _ _ _ _ _ _ (pri_offers (kinds_of c.args.locals.now) c.args.is_fresh c.args.track.now c.in-Pri.marks.at c.standing-in-Pri.result c.in-Pri.first.value c.in-Pri.second.value c.standing-in-Pri.ensures (ap standing c.in-Pri.is) (ap body c.in-Pri.is) c.in_default-standing-4.not-Inside c.in_default-standing-4.not-Second) refl (taken_first (offers_of (kinds_of c.args.locals.now) (body c.in-Pri.first.value)) (offers_of (kinds_of c.args.locals.now) (body c.in-Pri.second.value)) _ _ _ _ _ c.in-Some-eq0.field-0 _ _ c.in-Some-eq0.field-0-test c.in-Some-eq0.ensures.come c.enter-in-Some-eq0.ensures.walks)

pub arrive-returns-in-Some-eq0-clause-arrives : goal.arrive-returns-in-Some-eq0-clause-arrives
arrive-returns-in-Some-eq0-clause-arrives g t c =
    λ whole most h. c.enter-in-Some-eq0.ensures.arrives whole most (in_left _ _ _ _ _ _ _ _ _ _ _ _ refl refl (c.in-Some-eq0.ensures.at (kinds_of c.args.locals.now) _ _ (at_order _ _ _ _ _ _ _ _ (offers_of (kinds_of c.args.locals.now) (body c.in-Pri.first.value)) (offers_of (kinds_of c.args.locals.now) (body c.in-Pri.second.value)) (same_tree _ _ _ _ _ _ _ _ _ _ (pri_offers (kinds_of c.args.locals.now) c.args.is_fresh c.args.track.now c.in-Pri.marks.at c.standing-in-Pri.result c.in-Pri.first.value c.in-Pri.second.value c.standing-in-Pri.ensures (ap standing c.in-Pri.is) (ap body c.in-Pri.is) c.in_default-standing-4.not-Inside c.in_default-standing-4.not-Second) h))) (offers_of (kinds_of c.args.locals.now) (body c.in-Pri.first.value)) (offers_of (kinds_of c.args.locals.now) (body c.in-Pri.second.value)) (c.in-Some-eq0.ensures.come ∙ ap (λ i. g.C.Chooser.come c.args.chooser.now ++ i ∷ []) c.in-Some-eq0.field-0-test) (same_tree _ _ _ _ _ _ _ _ _ _ (pri_offers (kinds_of c.args.locals.now) c.args.is_fresh c.args.track.now c.in-Pri.marks.at c.standing-in-Pri.result c.in-Pri.first.value c.in-Pri.second.value c.standing-in-Pri.ensures (ap standing c.in-Pri.is) (ap body c.in-Pri.is) c.in_default-standing-4.not-Inside c.in_default-standing-4.not-Second) h))

pub arrive-returns-in-Some-choose_side-clause-walks : goal.arrive-returns-in-Some-choose_side-clause-walks
arrive-returns-in-Some-choose_side-clause-walks g t c =
    on _ _ _ _ _ _ _ _ _ (pri_offers (kinds_of c.args.locals.now) c.args.is_fresh c.args.track.now c.in-Pri.marks.at c.standing-in-Pri.result c.in-Pri.first.value c.in-Pri.second.value c.standing-in-Pri.ensures (ap standing c.in-Pri.is) (ap body c.in-Pri.is) c.in_default-standing-4.not-Inside c.in_default-standing-4.not-Second) refl (taken_second (offers_of (kinds_of c.args.locals.now) (body c.in-Pri.first.value)) (offers_of (kinds_of c.args.locals.now) (body c.in-Pri.second.value)) _ _ _ _ _ c.in-Some-choose_side.field-0 _ _ c.in-Some-choose_side.field-0-test.1 c.in-Some-choose_side.ensures.come c.enter-in-Some-choose_side.ensures.walks)

pub arrive-returns-in-Some-choose_side-clause-arrives : goal.arrive-returns-in-Some-choose_side-clause-arrives
arrive-returns-in-Some-choose_side-clause-arrives g t c =
    λ whole most h. c.enter-in-Some-choose_side.ensures.arrives whole most (in_right _ _ _ _ _ _ _ _ _ _ _ _ refl refl (c.in-Some-choose_side.ensures.at (kinds_of c.args.locals.now) _ _ (at_order _ _ _ _ _ _ _ _ (offers_of (kinds_of c.args.locals.now) (body c.in-Pri.first.value)) (offers_of (kinds_of c.args.locals.now) (body c.in-Pri.second.value)) (same_tree _ _ _ _ _ _ _ _ _ _ (pri_offers (kinds_of c.args.locals.now) c.args.is_fresh c.args.track.now c.in-Pri.marks.at c.standing-in-Pri.result c.in-Pri.first.value c.in-Pri.second.value c.standing-in-Pri.ensures (ap standing c.in-Pri.is) (ap body c.in-Pri.is) c.in_default-standing-4.not-Inside c.in_default-standing-4.not-Second) h))) (offers_of (kinds_of c.args.locals.now) (body c.in-Pri.first.value)) (offers_of (kinds_of c.args.locals.now) (body c.in-Pri.second.value)) c.in-Some-choose_side.field-0 c.in-Some-choose_side.field-0-test.1 c.in-Some-choose_side.ensures.come (same_tree _ _ _ _ _ _ _ _ _ _ (pri_offers (kinds_of c.args.locals.now) c.args.is_fresh c.args.track.now c.in-Pri.marks.at c.standing-in-Pri.result c.in-Pri.first.value c.in-Pri.second.value c.standing-in-Pri.ensures (ap standing c.in-Pri.is) (ap body c.in-Pri.is) c.in_default-standing-4.not-Inside c.in_default-standing-4.not-Second) h))

pub arrive-returns-in-Vanish-enter-3-clause-walks : goal.arrive-returns-in-Vanish-enter-3-clause-walks
arrive-returns-in-Vanish-enter-3-clause-walks g t c =
    on _ _ _ _ _ _ _ _ _ (par_offers (kinds_of c.args.locals.now) c.args.is_fresh c.args.track.now c.in-Par.marks.at c.standing-in-Par.result c.are_new-are_new.result c.standing-in-Par.ensures c.in-Par.first.value c.in-Par.second.value (ap standing c.in-Par.is) (ap body c.in-Par.is) c.in_default-standing-5.not-Inside c.in_default-standing-5.not-Second c.are_new-are_new.ensures) refl (side_leads (offers_of (kinds_of c.args.locals.now) (begun c.are_new-are_new.result c.in-Par.first.value)) (offers_of (kinds_of c.args.locals.now) (begun c.are_new-are_new.result c.in-Par.second.value)) _ _ _ _ _ _ _ _ _ c.in-Vanish-enter-3.ensures.walks c.enter-in-Vanish-enter-3.ensures.walks)

pub arrive-returns-in-Vanish-enter-3-clause-arrives : goal.arrive-returns-in-Vanish-enter-3-clause-arrives
arrive-returns-in-Vanish-enter-3-clause-arrives g t c =
    λ whole most h. c.enter-in-Vanish-enter-3.ensures.arrives whole most (in_other _ _ _ _ _ _ _ _ _ _ _ _ (same_scope _ _ _ _ _ _ c.in-Vanish-enter-3.ensures.walks) c.enter-in_default-standing-5.ensures.same_raised (c.in-Vanish-enter-3.ensures.arrives _ _ (in_side _ _ _ _ _ _ _ _ _ _ (offers_of (kinds_of c.args.locals.now) (begun c.are_new-are_new.result c.in-Par.second.value)) (offers_of (kinds_of c.args.locals.now) (begun c.are_new-are_new.result c.in-Par.first.value)) (λ w k. c.weigh-in_default-standing-5.ensures.is (kinds_of c.args.locals.now) w (context_again _ _ _ _ w c.deref-in_default-standing-5.ensures.value k)) (λ w k. c.weigh-in_default-standing-5-2.ensures.is (kinds_of c.args.locals.now) w (context_again _ _ _ _ w c.deref-in_default-standing-5-2.ensures.value k)) (same_tree _ _ _ _ _ _ _ _ _ _ (par_offers (kinds_of c.args.locals.now) c.args.is_fresh c.args.track.now c.in-Par.marks.at c.standing-in-Par.result c.are_new-are_new.result c.standing-in-Par.ensures c.in-Par.first.value c.in-Par.second.value (ap standing c.in-Par.is) (ap body c.in-Par.is) c.in_default-standing-5.not-Inside c.in_default-standing-5.not-Second c.are_new-are_new.ensures) h))) (offers_of (kinds_of c.args.locals.now) (begun c.are_new-are_new.result c.in-Par.second.value)) (offers_of (kinds_of c.args.locals.now) (begun c.are_new-are_new.result c.in-Par.first.value)) _ _ _ c.in-Vanish-enter-3.ensures.walks (same_tree _ _ _ _ _ _ _ _ _ _ (par_offers (kinds_of c.args.locals.now) c.args.is_fresh c.args.track.now c.in-Par.marks.at c.standing-in-Par.result c.are_new-are_new.result c.standing-in-Par.ensures c.in-Par.first.value c.in-Par.second.value (ap standing c.in-Par.is) (ap body c.in-Par.is) c.in_default-standing-5.not-Inside c.in_default-standing-5.not-Second c.are_new-are_new.ensures) h))

pub arrive-returns-in-Go-enter-clause-walks : goal.arrive-returns-in-Go-enter-clause-walks
arrive-returns-in-Go-enter-clause-walks g t c =
    on _ _ _ _ _ _ _ _ _ (par_offers (kinds_of c.args.locals.now) c.args.is_fresh c.args.track.now c.in-Par.marks.at c.standing-in-Par.result c.are_new-are_new.result c.standing-in-Par.ensures c.in-Par.first.value c.in-Par.second.value (ap standing c.in-Par.is) (ap body c.in-Par.is) c.in_default-standing-5.not-Inside c.in_default-standing-5.not-Second c.are_new-are_new.ensures) refl (both_go (offers_of (kinds_of c.args.locals.now) (begun c.are_new-are_new.result c.in-Par.first.value)) (offers_of (kinds_of c.args.locals.now) (begun c.are_new-are_new.result c.in-Par.second.value)) _ _ _ _ _ _ _ _ c.in-Go.ensures.walks c.in-Go-enter.ensures.walks)

pub arrive-returns-in-Go-enter-clause-arrives : goal.arrive-returns-in-Go-enter-clause-arrives
arrive-returns-in-Go-enter-clause-arrives g t c =
    λ whole most h. c.in-Go-enter.ensures.arrives whole most (in_beside _ _ _ _ _ _ _ _ _ _ _ _ (gone_scope _ _ _ _ _ _ c.in-Go.ensures.walks) c.enter-in_default-standing-5.ensures.same_raised (c.in-Go.ensures.arrives _ _ (in_side _ _ _ _ _ _ _ _ _ _ (offers_of (kinds_of c.args.locals.now) (begun c.are_new-are_new.result c.in-Par.second.value)) (offers_of (kinds_of c.args.locals.now) (begun c.are_new-are_new.result c.in-Par.first.value)) (λ w k. c.weigh-in_default-standing-5.ensures.is (kinds_of c.args.locals.now) w (context_again _ _ _ _ w c.deref-in_default-standing-5.ensures.value k)) (λ w k. c.weigh-in_default-standing-5-2.ensures.is (kinds_of c.args.locals.now) w (context_again _ _ _ _ w c.deref-in_default-standing-5-2.ensures.value k)) (same_tree _ _ _ _ _ _ _ _ _ _ (par_offers (kinds_of c.args.locals.now) c.args.is_fresh c.args.track.now c.in-Par.marks.at c.standing-in-Par.result c.are_new-are_new.result c.standing-in-Par.ensures c.in-Par.first.value c.in-Par.second.value (ap standing c.in-Par.is) (ap body c.in-Par.is) c.in_default-standing-5.not-Inside c.in_default-standing-5.not-Second c.are_new-are_new.ensures) h))) (offers_of (kinds_of c.args.locals.now) (begun c.are_new-are_new.result c.in-Par.second.value)) (offers_of (kinds_of c.args.locals.now) (begun c.are_new-are_new.result c.in-Par.first.value)) _ _ _ c.in-Go.ensures.walks (same_tree _ _ _ _ _ _ _ _ _ _ (par_offers (kinds_of c.args.locals.now) c.args.is_fresh c.args.track.now c.in-Par.marks.at c.standing-in-Par.result c.are_new-are_new.result c.standing-in-Par.ensures c.in-Par.first.value c.in-Par.second.value (ap standing c.in-Par.is) (ap body c.in-Par.is) c.in_default-standing-5.not-Inside c.in_default-standing-5.not-Second c.are_new-are_new.ensures) h))

pub arrive-returns-in-Vanish-enter-4-clause-walks : goal.arrive-returns-in-Vanish-enter-4-clause-walks
arrive-returns-in-Vanish-enter-4-clause-walks g t c =
    on _ _ _ _ _ _ _ _ _ (par_offers (kinds_of c.args.locals.now) c.args.is_fresh c.args.track.now c.in-Par.marks.at c.standing-in-Par.result c.are_new-are_new.result c.standing-in-Par.ensures c.in-Par.first.value c.in-Par.second.value (ap standing c.in-Par.is) (ap body c.in-Par.is) c.in_default-standing-5.not-Inside c.in_default-standing-5.not-Second c.are_new-are_new.ensures) refl (first_goes (offers_of (kinds_of c.args.locals.now) (begun c.are_new-are_new.result c.in-Par.first.value)) (offers_of (kinds_of c.args.locals.now) (begun c.are_new-are_new.result c.in-Par.second.value)) _ _ _ _ _ _ _ _ c.in-Go.ensures.walks c.in-Vanish-enter-4.ensures.walks)

pub arrive-returns-in-Vanish-enter-4-clause-arrives : goal.arrive-returns-in-Vanish-enter-4-clause-arrives
arrive-returns-in-Vanish-enter-4-clause-arrives g t c =
    λ whole most h. c.in-Vanish-enter-4.ensures.arrives whole most (in_beside _ _ _ _ _ _ _ _ _ _ _ _ (gone_scope _ _ _ _ _ _ c.in-Go.ensures.walks) c.enter-in_default-standing-5.ensures.same_raised (c.in-Go.ensures.arrives _ _ (in_side _ _ _ _ _ _ _ _ _ _ (offers_of (kinds_of c.args.locals.now) (begun c.are_new-are_new.result c.in-Par.second.value)) (offers_of (kinds_of c.args.locals.now) (begun c.are_new-are_new.result c.in-Par.first.value)) (λ w k. c.weigh-in_default-standing-5.ensures.is (kinds_of c.args.locals.now) w (context_again _ _ _ _ w c.deref-in_default-standing-5.ensures.value k)) (λ w k. c.weigh-in_default-standing-5-2.ensures.is (kinds_of c.args.locals.now) w (context_again _ _ _ _ w c.deref-in_default-standing-5-2.ensures.value k)) (same_tree _ _ _ _ _ _ _ _ _ _ (par_offers (kinds_of c.args.locals.now) c.args.is_fresh c.args.track.now c.in-Par.marks.at c.standing-in-Par.result c.are_new-are_new.result c.standing-in-Par.ensures c.in-Par.first.value c.in-Par.second.value (ap standing c.in-Par.is) (ap body c.in-Par.is) c.in_default-standing-5.not-Inside c.in_default-standing-5.not-Second c.are_new-are_new.ensures) h))) (offers_of (kinds_of c.args.locals.now) (begun c.are_new-are_new.result c.in-Par.second.value)) (offers_of (kinds_of c.args.locals.now) (begun c.are_new-are_new.result c.in-Par.first.value)) _ _ _ c.in-Go.ensures.walks (same_tree _ _ _ _ _ _ _ _ _ _ (par_offers (kinds_of c.args.locals.now) c.args.is_fresh c.args.track.now c.in-Par.marks.at c.standing-in-Par.result c.are_new-are_new.result c.standing-in-Par.ensures c.in-Par.first.value c.in-Par.second.value (ap standing c.in-Par.is) (ap body c.in-Par.is) c.in_default-standing-5.not-Inside c.in_default-standing-5.not-Second c.are_new-are_new.ensures) h))

pub arrive-returns-in_default-enter-5-clause-walks : goal.arrive-returns-in_default-enter-5-clause-walks
arrive-returns-in_default-enter-5-clause-walks g t c =
    let f : c.len-constraints.result ≡ length c.args.walk.now.constraints.items = omega (arith, c.len-constraints.ensures, c.args.walk.now.constraints.ok.0) in
    let l : c.len-lasts.result ≡ length c.args.walk.now.lasts.items = omega (arith, c.len-lasts.ensures, c.args.walk.now.lasts.ok.0) in
    on _ _ _ _ _ _ _ _ _ (par_offers (kinds_of c.args.locals.now) c.args.is_fresh c.args.track.now c.in-Par.marks.at c.standing-in-Par.result c.are_new-are_new.result c.standing-in-Par.ensures c.in-Par.first.value c.in-Par.second.value (ap standing c.in-Par.is) (ap body c.in-Par.is) c.in_default-standing-5.not-Inside c.in_default-standing-5.not-Second c.are_new-are_new.ensures) refl (second_stops (offers_of (kinds_of c.args.locals.now) (begun c.are_new-are_new.result c.in-Par.first.value)) (offers_of (kinds_of c.args.locals.now) (begun c.are_new-are_new.result c.in-Par.second.value)) _ _ _ _ _ _ _ _ _ _ _ c.in_default-enter-5.not-Go c.in_default-enter-5.not-Vanish (λ ks. c.keep.ensures.holds ks ∙ (λ i. record (held ks c.enter-in-Go.new.walk) { constraints = take (f i) c.enter-in-Go.new.walk.constraints.items; lasts = take (l i) c.enter-in-Go.new.walk.lasts.items })) c.in-Go.ensures.walks c.enter-in-Go.ensures.walks)

pub arrive-returns-in_default-enter-5-clause-arrives : goal.arrive-returns-in_default-enter-5-clause-arrives
arrive-returns-in_default-enter-5-clause-arrives g t c =
    λ whole most h. c.enter-in-Go.ensures.arrives whole most (in_beside _ _ _ _ _ _ _ _ _ _ _ _ (gone_scope _ _ _ _ _ _ c.in-Go.ensures.walks) c.enter-in_default-standing-5.ensures.same_raised (c.in-Go.ensures.arrives _ _ (in_side _ _ _ _ _ _ _ _ _ _ (offers_of (kinds_of c.args.locals.now) (begun c.are_new-are_new.result c.in-Par.second.value)) (offers_of (kinds_of c.args.locals.now) (begun c.are_new-are_new.result c.in-Par.first.value)) (λ w k. c.weigh-in_default-standing-5.ensures.is (kinds_of c.args.locals.now) w (context_again _ _ _ _ w c.deref-in_default-standing-5.ensures.value k)) (λ w k. c.weigh-in_default-standing-5-2.ensures.is (kinds_of c.args.locals.now) w (context_again _ _ _ _ w c.deref-in_default-standing-5-2.ensures.value k)) (same_tree _ _ _ _ _ _ _ _ _ _ (par_offers (kinds_of c.args.locals.now) c.args.is_fresh c.args.track.now c.in-Par.marks.at c.standing-in-Par.result c.are_new-are_new.result c.standing-in-Par.ensures c.in-Par.first.value c.in-Par.second.value (ap standing c.in-Par.is) (ap body c.in-Par.is) c.in_default-standing-5.not-Inside c.in_default-standing-5.not-Second c.are_new-are_new.ensures) h))) (offers_of (kinds_of c.args.locals.now) (begun c.are_new-are_new.result c.in-Par.second.value)) (offers_of (kinds_of c.args.locals.now) (begun c.are_new-are_new.result c.in-Par.first.value)) _ _ _ c.in-Go.ensures.walks (same_tree _ _ _ _ _ _ _ _ _ _ (par_offers (kinds_of c.args.locals.now) c.args.is_fresh c.args.track.now c.in-Par.marks.at c.standing-in-Par.result c.are_new-are_new.result c.standing-in-Par.ensures c.in-Par.first.value c.in-Par.second.value (ap standing c.in-Par.is) (ap body c.in-Par.is) c.in_default-standing-5.not-Inside c.in_default-standing-5.not-Second c.are_new-are_new.ensures) h))

pub arrive-returns-in_default-enter-4-clause-walks : goal.arrive-returns-in_default-enter-4-clause-walks
arrive-returns-in_default-enter-4-clause-walks g t c =
    on _ _ _ _ _ _ _ _ _ (par_offers (kinds_of c.args.locals.now) c.args.is_fresh c.args.track.now c.in-Par.marks.at c.standing-in-Par.result c.are_new-are_new.result c.standing-in-Par.ensures c.in-Par.first.value c.in-Par.second.value (ap standing c.in-Par.is) (ap body c.in-Par.is) c.in_default-standing-5.not-Inside c.in_default-standing-5.not-Second c.are_new-are_new.ensures) refl (still _ _ _ _ _ _ _ _ _ (λ s s2 i. first_stops (offers_of (kinds_of c.args.locals.now) (begun c.are_new-are_new.result c.in-Par.first.value)) (offers_of (kinds_of c.args.locals.now) (begun c.are_new-are_new.result c.in-Par.second.value)) s s2 _ _ _ c.in_default-enter-4.not-Go c.in_default-enter-4.not-Vanish i) c.enter-in_default-standing-5.ensures.walks)

pub arrive-returns-in_default-enter-4-clause-arrives : goal.arrive-returns-in_default-enter-4-clause-arrives
arrive-returns-in_default-enter-4-clause-arrives g t c =
    λ whole most h. c.enter-in_default-standing-5.ensures.arrives whole most (in_side _ _ _ _ _ _ _ _ _ _ (offers_of (kinds_of c.args.locals.now) (begun c.are_new-are_new.result c.in-Par.second.value)) (offers_of (kinds_of c.args.locals.now) (begun c.are_new-are_new.result c.in-Par.first.value)) (λ w k. c.weigh-in_default-standing-5.ensures.is (kinds_of c.args.locals.now) w (context_again _ _ _ _ w c.deref-in_default-standing-5.ensures.value k)) (λ w k. c.weigh-in_default-standing-5-2.ensures.is (kinds_of c.args.locals.now) w (context_again _ _ _ _ w c.deref-in_default-standing-5-2.ensures.value k)) (same_tree _ _ _ _ _ _ _ _ _ _ (par_offers (kinds_of c.args.locals.now) c.args.is_fresh c.args.track.now c.in-Par.marks.at c.standing-in-Par.result c.are_new-are_new.result c.standing-in-Par.ensures c.in-Par.first.value c.in-Par.second.value (ap standing c.in-Par.is) (ap body c.in-Par.is) c.in_default-standing-5.not-Inside c.in_default-standing-5.not-Second c.are_new-are_new.ensures) h))

pub arrive-returns-in-Assert-clause-walks : goal.arrive-returns-in-Assert-clause-walks
arrive-returns-in-Assert-clause-walks g t c =
    let f : c.len-constraints-in-Assert.result ≡ length c.args.walk.now.constraints.items = omega (arith, c.len-constraints-in-Assert.ensures, c.args.walk.now.constraints.ok.0) in
    on _ _ _ _ _ _ _ _ _ (assert_offers (kinds_of c.args.locals.now) c.args.is_fresh c.args.track.now c.in-Assert.marks.at c.standing-now-in-Assert.result c.is_new-in-Assert.result c.standing-now-in-Assert.ensures c.in-Assert.constraint c.in-Assert.body.value (ap standing c.in-Assert.is) (ap body c.in-Assert.is) c.is_new-in-Assert.ensures) refl (asserts c.in-Assert.constraint _ _ _ _ _ _ _ _ _ (λ ks. c.meet-in-Assert.ensures.holds ks) (λ ks. c.settle.ensures.holds ks ∙ ap (λ n. settled c.enter-reached.result n (held ks c.enter-reached.new.walk)) f) c.enter-reached.ensures.walks)

pub arrive-returns-in-Assert-clause-arrives : goal.arrive-returns-in-Assert-clause-arrives
arrive-returns-in-Assert-clause-arrives g t c =
    λ whole most h. c.enter-reached.ensures.arrives whole most (again _ _ _ _ _ _ _ _ _ _ _ (ap (λ v. v.items) c.meet-in-Assert.ensures.scope) (ap (λ v. v.items) c.meet-in-Assert.ensures.raised) (in_asserted _ _ _ _ _ _ _ _ c.in-Assert.constraint _ (same_tree _ _ _ _ _ _ _ _ _ _ (assert_offers (kinds_of c.args.locals.now) c.args.is_fresh c.args.track.now c.in-Assert.marks.at c.standing-now-in-Assert.result c.is_new-in-Assert.result c.standing-now-in-Assert.ensures c.in-Assert.constraint c.in-Assert.body.value (ap standing c.in-Assert.is) (ap body c.in-Assert.is) c.is_new-in-Assert.ensures) h)))

pub arrive-returns-in-Exist-clause-walks : goal.arrive-returns-in-Exist-clause-walks
arrive-returns-in-Exist-clause-walks g t c =
    let l : c.len-lasts-in-Exist.result ≡ length c.args.walk.now.lasts.items = omega (arith, c.len-lasts-in-Exist.ensures, c.args.walk.now.lasts.ok.0) in
    let s : c.len-scope.result ≡ length c.args.walk.now.scope.items = omega (arith, c.len-scope.ensures, c.args.walk.now.scope.ok.0) in
    on _ _ _ _ _ _ _ _ _ (exist_offers (kinds_of c.args.locals.now) c.args.is_fresh c.args.track.now c.in-Exist.marks.at c.standing-now-in-Exist.result c.is_outside.result c.standing-now-in-Exist.ensures c.in-Exist.local c.last-last.result c.in-Exist.body.value (ap standing c.in-Exist.is) (ap body c.in-Exist.is) c.is_outside.ensures c.last-last.ensures) (ap (λ w. with_scope c.in-Exist.local w (next c.enter-reached-in-Exist.new.part.value)) c.kept.ensures) (exists (start_of (kinds_of c.args.locals.now) c.in-Exist.local) c.in-Exist.local c.last-last.result _ _ _ _ _ _ _ _ _ (λ ks. c.open.ensures.holds ks) (λ ks. c.close.ensures.holds ks ∙ (λ i. closed c.enter-reached-in-Exist.result (l i) (s i) (held ks c.enter-reached-in-Exist.new.walk))) c.enter-reached-in-Exist.ensures.walks)

pub arrive-returns-in-Exist-clause-arrives : goal.arrive-returns-in-Exist-clause-arrives
arrive-returns-in-Exist-clause-arrives g t c =
    λ whole most h. c.enter-reached-in-Exist.ensures.arrives whole most (again _ _ _ _ _ _ _ _ _ _ _ (ap (λ s. s.scope) (c.open.ensures.holds [])) (ap (λ v. v.items) c.open.ensures.raised) (in_scope _ _ _ _ _ _ _ _ (start_of (kinds_of c.args.locals.now) c.in-Exist.local) c.in-Exist.local c.last-last.result _ (same_tree _ _ _ _ _ _ _ _ _ _ (exist_offers (kinds_of c.args.locals.now) c.args.is_fresh c.args.track.now c.in-Exist.marks.at c.standing-now-in-Exist.result c.is_outside.result c.standing-now-in-Exist.ensures c.in-Exist.local c.last-last.result c.in-Exist.body.value (ap standing c.in-Exist.is) (ap body c.in-Exist.is) c.is_outside.ensures c.last-last.ensures) h)))

pub arrive-returns-else-raised-exception-clause-walks : goal.arrive-returns-else-raised-exception-clause-walks
arrive-returns-else-raised-exception-clause-walks g t c =
    on _ _ _ _ _ _ _ _ _ (catch_offers (kinds_of c.args.locals.now) c.args.is_fresh c.args.track.now c.in-Catch.marks.at c.standing-in-Catch.result c.is_new-in_default-standing-6.result c.standing-in-Catch.ensures c.in-Catch.exception c.in-Catch.body.value c.in-Catch.otherwise.value (ap standing c.in-Catch.is) (ap body c.in-Catch.is) c.in_default-standing-6.not-Second c.is_new-in_default-standing-6.ensures) refl (handled c.in-Catch.exception c.in-Raised.raised (body c.in-Catch.otherwise.value) (offers_of (kinds_of c.args.locals.now) (begun c.is_new-in_default-standing-6.result c.in-Catch.body.value)) (offers_of (kinds_of c.args.locals.now) (body c.in-Catch.otherwise.value)) _ _ _ _ _ _ _ _ _ c.if-raised-exception.false (to_same _ _ _ _ c.enter-reached-in_default-standing-6.new.walk _ _ _ (λ ks. refl) (from_same _ _ _ _ _ _ _ _ (λ ks. refl) c.in-Raised.ensures.walks)) c.enter-in-Raised.ensures.walks)

pub arrive-returns-else-raised-exception-clause-arrives : goal.arrive-returns-else-raised-exception-clause-arrives
arrive-returns-else-raised-exception-clause-arrives g t c =
    let pb : slice_set c.enter-reached-in_default-standing-6.new.walk.raised.items c.in-Catch.exception c.weight_at-outside.result ≡ c.args.walk.now.raised.items = ap (λ n. slice_set c.enter-reached-in_default-standing-6.new.walk.raised.items c.in-Catch.exception n) (c.weight_at-outside.ensures.is ∙ ap (λ ws. slice_index_or ws c.in-Catch.exception 0) c.deref-in_default-standing-6-2.ensures.value) ∙ put_back c.args.walk.now.raised.items c.enter-reached-in_default-standing-6.new.walk.raised.items c.in-Catch.exception c.weigh-weight.result c.enter-reached-in_default-standing-6.ensures.same_raised in
    λ whole most h. c.enter-in-Raised.ensures.arrives whole most (in_handler _ _ _ _ _ _ _ _ _ _ _ _ (raised_scope c.in-Raised.raised _ _ _ _ _ _ c.in-Raised.ensures.walks) pb (c.in-Raised.ensures.arrives _ _ (in_caught _ _ _ _ _ _ _ _ c.in-Catch.exception _ (body c.in-Catch.otherwise.value) (offers_of (kinds_of c.args.locals.now) (body c.in-Catch.otherwise.value)) (offers_of (kinds_of c.args.locals.now) (begun c.is_new-in_default-standing-6.result c.in-Catch.body.value)) ((subst (HandlesBelow (length c.args.walk.now.raised.items)) (ap body c.in-Catch.is) c.requires.handlers).0) (λ w k. c.weigh-weight.ensures.is (kinds_of c.args.locals.now) w (context_again _ _ _ _ w c.deref-in_default-standing-6.ensures.value k)) (same_tree _ _ _ _ _ _ _ _ _ _ (catch_offers (kinds_of c.args.locals.now) c.args.is_fresh c.args.track.now c.in-Catch.marks.at c.standing-in-Catch.result c.is_new-in_default-standing-6.result c.standing-in-Catch.ensures c.in-Catch.exception c.in-Catch.body.value c.in-Catch.otherwise.value (ap standing c.in-Catch.is) (ap body c.in-Catch.is) c.in_default-standing-6.not-Second c.is_new-in_default-standing-6.ensures) h))) c.in-Catch.exception c.in-Raised.raised (body c.in-Catch.otherwise.value) (offers_of (kinds_of c.args.locals.now) (body c.in-Catch.otherwise.value)) (offers_of (kinds_of c.args.locals.now) (begun c.is_new-in_default-standing-6.result c.in-Catch.body.value)) _ _ _ c.if-raised-exception.false c.in-Raised.ensures.walks (same_tree _ _ _ _ _ _ _ _ _ _ (catch_offers (kinds_of c.args.locals.now) c.args.is_fresh c.args.track.now c.in-Catch.marks.at c.standing-in-Catch.result c.is_new-in_default-standing-6.result c.standing-in-Catch.ensures c.in-Catch.exception c.in-Catch.body.value c.in-Catch.otherwise.value (ap standing c.in-Catch.is) (ap body c.in-Catch.is) c.in_default-standing-6.not-Second c.is_new-in_default-standing-6.ensures) h))

pub arrive-returns-else-raised-exception-clause-same_raised : goal.arrive-returns-else-raised-exception-clause-same_raised
arrive-returns-else-raised-exception-clause-same_raised g t c =
    let pb : slice_set c.enter-reached-in_default-standing-6.new.walk.raised.items c.in-Catch.exception c.weight_at-outside.result ≡ c.args.walk.now.raised.items = ap (λ n. slice_set c.enter-reached-in_default-standing-6.new.walk.raised.items c.in-Catch.exception n) (c.weight_at-outside.ensures.is ∙ ap (λ ws. slice_index_or ws c.in-Catch.exception 0) c.deref-in_default-standing-6-2.ensures.value) ∙ put_back c.args.walk.now.raised.items c.enter-reached-in_default-standing-6.new.walk.raised.items c.in-Catch.exception c.weigh-weight.result c.enter-reached-in_default-standing-6.ensures.same_raised in
    c.enter-in-Raised.ensures.same_raised ∙ pb

pub arrive-returns-in_default-reached-clause-walks : goal.arrive-returns-in_default-reached-clause-walks
arrive-returns-in_default-reached-clause-walks g t c =
    on _ _ _ _ _ _ _ _ _ (catch_offers (kinds_of c.args.locals.now) c.args.is_fresh c.args.track.now c.in-Catch.marks.at c.standing-in-Catch.result c.is_new-in_default-standing-6.result c.standing-in-Catch.ensures c.in-Catch.exception c.in-Catch.body.value c.in-Catch.otherwise.value (ap standing c.in-Catch.is) (ap body c.in-Catch.is) c.in_default-standing-6.not-Second c.is_new-in_default-standing-6.ensures) refl (to_same _ _ _ _ c.enter-reached-in_default-standing-6.new.walk _ _ _ (λ ks. refl) (still _ _ _ _ _ _ _ _ _ (λ s s2 i. not_raised c.in-Catch.exception (body c.in-Catch.otherwise.value) (offers_of (kinds_of c.args.locals.now) (begun c.is_new-in_default-standing-6.result c.in-Catch.body.value)) (offers_of (kinds_of c.args.locals.now) (body c.in-Catch.otherwise.value)) s s2 _ _ c.in_default-reached.not-Raised i) (from_same _ _ _ _ _ _ _ _ (λ ks. refl) c.enter-reached-in_default-standing-6.ensures.walks)))

pub arrive-returns-in_default-reached-clause-arrives : goal.arrive-returns-in_default-reached-clause-arrives
arrive-returns-in_default-reached-clause-arrives g t c =
    λ whole most h. c.enter-reached-in_default-standing-6.ensures.arrives whole most (in_caught _ _ _ _ _ _ _ _ c.in-Catch.exception _ (body c.in-Catch.otherwise.value) (offers_of (kinds_of c.args.locals.now) (body c.in-Catch.otherwise.value)) (offers_of (kinds_of c.args.locals.now) (begun c.is_new-in_default-standing-6.result c.in-Catch.body.value)) ((subst (HandlesBelow (length c.args.walk.now.raised.items)) (ap body c.in-Catch.is) c.requires.handlers).0) (λ w k. c.weigh-weight.ensures.is (kinds_of c.args.locals.now) w (context_again _ _ _ _ w c.deref-in_default-standing-6.ensures.value k)) (same_tree _ _ _ _ _ _ _ _ _ _ (catch_offers (kinds_of c.args.locals.now) c.args.is_fresh c.args.track.now c.in-Catch.marks.at c.standing-in-Catch.result c.is_new-in_default-standing-6.result c.standing-in-Catch.ensures c.in-Catch.exception c.in-Catch.body.value c.in-Catch.otherwise.value (ap standing c.in-Catch.is) (ap body c.in-Catch.is) c.in_default-standing-6.not-Second c.is_new-in_default-standing-6.ensures) h))

pub arrive-returns-in_default-reached-clause-same_raised : goal.arrive-returns-in_default-reached-clause-same_raised
arrive-returns-in_default-reached-clause-same_raised g t c =
    let pb : slice_set c.enter-reached-in_default-standing-6.new.walk.raised.items c.in-Catch.exception c.weight_at-outside.result ≡ c.args.walk.now.raised.items = ap (λ n. slice_set c.enter-reached-in_default-standing-6.new.walk.raised.items c.in-Catch.exception n) (c.weight_at-outside.ensures.is ∙ ap (λ ws. slice_index_or ws c.in-Catch.exception 0) c.deref-in_default-standing-6-2.ensures.value) ∙ put_back c.args.walk.now.raised.items c.enter-reached-in_default-standing-6.new.walk.raised.items c.in-Catch.exception c.weigh-weight.result c.enter-reached-in_default-standing-6.ensures.same_raised in
    pb

pub arrive-returns-in-None-choose_side-2-clause-walks : goal.arrive-returns-in-None-choose_side-2-clause-walks
arrive-returns-in-None-choose_side-2-clause-walks g t c =
    let o : c.is_new-is_new.result ≡ false → is_over (standing c.in-Try.body.value) ≡ false =
    elim c.else-not-is_new.branch [
      | arrive-else-not-is_new-via-then-not-is_new+else-is_over w ↦ λ e. ap (λ u. is_over (standing u)) (sym w.deref-then-not-is_new.ensures) ∙ sym w.is_over.ensures ∙ w.if-is_over.false
      | arrive-else-not-is_new-via-else-not-is_new w ↦ λ e. absurd (let g : true ≡ false = sym w.if-not-is_new.false ∙ e in cc)
    ] in
    on _ _ _ _ _ _ _ _ _ (try_offers (kinds_of c.args.locals.now) c.args.is_fresh c.args.track.now c.in-Try.marks.at c.standing-in-Try.result c.is_new-is_new.result c.standing-in-Try.ensures c.in-Try.body.value c.in-Try.otherwise.value (ap standing c.in-Try.is) (ap body c.in-Try.is) c.in_default-standing-7.not-Second c.is_new-is_new.ensures o) refl (stops_order _ _ _ _ _ _ c.in-None-choose_side-2.ensures.come)

pub arrive-returns-in-None-choose_side-2-clause-arrives : goal.arrive-returns-in-None-choose_side-2-clause-arrives
arrive-returns-in-None-choose_side-2-clause-arrives g t c =
    let o : c.is_new-is_new.result ≡ false → is_over (standing c.in-Try.body.value) ≡ false =
    elim c.else-not-is_new.branch [
      | arrive-else-not-is_new-via-then-not-is_new+else-is_over w ↦ λ e. ap (λ u. is_over (standing u)) (sym w.deref-then-not-is_new.ensures) ∙ sym w.is_over.ensures ∙ w.if-is_over.false
      | arrive-else-not-is_new-via-else-not-is_new w ↦ λ e. absurd (let g : true ≡ false = sym w.if-not-is_new.false ∙ e in cc)
    ] in
    λ whole most h. c.in-None-choose_side-2.ensures.at (kinds_of c.args.locals.now) whole most (at_order _ _ _ _ _ _ _ _ (offers_of (kinds_of c.args.locals.now) (begun c.is_new-is_new.result c.in-Try.body.value)) (offers_of (kinds_of c.args.locals.now) (body c.in-Try.otherwise.value)) (in_try_order _ _ _ _ _ _ _ _ (body c.in-Try.otherwise.value) (offers_of (kinds_of c.args.locals.now) (begun c.is_new-is_new.result c.in-Try.body.value)) (offers_of (kinds_of c.args.locals.now) (body c.in-Try.otherwise.value)) (same_tree _ _ _ _ _ _ _ _ _ _ (try_offers (kinds_of c.args.locals.now) c.args.is_fresh c.args.track.now c.in-Try.marks.at c.standing-in-Try.result c.is_new-is_new.result c.standing-in-Try.ensures c.in-Try.body.value c.in-Try.otherwise.value (ap standing c.in-Try.is) (ap body c.in-Try.is) c.in_default-standing-7.not-Second c.is_new-is_new.ensures o) h)))

pub arrive-returns-in-Some-eq0-choose_side-clause-walks : goal.arrive-returns-in-Some-eq0-choose_side-clause-walks
arrive-returns-in-Some-eq0-choose_side-clause-walks g t c =
    let o : c.is_new-is_new.result ≡ false → is_over (standing c.in-Try.body.value) ≡ false =
    elim c.else-not-is_new.branch [
      | arrive-else-not-is_new-via-then-not-is_new+else-is_over w ↦ λ e. ap (λ u. is_over (standing u)) (sym w.deref-then-not-is_new.ensures) ∙ sym w.is_over.ensures ∙ w.if-is_over.false
      | arrive-else-not-is_new-via-else-not-is_new w ↦ λ e. absurd (let g : true ≡ false = sym w.if-not-is_new.false ∙ e in cc)
    ] in
    on _ _ _ _ _ _ _ _ _ (try_offers (kinds_of c.args.locals.now) c.args.is_fresh c.args.track.now c.in-Try.marks.at c.standing-in-Try.result c.is_new-is_new.result c.standing-in-Try.ensures c.in-Try.body.value c.in-Try.otherwise.value (ap standing c.in-Try.is) (ap body c.in-Try.is) c.in_default-standing-7.not-Second c.is_new-is_new.ensures o) refl (taken_first _ _ _ _ _ _ _ c.in-Some-eq0-choose_side.field-0 _ _ c.in-Some-eq0-choose_side.field-0-test c.in-Some-eq0-choose_side.ensures.come (still _ _ _ _ _ _ _ _ _ (λ s s2 i. tries (body c.in-Try.otherwise.value) (offers_of (kinds_of c.args.locals.now) (begun c.is_new-is_new.result c.in-Try.body.value)) s s2 _ _ i) c.enter-in-Some-eq0-choose_side.ensures.walks))

pub arrive-returns-in-Some-eq0-choose_side-clause-arrives : goal.arrive-returns-in-Some-eq0-choose_side-clause-arrives
arrive-returns-in-Some-eq0-choose_side-clause-arrives g t c =
    let o : c.is_new-is_new.result ≡ false → is_over (standing c.in-Try.body.value) ≡ false =
    elim c.else-not-is_new.branch [
      | arrive-else-not-is_new-via-then-not-is_new+else-is_over w ↦ λ e. ap (λ u. is_over (standing u)) (sym w.deref-then-not-is_new.ensures) ∙ sym w.is_over.ensures ∙ w.if-is_over.false
      | arrive-else-not-is_new-via-else-not-is_new w ↦ λ e. absurd (let g : true ≡ false = sym w.if-not-is_new.false ∙ e in cc)
    ] in
    λ whole most h. c.enter-in-Some-eq0-choose_side.ensures.arrives whole most (in_left _ _ _ _ _ _ _ _ _ _ _ _ refl refl (c.in-Some-eq0-choose_side.ensures.at (kinds_of c.args.locals.now) _ _ (at_order _ _ _ _ _ _ _ _ (offers_of (kinds_of c.args.locals.now) (begun c.is_new-is_new.result c.in-Try.body.value)) (offers_of (kinds_of c.args.locals.now) (body c.in-Try.otherwise.value)) (in_try_order _ _ _ _ _ _ _ _ (body c.in-Try.otherwise.value) (offers_of (kinds_of c.args.locals.now) (begun c.is_new-is_new.result c.in-Try.body.value)) (offers_of (kinds_of c.args.locals.now) (body c.in-Try.otherwise.value)) (same_tree _ _ _ _ _ _ _ _ _ _ (try_offers (kinds_of c.args.locals.now) c.args.is_fresh c.args.track.now c.in-Try.marks.at c.standing-in-Try.result c.is_new-is_new.result c.standing-in-Try.ensures c.in-Try.body.value c.in-Try.otherwise.value (ap standing c.in-Try.is) (ap body c.in-Try.is) c.in_default-standing-7.not-Second c.is_new-is_new.ensures o) h)))) (offers_of (kinds_of c.args.locals.now) (begun c.is_new-is_new.result c.in-Try.body.value)) (offers_of (kinds_of c.args.locals.now) (body c.in-Try.otherwise.value)) (c.in-Some-eq0-choose_side.ensures.come ∙ ap (λ i. g.C.Chooser.come c.args.chooser.now ++ i ∷ []) c.in-Some-eq0-choose_side.field-0-test) (in_try_order _ _ _ _ _ _ _ _ (body c.in-Try.otherwise.value) (offers_of (kinds_of c.args.locals.now) (begun c.is_new-is_new.result c.in-Try.body.value)) (offers_of (kinds_of c.args.locals.now) (body c.in-Try.otherwise.value)) (same_tree _ _ _ _ _ _ _ _ _ _ (try_offers (kinds_of c.args.locals.now) c.args.is_fresh c.args.track.now c.in-Try.marks.at c.standing-in-Try.result c.is_new-is_new.result c.standing-in-Try.ensures c.in-Try.body.value c.in-Try.otherwise.value (ap standing c.in-Try.is) (ap body c.in-Try.is) c.in_default-standing-7.not-Second c.is_new-is_new.ensures o) h)))

pub arrive-returns-in-Some-choose_side-2-clause-walks : goal.arrive-returns-in-Some-choose_side-2-clause-walks
arrive-returns-in-Some-choose_side-2-clause-walks g t c =
    let o : c.is_new-is_new.result ≡ false → is_over (standing c.in-Try.body.value) ≡ false =
    elim c.else-not-is_new.branch [
      | arrive-else-not-is_new-via-then-not-is_new+else-is_over w ↦ λ e. ap (λ u. is_over (standing u)) (sym w.deref-then-not-is_new.ensures) ∙ sym w.is_over.ensures ∙ w.if-is_over.false
      | arrive-else-not-is_new-via-else-not-is_new w ↦ λ e. absurd (let g : true ≡ false = sym w.if-not-is_new.false ∙ e in cc)
    ] in
    on _ _ _ _ _ _ _ _ _ (try_offers (kinds_of c.args.locals.now) c.args.is_fresh c.args.track.now c.in-Try.marks.at c.standing-in-Try.result c.is_new-is_new.result c.standing-in-Try.ensures c.in-Try.body.value c.in-Try.otherwise.value (ap standing c.in-Try.is) (ap body c.in-Try.is) c.in_default-standing-7.not-Second c.is_new-is_new.ensures o) refl (taken_second _ _ _ _ _ _ _ c.in-Some-choose_side-2.field-0 _ _ c.in-Some-choose_side-2.field-0-test.1 c.in-Some-choose_side-2.ensures.come c.enter-in-Some-choose_side-2.ensures.walks)

pub arrive-returns-in-Some-choose_side-2-clause-arrives : goal.arrive-returns-in-Some-choose_side-2-clause-arrives
arrive-returns-in-Some-choose_side-2-clause-arrives g t c =
    let o : c.is_new-is_new.result ≡ false → is_over (standing c.in-Try.body.value) ≡ false =
    elim c.else-not-is_new.branch [
      | arrive-else-not-is_new-via-then-not-is_new+else-is_over w ↦ λ e. ap (λ u. is_over (standing u)) (sym w.deref-then-not-is_new.ensures) ∙ sym w.is_over.ensures ∙ w.if-is_over.false
      | arrive-else-not-is_new-via-else-not-is_new w ↦ λ e. absurd (let g : true ≡ false = sym w.if-not-is_new.false ∙ e in cc)
    ] in
    λ whole most h. c.enter-in-Some-choose_side-2.ensures.arrives whole most (in_right _ _ _ _ _ _ _ _ _ _ _ _ refl refl (c.in-Some-choose_side-2.ensures.at (kinds_of c.args.locals.now) _ _ (at_order _ _ _ _ _ _ _ _ (offers_of (kinds_of c.args.locals.now) (begun c.is_new-is_new.result c.in-Try.body.value)) (offers_of (kinds_of c.args.locals.now) (body c.in-Try.otherwise.value)) (in_try_order _ _ _ _ _ _ _ _ (body c.in-Try.otherwise.value) (offers_of (kinds_of c.args.locals.now) (begun c.is_new-is_new.result c.in-Try.body.value)) (offers_of (kinds_of c.args.locals.now) (body c.in-Try.otherwise.value)) (same_tree _ _ _ _ _ _ _ _ _ _ (try_offers (kinds_of c.args.locals.now) c.args.is_fresh c.args.track.now c.in-Try.marks.at c.standing-in-Try.result c.is_new-is_new.result c.standing-in-Try.ensures c.in-Try.body.value c.in-Try.otherwise.value (ap standing c.in-Try.is) (ap body c.in-Try.is) c.in_default-standing-7.not-Second c.is_new-is_new.ensures o) h)))) (offers_of (kinds_of c.args.locals.now) (begun c.is_new-is_new.result c.in-Try.body.value)) (offers_of (kinds_of c.args.locals.now) (body c.in-Try.otherwise.value)) c.in-Some-choose_side-2.field-0 c.in-Some-choose_side-2.field-0-test.1 c.in-Some-choose_side-2.ensures.come (in_try_order _ _ _ _ _ _ _ _ (body c.in-Try.otherwise.value) (offers_of (kinds_of c.args.locals.now) (begun c.is_new-is_new.result c.in-Try.body.value)) (offers_of (kinds_of c.args.locals.now) (body c.in-Try.otherwise.value)) (same_tree _ _ _ _ _ _ _ _ _ _ (try_offers (kinds_of c.args.locals.now) c.args.is_fresh c.args.track.now c.in-Try.marks.at c.standing-in-Try.result c.is_new-is_new.result c.standing-in-Try.ensures c.in-Try.body.value c.in-Try.otherwise.value (ap standing c.in-Try.is) (ap body c.in-Try.is) c.in_default-standing-7.not-Second c.is_new-is_new.ensures o) h)))

pub arrive_in_part-returns-in-End-clause-walks : goal.arrive_in_part-returns-in-End-clause-walks
arrive_in_part-returns-in-End-clause-walks g t c =
    on _ _ _ _ _ _ _ _ _ (ap (λ u. offers_of (kinds_of c.args.locals.now) (slice_index_or (begun_each c.args.is_fresh u) c.args.place dead)) c.in-End.is ∙ ap (offers_of (kinds_of c.args.locals.now)) (no_part c.args.is_fresh c.args.place)) refl (stays_there _ _ _ _ _ _ _ refl (λ ks o. does_nothing _ _))

pub counted_turn-choose_turn-requires-clause-room : goal.counted_turn-choose_turn-requires-clause-room
counted_turn-choose_turn-requires-clause-room g t c =
    omega (arith, nodes_positive (body c.args.again.now.value), c.requires.room.weights)

pub counted_turn-choose_turn-requires-clause-room_before : goal.counted_turn-choose_turn-requires-clause-room_before
counted_turn-choose_turn-requires-clause-room_before g t c =
    omega (arith, nodes_positive (body c.args.again.now.value), c.requires.room.before)

pub counted_turn-choose_turn-requires-clause-asked : goal.counted_turn-choose_turn-requires-clause-asked
counted_turn-choose_turn-requires-clause-asked g t c =
    ((kinds_of c.args.locals.now), c.requires.underway.0, c.requires.underway.1, (at_turns _ _ _ _ _ _ _ _ (count c.args.counter (suc c.args.done) (body c.args.again.now.value)) (more c.args.counter c.args.done) (stop c.args.counter c.args.done) (offers_of (kinds_of c.args.locals.now) (body c.args.again.now.value)) c.requires.underway.2))

pub counted_turn-enter-requires : goal.counted_turn-enter-requires
counted_turn-enter-requires g t c κs within =
    (search rules, (within.0, (within.1, (search rules, (body_counted c.args.again.now.value, (search rules, (search rules, (search rules, (c.in-Some-eq0.ensures.goes _ refl, (c.requires.underway.0, c.requires.underway.1, (in_one_turn _ _ _ _ _ _ _ _ _ _ _ _ (ap (λ v. v.items) c.choose_turn.ensures.scope) (ap (λ v. v.items) c.choose_turn.ensures.raised) (c.in-Some-eq0.ensures.at (kinds_of c.args.locals.now) _ _ (at_turns _ _ _ _ _ _ _ _ (count c.args.counter (suc c.args.done) (body c.args.again.now.value)) (more c.args.counter c.args.done) (stop c.args.counter c.args.done) (offers_of (kinds_of c.args.locals.now) (body c.args.again.now.value)) c.requires.underway.2)) (count c.args.counter (suc c.args.done) (body c.args.again.now.value)) (more c.args.counter c.args.done) (stop c.args.counter c.args.done) (offers_of (kinds_of c.args.locals.now) (body c.args.again.now.value)) (c.in-Some-eq0.ensures.come ∙ ap (λ i. g.C.Chooser.come c.args.chooser.now ++ i ∷ []) c.in-Some-eq0.field-0-test) c.requires.underway.2)))))))))))

pub counted_turn-returns-in-None-clause-walks : goal.counted_turn-returns-in-None-clause-walks
counted_turn-returns-in-None-clause-walks g t c =
    stops_choice (branch (more c.args.counter c.args.done) (with_leaves (in_turn (count c.args.counter (suc c.args.done) (body c.args.again.now.value))) (offers_of (kinds_of c.args.locals.now) (body c.args.again.now.value))) (branch (stop c.args.counter c.args.done) (leaf vanish) no_branch)) _ _ _ _ _ c.in-None.ensures.come (λ ks. c.in-None.ensures.stops refl ks)

pub counted_turn-returns-in-None-clause-arrives : goal.counted_turn-returns-in-None-clause-arrives
counted_turn-returns-in-None-clause-arrives g t c =
    λ whole most h. c.in-None.ensures.at (kinds_of c.args.locals.now) whole most (at_turns _ _ _ _ _ _ _ _ (count c.args.counter (suc c.args.done) (body c.args.again.now.value)) (more c.args.counter c.args.done) (stop c.args.counter c.args.done) (offers_of (kinds_of c.args.locals.now) (body c.args.again.now.value)) h)

pub counted_turn-returns-in-Vanish-clause-walks : goal.counted_turn-returns-in-Vanish-clause-walks
counted_turn-returns-in-Vanish-clause-walks g t c =
    taken_part (branch (more c.args.counter c.args.done) (with_leaves (in_turn (count c.args.counter (suc c.args.done) (body c.args.again.now.value))) (offers_of (kinds_of c.args.locals.now) (body c.args.again.now.value))) (branch (stop c.args.counter c.args.done) (leaf vanish) no_branch)) (with_leaves (in_turn (count c.args.counter (suc c.args.done) (body c.args.again.now.value))) (offers_of (kinds_of c.args.locals.now) (body c.args.again.now.value))) _ _ _ _ _ c.in-Some-eq0.field-0 _ _ (λ ks. ap (λ j. at_branch (branch (more c.args.counter c.args.done) (with_leaves (in_turn (count c.args.counter (suc c.args.done) (body c.args.again.now.value))) (offers_of (kinds_of c.args.locals.now) (body c.args.again.now.value))) (branch (stop c.args.counter c.args.done) (leaf vanish) no_branch)) j ks) c.in-Some-eq0.field-0-test) c.in-Some-eq0.ensures.come (from_same _ _ _ c.choose_turn.new.walk c.args.walk.now _ _ _ (λ ks. still_held ks c.choose_turn.new.walk c.args.walk.now c.choose_turn.ensures.constraints c.choose_turn.ensures.lasts c.choose_turn.ensures.scope (c.in-Some-eq0.ensures.goes _ refl ∙ sym c.requires.none)) (turn_is_none (count c.args.counter (suc c.args.done) (body c.args.again.now.value)) _ _ _ _ _ _ _ c.in-Vanish.ensures.walks))

pub counted_turn-returns-in-Vanish-clause-arrives : goal.counted_turn-returns-in-Vanish-clause-arrives
counted_turn-returns-in-Vanish-clause-arrives g t c =
    λ whole most h. c.in-Vanish.ensures.arrives whole most (in_one_turn _ _ _ _ _ _ _ _ _ _ _ _ (ap (λ v. v.items) c.choose_turn.ensures.scope) (ap (λ v. v.items) c.choose_turn.ensures.raised) (c.in-Some-eq0.ensures.at (kinds_of c.args.locals.now) _ _ (at_turns _ _ _ _ _ _ _ _ (count c.args.counter (suc c.args.done) (body c.args.again.now.value)) (more c.args.counter c.args.done) (stop c.args.counter c.args.done) (offers_of (kinds_of c.args.locals.now) (body c.args.again.now.value)) h)) (count c.args.counter (suc c.args.done) (body c.args.again.now.value)) (more c.args.counter c.args.done) (stop c.args.counter c.args.done) (offers_of (kinds_of c.args.locals.now) (body c.args.again.now.value)) (c.in-Some-eq0.ensures.come ∙ ap (λ i. g.C.Chooser.come c.args.chooser.now ++ i ∷ []) c.in-Some-eq0.field-0-test) h)

pub counted_turn-returns-in_default-clause-walks : goal.counted_turn-returns-in_default-clause-walks
counted_turn-returns-in_default-clause-walks g t c =
    taken_part (branch (more c.args.counter c.args.done) (with_leaves (in_turn (count c.args.counter (suc c.args.done) (body c.args.again.now.value))) (offers_of (kinds_of c.args.locals.now) (body c.args.again.now.value))) (branch (stop c.args.counter c.args.done) (leaf vanish) no_branch)) (with_leaves (in_turn (count c.args.counter (suc c.args.done) (body c.args.again.now.value))) (offers_of (kinds_of c.args.locals.now) (body c.args.again.now.value))) _ _ _ _ _ c.in-Some-eq0.field-0 _ _ (λ ks. ap (λ j. at_branch (branch (more c.args.counter c.args.done) (with_leaves (in_turn (count c.args.counter (suc c.args.done) (body c.args.again.now.value))) (offers_of (kinds_of c.args.locals.now) (body c.args.again.now.value))) (branch (stop c.args.counter c.args.done) (leaf vanish) no_branch)) j ks) c.in-Some-eq0.field-0-test) c.in-Some-eq0.ensures.come (from_same _ _ _ c.choose_turn.new.walk c.args.walk.now _ _ _ (λ ks. still_held ks c.choose_turn.new.walk c.args.walk.now c.choose_turn.ensures.constraints c.choose_turn.ensures.lasts c.choose_turn.ensures.scope (c.in-Some-eq0.ensures.goes _ refl ∙ sym c.requires.none)) (still _ _ _ _ _ _ _ _ _ (λ s s2 i. first_stays (count c.args.counter (suc c.args.done) (body c.args.again.now.value)) (leaf nothing) _ s s2 _ _ c.in_default.not-Vanish i) c.enter.ensures.walks))

pub counted_turn-returns-in_default-clause-arrives : goal.counted_turn-returns-in_default-clause-arrives
counted_turn-returns-in_default-clause-arrives g t c =
    λ whole most h. c.enter.ensures.arrives whole most (in_one_turn _ _ _ _ _ _ _ _ _ _ _ _ (ap (λ v. v.items) c.choose_turn.ensures.scope) (ap (λ v. v.items) c.choose_turn.ensures.raised) (c.in-Some-eq0.ensures.at (kinds_of c.args.locals.now) _ _ (at_turns _ _ _ _ _ _ _ _ (count c.args.counter (suc c.args.done) (body c.args.again.now.value)) (more c.args.counter c.args.done) (stop c.args.counter c.args.done) (offers_of (kinds_of c.args.locals.now) (body c.args.again.now.value)) h)) (count c.args.counter (suc c.args.done) (body c.args.again.now.value)) (more c.args.counter c.args.done) (stop c.args.counter c.args.done) (offers_of (kinds_of c.args.locals.now) (body c.args.again.now.value)) (c.in-Some-eq0.ensures.come ∙ ap (λ i. g.C.Chooser.come c.args.chooser.now ++ i ∷ []) c.in-Some-eq0.field-0-test) h)

pub counted_turn-returns-in-Some-eq1-clause-walks : goal.counted_turn-returns-in-Some-eq1-clause-walks
counted_turn-returns-in-Some-eq1-clause-walks g t c =
    taken_part (branch (more c.args.counter c.args.done) (with_leaves (in_turn (count c.args.counter (suc c.args.done) (body c.args.again.now.value))) (offers_of (kinds_of c.args.locals.now) (body c.args.again.now.value))) (branch (stop c.args.counter c.args.done) (leaf vanish) no_branch)) (leaf vanish) _ _ _ _ _ c.in-Some-eq1.field-0 _ _ (λ ks. ap (λ j. at_branch (branch (more c.args.counter c.args.done) (with_leaves (in_turn (count c.args.counter (suc c.args.done) (body c.args.again.now.value))) (offers_of (kinds_of c.args.locals.now) (body c.args.again.now.value))) (branch (stop c.args.counter c.args.done) (leaf vanish) no_branch)) j ks) c.in-Some-eq1.field-0-test) c.in-Some-eq1.ensures.come (from_same _ _ _ c.choose_turn.new.walk c.args.walk.now _ _ _ (λ ks. still_held ks c.choose_turn.new.walk c.args.walk.now c.choose_turn.ensures.constraints c.choose_turn.ensures.lasts c.choose_turn.ensures.scope (c.in-Some-eq1.ensures.goes _ refl ∙ sym c.requires.none)) (stays_there _ _ _ c.choose_turn.new.walk c.choose_turn.new.walk _ _ refl (λ ks o. vanishes _ _)))

pub counted_turn-returns-in-Some-eq1-clause-arrives : goal.counted_turn-returns-in-Some-eq1-clause-arrives
counted_turn-returns-in-Some-eq1-clause-arrives g t c =
    λ whole most h. c.in-Some-eq1.ensures.at (kinds_of c.args.locals.now) whole most (at_turns _ _ _ _ _ _ _ _ (count c.args.counter (suc c.args.done) (body c.args.again.now.value)) (more c.args.counter c.args.done) (stop c.args.counter c.args.done) (offers_of (kinds_of c.args.locals.now) (body c.args.again.now.value)) h)

pub counted_turn-returns-in-Some-clause-walks : goal.counted_turn-returns-in-Some-clause-walks
counted_turn-returns-in-Some-clause-walks g t c =
    taken_part (branch (more c.args.counter c.args.done) (with_leaves (in_turn (count c.args.counter (suc c.args.done) (body c.args.again.now.value))) (offers_of (kinds_of c.args.locals.now) (body c.args.again.now.value))) (branch (stop c.args.counter c.args.done) (leaf vanish) no_branch)) (leaf nothing) _ _ _ _ _ c.in-Some.field-0 _ _ (λ ks. beyond_two (more c.args.counter c.args.done) (stop c.args.counter c.args.done) (with_leaves (in_turn (count c.args.counter (suc c.args.done) (body c.args.again.now.value))) (offers_of (kinds_of c.args.locals.now) (body c.args.again.now.value))) (leaf vanish) _ ks c.in-Some.field-0-test.0.1 c.in-Some.field-0-test.1) c.in-Some.ensures.come (from_same _ _ _ c.choose_turn.new.walk c.args.walk.now _ _ _ (λ ks. still_held ks c.choose_turn.new.walk c.args.walk.now c.choose_turn.ensures.constraints c.choose_turn.ensures.lasts c.choose_turn.ensures.scope (c.in-Some.ensures.goes _ refl ∙ sym c.requires.none)) (stays_there _ _ _ c.choose_turn.new.walk c.choose_turn.new.walk _ _ refl (λ ks o. does_nothing _ _)))

pub counted_turn-returns-in-Some-clause-arrives : goal.counted_turn-returns-in-Some-clause-arrives
counted_turn-returns-in-Some-clause-arrives g t c =
    λ whole most h. c.in-Some.ensures.at (kinds_of c.args.locals.now) whole most (at_turns _ _ _ _ _ _ _ _ (count c.args.counter (suc c.args.done) (body c.args.again.now.value)) (more c.args.counter c.args.done) (stop c.args.counter c.args.done) (offers_of (kinds_of c.args.locals.now) (body c.args.again.now.value)) h)

pub turn-choose_side-requires-clause-asked : goal.turn-choose_side-requires-clause-asked
turn-choose_side-requires-clause-asked g t c =
    ((kinds_of c.args.locals.now), c.requires.underway.0, c.requires.underway.1, (in_this_turn _ _ _ _ _ _ _ _ (loop (body c.args.again.now.value)) (offers_of (kinds_of c.args.locals.now) (body c.args.again.now.value)) (leaf vanish) c.requires.underway.2))

pub turn-enter-requires : goal.turn-enter-requires
turn-enter-requires g t c κs within =
    (search rules, (within.0, (within.1, (c.requires.room, (body_counted c.args.again.now.value, (c.requires.tallied, (c.requires.weights, (c.requires.handlers, (c.requires.none, (c.requires.underway.0, c.requires.underway.1, (in_first_turn _ _ _ _ _ _ _ _ _ _ _ _ refl refl (c.in-Some-eq0.ensures.at (kinds_of c.args.locals.now) _ _ (in_this_turn _ _ _ _ _ _ _ _ (loop (body c.args.again.now.value)) (offers_of (kinds_of c.args.locals.now) (body c.args.again.now.value)) (leaf vanish) c.requires.underway.2)) (loop (body c.args.again.now.value)) (offers_of (kinds_of c.args.locals.now) (body c.args.again.now.value)) (leaf vanish) (c.in-Some-eq0.ensures.come ∙ ap (λ i. g.C.Chooser.come c.args.chooser.now ++ i ∷ []) c.in-Some-eq0.field-0-test) c.requires.underway.2)))))))))))

pub turn-returns-in-None-clause-walks : goal.turn-returns-in-None-clause-walks
turn-returns-in-None-clause-walks g t c =
    stops_order (with_leaves (in_turn (loop (body c.args.again.now.value))) (offers_of (kinds_of c.args.locals.now) (body c.args.again.now.value))) (leaf vanish) _ _ _ _ c.in-None.ensures.come

pub turn-returns-in-None-clause-arrives : goal.turn-returns-in-None-clause-arrives
turn-returns-in-None-clause-arrives g t c =
    λ whole most h. c.in-None.ensures.at (kinds_of c.args.locals.now) whole most (in_this_turn _ _ _ _ _ _ _ _ (loop (body c.args.again.now.value)) (offers_of (kinds_of c.args.locals.now) (body c.args.again.now.value)) (leaf vanish) h)

pub turn-returns-in-Vanish-clause-walks : goal.turn-returns-in-Vanish-clause-walks
turn-returns-in-Vanish-clause-walks g t c =
    taken_first (with_leaves (in_turn (loop (body c.args.again.now.value))) (offers_of (kinds_of c.args.locals.now) (body c.args.again.now.value))) (leaf vanish) _ _ _ _ _ c.in-Some-eq0.field-0 _ _ c.in-Some-eq0.field-0-test c.in-Some-eq0.ensures.come (turn_is_none (loop (body c.args.again.now.value)) _ _ _ _ _ _ _ c.in-Vanish.ensures.walks)

pub turn-returns-in-Vanish-clause-arrives : goal.turn-returns-in-Vanish-clause-arrives
turn-returns-in-Vanish-clause-arrives g t c =
    λ whole most h. c.in-Vanish.ensures.arrives whole most (in_first_turn _ _ _ _ _ _ _ _ _ _ _ _ refl refl (c.in-Some-eq0.ensures.at (kinds_of c.args.locals.now) _ _ (in_this_turn _ _ _ _ _ _ _ _ (loop (body c.args.again.now.value)) (offers_of (kinds_of c.args.locals.now) (body c.args.again.now.value)) (leaf vanish) h)) (loop (body c.args.again.now.value)) (offers_of (kinds_of c.args.locals.now) (body c.args.again.now.value)) (leaf vanish) (c.in-Some-eq0.ensures.come ∙ ap (λ i. g.C.Chooser.come c.args.chooser.now ++ i ∷ []) c.in-Some-eq0.field-0-test) h)

pub turn-returns-in_default-clause-walks : goal.turn-returns-in_default-clause-walks
turn-returns-in_default-clause-walks g t c =
    taken_first (with_leaves (in_turn (loop (body c.args.again.now.value))) (offers_of (kinds_of c.args.locals.now) (body c.args.again.now.value))) (leaf vanish) _ _ _ _ _ c.in-Some-eq0.field-0 _ _ c.in-Some-eq0.field-0-test c.in-Some-eq0.ensures.come (still _ _ _ _ _ _ _ _ _ (λ s s2 i. first_stays (loop (body c.args.again.now.value)) (leaf nothing) _ s s2 _ _ c.in_default.not-Vanish i) c.enter.ensures.walks)

pub turn-returns-in_default-clause-arrives : goal.turn-returns-in_default-clause-arrives
turn-returns-in_default-clause-arrives g t c =
    λ whole most h. c.enter.ensures.arrives whole most (in_first_turn _ _ _ _ _ _ _ _ _ _ _ _ refl refl (c.in-Some-eq0.ensures.at (kinds_of c.args.locals.now) _ _ (in_this_turn _ _ _ _ _ _ _ _ (loop (body c.args.again.now.value)) (offers_of (kinds_of c.args.locals.now) (body c.args.again.now.value)) (leaf vanish) h)) (loop (body c.args.again.now.value)) (offers_of (kinds_of c.args.locals.now) (body c.args.again.now.value)) (leaf vanish) (c.in-Some-eq0.ensures.come ∙ ap (λ i. g.C.Chooser.come c.args.chooser.now ++ i ∷ []) c.in-Some-eq0.field-0-test) h)

pub turn-returns-in-Some-clause-walks : goal.turn-returns-in-Some-clause-walks
turn-returns-in-Some-clause-walks g t c =
    taken_second (with_leaves (in_turn (loop (body c.args.again.now.value))) (offers_of (kinds_of c.args.locals.now) (body c.args.again.now.value))) (leaf vanish) _ _ _ _ _ c.in-Some.field-0 _ _ c.in-Some.field-0-test.1 c.in-Some.ensures.come (stays_there _ _ _ _ _ _ _ refl (λ ks o. vanishes _ _))

pub turn-returns-in-Some-clause-arrives : goal.turn-returns-in-Some-clause-arrives
turn-returns-in-Some-clause-arrives g t c =
    λ whole most h. c.in-Some.ensures.at (kinds_of c.args.locals.now) whole most (in_this_turn _ _ _ _ _ _ _ _ (loop (body c.args.again.now.value)) (offers_of (kinds_of c.args.locals.now) (body c.args.again.now.value)) (leaf vanish) h)
