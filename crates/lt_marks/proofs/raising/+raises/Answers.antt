use Rattle.std.proofs.Common.{◌≡◌, suc, [], true, false, refl, ap, sym, ◌∙◌, subst}
use Rattle.lt_tree_size.proofs.Public.{assert_row, exist_row, try_row}
use Rattle.lt_tree_size.specs.TallyView.{IsRaised}
use Rattle.lt_term.specs.Offers.{in_try, offers_of, offers_of_each, start_of}
use Rattle.lt_term.specs.Process.{count, loop}
use Rattle.lt_term.specs.Size.{capped}
use Rattle.lt_term.specs.Tree.{expression, more, stop, weighted, with_leaves}
use Rattle.lt_marks.specs.Marks.{count_at, last_of, loop_at}
use Rattle.lt_marks.specs.Over.{is_over}
use Rattle.lt_marks.specs.Tallied.{IsRaisedBy, IsTallied, extent_in}
use Rattle.lt_marks.specs.View.{begun, body, choices_of, standing}
use Rattle.lt_marks.proofs.Tallies.{count_raises, kept_raised, loop_raises, raised_over}
use Rattle.lt_marks.proofs.Terms.{assert_offers, begun_is, catch_offers, count_new, count_offers, exist_offers, loop_new, loop_offers, par_offers, seq_offers, try_offers}
use Rattle.lt_marks.proofs.raising.+raises.Goals as goal
use Rattle.lt_marks.proofs.raising.+raises.Goals.{raises-else-not-is_new-via-then-not-is_new+else-is_over, raises-else-not-is_new-via-else-not-is_new}

pub raises-returns-in_default-clause-is : goal.raises-returns-in_default-clause-is
raises-returns-in_default-clause-is t c =
    raised_over c.raised_in_turn.result c.args.exception _ (begun c.args.is_fresh c.args.track.now) (λ k. seq_offers k c.args.is_fresh c.args.track.now c.in-Seq.marks.at c.standing.result c.is_new-is_new.result c.standing.ensures c.in-Seq.first.value c.in-Seq.second.value (ap standing c.in-Seq.is) (ap body c.in-Seq.is) c.in_default.not-Second c.is_new-is_new.ensures)
    (λ k. c.raised_in_turn.ensures.is _ _ _ _ (c.part_tally.ensures k) (c.part_raises-raised.ensures.is k) (c.part_raises-in_default.ensures.is k))

pub raises-returns-in-Inside-clause-is : goal.raises-returns-in-Inside-clause-is
raises-returns-in-Inside-clause-is t c =
    raised_over c.raised_in_turn-in-Inside.result c.args.exception _ (begun c.args.is_fresh c.args.track.now) (λ k. loop_offers k c.args.is_fresh c.args.track.now c.in-Loop.marks.at c.in-Loop.body.value c.in-Inside.ensures (ap standing c.in-Loop.is) (ap body c.in-Loop.is))
    (λ k. c.raised_in_turn-in-Inside.ensures.is _ _ _ _ (c.part_tally-in-Inside.ensures k) (c.part_raises-raised-in-Inside.ensures.is k) (c.part_raises-in-Inside.ensures.is k ∙ ap capped (sym (loop_raises c.args.exception (loop (body c.in-Loop.body.value)) (offers_of k (body c.in-Loop.body.value))))))

pub raises-returns-in_default-standing-clause-is : goal.raises-returns-in_default-standing-clause-is
raises-returns-in_default-standing-clause-is t c =
    raised_over c.part_raises-in_default-standing.result c.args.exception _ (begun c.args.is_fresh c.args.track.now) (λ k. ap (offers_of k) (begun_is c.args.is_fresh c.args.track.now c.in-Loop.marks.at c.standing-in-Loop.result (λ l. loop_at l (body c.in-Loop.body.value) (standing c.in-Loop.body.value)) c.standing-in-Loop.ensures (ap standing c.in-Loop.is) (ap body c.in-Loop.is) ∙ loop_new k c.standing-in-Loop.result (body c.in-Loop.body.value) (standing c.in-Loop.body.value) c.in_default-standing.not-Inside))
    (λ k. c.part_raises-in_default-standing.ensures.is k ∙ ap capped (sym (loop_raises c.args.exception (loop (body c.in-Loop.body.value)) (offers_of k (body c.in-Loop.body.value)))))

pub raises-returns-in-Counted-clause-is : goal.raises-returns-in-Counted-clause-is
raises-returns-in-Counted-clause-is t c =
    raised_over c.raised_in_turn-in-Counted.result c.args.exception _ (begun c.args.is_fresh c.args.track.now) (λ k. count_offers k c.args.is_fresh c.args.track.now c.in-Count.marks.at c.in-Count.field-1 c.in-Counted.field-0 c.in-Count.body.value c.in-Counted.ensures (ap standing c.in-Count.is) (ap body c.in-Count.is))
    (λ k. c.raised_in_turn-in-Counted.ensures.is _ _ _ _ (c.part_tally-in-Counted.ensures k) (c.part_raises-raised-in-Counted.ensures.is k) (c.part_raises-in-Counted.ensures.is k ∙ ap capped (sym (count_raises c.args.exception (count c.in-Count.field-1 (suc c.in-Counted.field-0) (body c.in-Count.body.value)) (more c.in-Count.field-1 c.in-Counted.field-0) (stop c.in-Count.field-1 c.in-Counted.field-0) (offers_of k (body c.in-Count.body.value))))))

pub raises-returns-in_default-standing-2-clause-is : goal.raises-returns-in_default-standing-2-clause-is
raises-returns-in_default-standing-2-clause-is t c =
    raised_over c.part_raises-in_default-standing-2.result c.args.exception _ (begun c.args.is_fresh c.args.track.now) (λ k. ap (offers_of k) (begun_is c.args.is_fresh c.args.track.now c.in-Count.marks.at c.standing-in-Count.result (λ l. count_at l c.in-Count.field-1 (body c.in-Count.body.value) (standing c.in-Count.body.value)) c.standing-in-Count.ensures (ap standing c.in-Count.is) (ap body c.in-Count.is) ∙ count_new k c.standing-in-Count.result c.in-Count.field-1 (body c.in-Count.body.value) (standing c.in-Count.body.value) c.in_default-standing-2.not-Counted))
    (λ k. c.part_raises-in_default-standing-2.ensures.is k ∙ ap capped (sym (count_raises c.args.exception (count c.in-Count.field-1 (suc 0) (body c.in-Count.body.value)) (more c.in-Count.field-1 0) (stop c.in-Count.field-1 0) (offers_of k (body c.in-Count.body.value)))))

pub raises-returns-in_default-standing-5-clause-is : goal.raises-returns-in_default-standing-5-clause-is
raises-returns-in_default-standing-5-clause-is t c =
    raised_over c.raised_beside.result c.args.exception _ (begun c.args.is_fresh c.args.track.now) (λ k. par_offers k c.args.is_fresh c.args.track.now c.in-Par.marks.at c.standing-in-Par.result c.are_new-are_new.result c.standing-in-Par.ensures c.in-Par.first.value c.in-Par.second.value (ap standing c.in-Par.is) (ap body c.in-Par.is) c.in_default-standing-5.not-Inside c.in_default-standing-5.not-Second c.are_new-are_new.ensures)
    (λ k. c.raised_beside.ensures.is _ _ _ (c.part_tally-in_default-standing-5.ensures k) (c.part_raises-raised-in_default-standing-5.ensures.is k) (c.part_raises-in_default-standing-5.ensures.is k))

pub raises-returns-in-Assert-clause-is : goal.raises-returns-in-Assert-clause-is
raises-returns-in-Assert-clause-is t c =
    raised_over c.part_raises-in-Assert.result c.args.exception _ (begun c.args.is_fresh c.args.track.now) (λ k. assert_offers k c.args.is_fresh c.args.track.now c.in-Assert.marks.at c.standing-in-Assert.result c.is_new.result c.standing-in-Assert.ensures c.in-Assert.field-1 c.in-Assert.body.value (ap standing c.in-Assert.is) (ap body c.in-Assert.is) c.is_new.ensures)
    (λ k. c.part_raises-in-Assert.ensures.is k ∙ ap capped (sym ((assert_row c.in-Assert.field-1 (offers_of k (begun c.is_new.result c.in-Assert.body.value))).raises_are c.args.exception)))

pub raises-returns-in-Exist-clause-is : goal.raises-returns-in-Exist-clause-is
raises-returns-in-Exist-clause-is t c =
    raised_over c.part_raises-in-Exist.result c.args.exception _ (begun c.args.is_fresh c.args.track.now) (λ k. exist_offers k c.args.is_fresh c.args.track.now c.in-Exist.marks.at c.standing-in-Exist.result c.is_outside.result c.standing-in-Exist.ensures c.in-Exist.field-1 (last_of c.standing-in-Exist.result) c.in-Exist.body.value (ap standing c.in-Exist.is) (ap body c.in-Exist.is) c.is_outside.ensures refl)
    (λ k. c.part_raises-in-Exist.ensures.is k ∙ ap capped (sym ((exist_row (start_of k c.in-Exist.field-1) c.in-Exist.field-1 (last_of c.standing-in-Exist.result) (offers_of k (begun c.is_outside.result c.in-Exist.body.value))).raises_are c.args.exception)))

pub raises-returns-in_default-standing-6-clause-is : goal.raises-returns-in_default-standing-6-clause-is
raises-returns-in_default-standing-6-clause-is t c =
    let h = subst IsTallied c.in-Catch.is c.requires in
    let r : IsRaisedBy (extent_in c.args.is_fresh c.in-Catch.marks).raised c.in-Catch.handled (begun c.is_new-in_default-standing-6.result c.in-Catch.body.value) =
    kept_raised c.args.is_fresh c.in-Catch.marks c.in-Catch.handled c.in-Catch.body.value c.standing-in-Catch.result c.is_new-in_default-standing-6.result c.standing-in-Catch.ensures c.is_new-in_default-standing-6.ensures c.in_default-standing-6.not-Second h.0.1 h.1.1 in
    raised_over c.raised_past.result c.args.exception _ (begun c.args.is_fresh c.args.track.now) (λ k. catch_offers k c.args.is_fresh c.args.track.now c.in-Catch.marks.at c.standing-in-Catch.result c.is_new-in_default-standing-6.result c.standing-in-Catch.ensures c.in-Catch.handled c.in-Catch.body.value c.in-Catch.otherwise.value (ap standing c.in-Catch.is) (ap body c.in-Catch.is) c.in_default-standing-6.not-Second c.is_new-in_default-standing-6.ensures)
    (λ k. c.raised_past.ensures.is c.args.exception c.in-Catch.handled (body c.in-Catch.otherwise.value) (offers_of k (body c.in-Catch.otherwise.value)) (offers_of k (begun c.is_new-in_default-standing-6.result c.in-Catch.body.value)) refl (c.part_raises-raised-in_default-standing-6.ensures.is k) (ap (λ x. x.raised) c.extent.ensures ∙ r k) (c.part_raises-in_default-standing-6.ensures.is k))

pub raises-returns-else-not-is_new-clause-is : goal.raises-returns-else-not-is_new-clause-is
raises-returns-else-not-is_new-clause-is t c =
    let o : c.is_new-is_new-in_default-standing-7.result ≡ false → is_over (standing c.in-Try.body.value) ≡ false =
    elim c.else-not-is_new.branch [
      | raises-else-not-is_new-via-then-not-is_new+else-is_over w ↦ λ e. ap (λ u. is_over (standing u)) (sym w.deref.ensures) ∙ sym w.is_over.ensures ∙ w.if-is_over.false
      | raises-else-not-is_new-via-else-not-is_new w ↦ λ e. absurd (let g : true ≡ false = sym w.if-not-is_new.false ∙ e in cc)
    ] in
    raised_over c.raised_in_either-in_default-standing-7.result c.args.exception _ (begun c.args.is_fresh c.args.track.now) (λ k. try_offers k c.args.is_fresh c.args.track.now c.in-Try.marks.at c.standing-in-Try.result c.is_new-is_new-in_default-standing-7.result c.standing-in-Try.ensures c.in-Try.body.value c.in-Try.otherwise.value (ap standing c.in-Try.is) (ap body c.in-Try.is) c.in_default-standing-7.not-Second c.is_new-is_new-in_default-standing-7.ensures o)
    (λ k. c.raised_in_either-in_default-standing-7.ensures.two c.args.exception (with_leaves (in_try (body c.in-Try.otherwise.value)) (offers_of k (begun c.is_new-is_new-in_default-standing-7.result c.in-Try.body.value))) (offers_of k (body c.in-Try.otherwise.value)) (c.part_raises-raised-in_default-standing-7.ensures.is k ∙ ap capped (sym ((try_row (body c.in-Try.otherwise.value) (offers_of k (begun c.is_new-is_new-in_default-standing-7.result c.in-Try.body.value))).raises_are c.args.exception))) (c.part_raises-in_default-standing-7.ensures.is k))

pub raises_among-returns-in-Part-clause-is : goal.raises_among-returns-in-Part-clause-is
raises_among-returns-in-Part-clause-is t c =
    λ k. subst (λ u. IsRaised c.raised_in_either.result c.args.exception (weighted [] (offers_of_each k (choices_of u)))) (sym c.in-Part.is)
    (c.raised_in_either.ensures.more c.args.exception (expression c.in-Part.field-0) [] (offers_of k (body c.in-Part.part.value)) (offers_of_each k (choices_of c.in-Part.rest.value)) (c.part_raises-raised.ensures.is k) (c.choice_raises.ensures.is k))
