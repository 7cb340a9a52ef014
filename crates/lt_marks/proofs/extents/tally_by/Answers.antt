use Rattle.std.proofs.Common.{◌≡◌, true, false, refl, ap, sym, ◌∙◌, subst}
use Rattle.lt_tree_size.proofs.Public.{assert_row, exist_row, try_row}
use Rattle.lt_term.specs.Offers.{offers_of, start_of}
use Rattle.lt_marks.specs.Marks.{count_at, last_of, loop_at}
use Rattle.lt_marks.specs.Over.{is_over}
use Rattle.lt_marks.specs.Tallied.{IsRaisedBy, IsRaisedWhile, IsWhole, extent_of}
use Rattle.lt_marks.specs.View.{begun, body, standing}
use Rattle.lt_marks.proofs.Tallies.{found_raised, inside_stands, over_kinds, same_tally}
use Rattle.lt_marks.proofs.Terms.{assert_offers, begun_is, catch_offers, con_begun, count_new, count_offers, exist_offers, loop_new, loop_offers, par_offers, pri_offers, seq_offers, try_offers}
use Rattle.lt_marks.proofs.extents.tally_by.Goals as goal
use Rattle.lt_marks.proofs.extents.tally_by.Goals.{else-not-is_new-via-then-not-is_new+else-is_over, else-not-is_new-via-else-not-is_new}

pub returns-in_default : goal.returns-in_default
returns-in_default c =
    over_kinds _ _ (begun c.args.is_fresh c.args.track.now) (λ k. ap (offers_of k) (con_begun c.args.is_fresh c.args.track.now c.in-Con.marks.at c.standing.result c.in-Con.field-1 c.standing.ensures (ap standing c.in-Con.is) (ap body c.in-Con.is) c.in_default.not-Over)) (λ k. c.one_go.ensures _ _ _)

pub returns-in_default-standing : goal.returns-in_default-standing
returns-in_default-standing c =
    over_kinds _ _ (begun c.args.is_fresh c.args.track.now) (λ k. seq_offers k c.args.is_fresh c.args.track.now c.in-Seq.marks.at c.standing-in-Seq.result c.is_new.result c.standing-in-Seq.ensures c.in-Seq.first.value c.in-Seq.second.value (ap standing c.in-Seq.is) (ap body c.in-Seq.is) c.in_default-standing.not-Second c.is_new.ensures)
    (λ k. c.followed.ensures _ _ _ (c.part_tally-in_default-standing.ensures k) (c.part_tally-in_default-standing-2.ensures k))

pub returns-in-Inside : goal.returns-in-Inside
returns-in-Inside c =
    let stands : c.args.is_fresh ≡ false = inside_stands c.args.is_fresh c.in-Loop.marks.at c.in-Inside.ensures in
    let whole = subst (λ t. IsWhole (extent_of true t) (body t)) c.in-Loop.is (c.requires.whole stands) in
    over_kinds _ _ (begun c.args.is_fresh c.args.track.now) (λ k. loop_offers k c.args.is_fresh c.args.track.now c.in-Loop.marks.at c.in-Loop.body.value c.in-Inside.ensures (ap standing c.in-Loop.is) (ap body c.in-Loop.is))
    (λ k. c.followed-in-Inside.ensures _ _ _ (c.part_tally-in-Inside.ensures k) (whole.0 k))

pub returns-in_default-standing-2 : goal.returns-in_default-standing-2
returns-in_default-standing-2 c =
    over_kinds _ _ (begun c.args.is_fresh c.args.track.now) (λ k. ap (offers_of k) (begun_is c.args.is_fresh c.args.track.now c.in-Loop.marks.at c.standing-in-Loop.result (λ l. loop_at l (body c.in-Loop.body.value) (standing c.in-Loop.body.value)) c.standing-in-Loop.ensures (ap standing c.in-Loop.is) (ap body c.in-Loop.is) ∙ loop_new k c.standing-in-Loop.result (body c.in-Loop.body.value) (standing c.in-Loop.body.value) c.in_default-standing-2.not-Inside)) (λ k. c.loop_tally.ensures k)

pub returns-in-Counted : goal.returns-in-Counted
returns-in-Counted c =
    over_kinds _ _ (begun c.args.is_fresh c.args.track.now) (λ k. count_offers k c.args.is_fresh c.args.track.now c.in-Count.marks.at c.in-Count.field-1 c.in-Counted.field-0 c.in-Count.body.value c.in-Counted.ensures (ap standing c.in-Count.is) (ap body c.in-Count.is))
    (λ k. c.followed-in-Counted.ensures _ _ _ (c.part_tally-in-Counted.ensures k) (c.count_tally.ensures c.in-Count.field-1 c.in-Counted.field-0 k))

pub returns-in_default-standing-3 : goal.returns-in_default-standing-3
returns-in_default-standing-3 c =
    over_kinds _ _ (begun c.args.is_fresh c.args.track.now) (λ k. ap (offers_of k) (begun_is c.args.is_fresh c.args.track.now c.in-Count.marks.at c.standing-in-Count.result (λ l. count_at l c.in-Count.field-1 (body c.in-Count.body.value) (standing c.in-Count.body.value)) c.standing-in-Count.ensures (ap standing c.in-Count.is) (ap body c.in-Count.is) ∙ count_new k c.standing-in-Count.result c.in-Count.field-1 (body c.in-Count.body.value) (standing c.in-Count.body.value) c.in_default-standing-3.not-Counted)) (λ k. c.count_tally-in_default-standing-3.ensures c.in-Count.field-1 0 k)

pub returns-in_default-standing-5 : goal.returns-in_default-standing-5
returns-in_default-standing-5 c =
    over_kinds _ _ (begun c.args.is_fresh c.args.track.now) (λ k. pri_offers k c.args.is_fresh c.args.track.now c.in-Pri.marks.at c.standing-in-Pri.result c.in-Pri.first.value c.in-Pri.second.value c.standing-in-Pri.ensures (ap standing c.in-Pri.is) (ap body c.in-Pri.is) c.in_default-standing-5.not-Inside c.in_default-standing-5.not-Second)
    (λ k. c.either.ensures _ _ (c.part_tally-in_default-standing-5.ensures k) (c.part_tally-in_default-standing-5-2.ensures k))

pub returns-in_default-standing-6 : goal.returns-in_default-standing-6
returns-in_default-standing-6 c =
    over_kinds _ _ (begun c.args.is_fresh c.args.track.now) (λ k. par_offers k c.args.is_fresh c.args.track.now c.in-Par.marks.at c.standing-in-Par.result c.are_new-are_new.result c.standing-in-Par.ensures c.in-Par.first.value c.in-Par.second.value (ap standing c.in-Par.is) (ap body c.in-Par.is) c.in_default-standing-6.not-Inside c.in_default-standing-6.not-Second c.are_new-are_new.ensures)
    (λ k. c.beside.ensures _ _ (c.part_tally-in_default-standing-6.ensures k) (c.part_tally-in_default-standing-6-2.ensures k))

pub returns-in-Assert : goal.returns-in-Assert
returns-in-Assert c =
    over_kinds _ _ (begun c.args.is_fresh c.args.track.now) (λ k. assert_offers k c.args.is_fresh c.args.track.now c.in-Assert.marks.at c.standing-in-Assert.result c.is_new-in-Assert.result c.standing-in-Assert.ensures c.in-Assert.field-1 c.in-Assert.body.value (ap standing c.in-Assert.is) (ap body c.in-Assert.is) c.is_new-in-Assert.ensures)
    (λ k. same_tally _ _ _ _ (assert_row c.in-Assert.field-1 _) (c.part_tally-in-Assert.ensures k))

pub returns-in-Exist : goal.returns-in-Exist
returns-in-Exist c =
    over_kinds _ _ (begun c.args.is_fresh c.args.track.now) (λ k. exist_offers k c.args.is_fresh c.args.track.now c.in-Exist.marks.at c.standing-in-Exist.result c.is_outside.result c.standing-in-Exist.ensures c.in-Exist.field-1 (last_of c.standing-in-Exist.result) c.in-Exist.body.value (ap standing c.in-Exist.is) (ap body c.in-Exist.is) c.is_outside.ensures refl)
    (λ k. same_tally _ _ _ _ (exist_row (start_of k c.in-Exist.field-1) c.in-Exist.field-1 (last_of c.standing-in-Exist.result) _) (c.part_tally-in-Exist.ensures k))

pub returns-in_default-standing-7 : goal.returns-in_default-standing-7
returns-in_default-standing-7 c =
    let r : IsRaisedBy c.args.raised c.in-Catch.field-1 (begun c.is_new-in_default-standing-7.result c.in-Catch.body.value) =
    found_raised c.args.is_fresh c.in-Catch.marks.at c.args.raised c.in-Catch.field-1 c.in-Catch.body.value c.standing-in-Catch.result c.is_new-in_default-standing-7.result c.standing-in-Catch.ensures c.is_new-in_default-standing-7.ensures c.in_default-standing-7.not-Second
    (subst (IsRaisedWhile c.args.is_fresh c.args.raised) c.in-Catch.is c.requires.raised) in
    over_kinds _ _ (begun c.args.is_fresh c.args.track.now) (λ k. catch_offers k c.args.is_fresh c.args.track.now c.in-Catch.marks.at c.standing-in-Catch.result c.is_new-in_default-standing-7.result c.standing-in-Catch.ensures c.in-Catch.field-1 c.in-Catch.body.value c.in-Catch.otherwise.value (ap standing c.in-Catch.is) (ap body c.in-Catch.is) c.in_default-standing-7.not-Second c.is_new-in_default-standing-7.ensures)
    (λ k. c.caught.ensures _ _ _ _ (c.part_tally-part.ensures k) (r k) (c.part_tally-in_default-standing-7.ensures k))

pub returns-else-not-is_new : goal.returns-else-not-is_new
returns-else-not-is_new c =
    let o : c.is_new-is_new.result ≡ false → is_over (standing c.in-Try.body.value) ≡ false =
    elim c.else-not-is_new.branch [
      | else-not-is_new-via-then-not-is_new+else-is_over w ↦ λ e. ap (λ u. is_over (standing u)) (sym w.deref.ensures) ∙ sym w.is_over.ensures ∙ w.if-is_over.false
      | else-not-is_new-via-else-not-is_new w ↦ λ e. absurd (let g : true ≡ false = sym w.if-not-is_new.false ∙ e in cc)
    ] in
    over_kinds _ _ (begun c.args.is_fresh c.args.track.now) (λ k. try_offers k c.args.is_fresh c.args.track.now c.in-Try.marks.at c.standing-in-Try.result c.is_new-is_new.result c.standing-in-Try.ensures c.in-Try.body.value c.in-Try.otherwise.value (ap standing c.in-Try.is) (ap body c.in-Try.is) c.in_default-standing-8.not-Second c.is_new-is_new.ensures o)
    (λ k. c.either-in_default-standing-8.ensures _ _ (same_tally _ _ _ _ (try_row (body c.in-Try.otherwise.value) _) (c.part_tally-in_default-standing-8.ensures k)) (c.part_tally-in_default-standing-8-2.ensures k))
