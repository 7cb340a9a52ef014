-- What the proofs of other crates may cite of this one.
-- the terms and the trees that marks mean
pub use Rattle.lt_marks.proofs.Terms.{any_new, any_offers, assert_offers, begun_is, catch_offers, con_begun, con_over, count_new, count_offers, exist_offers, loop_new, loop_offers, par_offers, plain, pri_new, pri_offers, seq_offers, try_offers, try_over}
-- what stands at a path where leaves are replaced
pub use Rattle.lt_marks.proofs.Walks.{at_path-with_leaves, at_path-with_local, branch_of}
-- walks in the trees of terms, by those in the trees of their parts
pub use Rattle.lt_marks.proofs.Walks.{asserts, both_go, chooses, does_nothing, exists, first_goes, first_leads, first_stays, first_stops, goes_first, goes_second, handled, meets, not_handled, not_raised, on, raises, second_stops, side_leads, stops, tries, turn_is_none, vanishes, weighs, weights_are}
-- room for a walk in a part
pub use Rattle.lt_marks.proofs.Rooms.{beyond_two, nodes_positive, room_at_start, room_met, room_opened, room_same}
-- turns that are done, and what a walk leaves as it is
pub use Rattle.lt_marks.proofs.Stills.{tallied_still}
-- what is known of the extents that nodes keep
pub use Rattle.lt_marks.proofs.Tallies.{count_raises, kept_raised, loop_raises, over_kinds, parts_of, raised_over, same_tally}
-- turns that are done in parts
pub use Rattle.lt_marks.proofs.Counts.{assert_part, bodies_counted, body_counted, exist_part, part_counted}
