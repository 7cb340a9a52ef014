-- What the proofs of other crates may cite of this one.
-- what stands where a draw is, in the tree in which it goes, by what a walk has found there or asks
pub use Rattle.lt_marks_laws.proofs.Meetings.{choice_met, fault_met, leaf_met, order_met}
-- the weights of a choice in it
pub use Rattle.lt_marks_laws.proofs.Numbers.{weights_are}
