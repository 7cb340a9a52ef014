-- What the proofs of other crates may cite of this one.
-- two tests that both hold
pub use Rattle.lt_term.proofs.Tests.{both, left_of, right_of}
-- the parts of a weighted choice, as the list that the code has
pub use Rattle.lt_term.proofs.Views.{process_any}
-- the nodes that a term offers, with other constraints
pub use Rattle.lt_term.proofs.Natural.{nodes_natural}
-- what an unfolding keeps as it grows
pub use Rattle.lt_term.proofs.Unfoldings.{grows_not, grows_twice, instant-kept, parts-kept, scope-kept, tree-kept, within-kept}
-- the weights of a choice stay under rules
pub use Rattle.lt_term.proofs.UnfoldingLaws.{weights-each_under}
