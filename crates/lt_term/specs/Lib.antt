-- Terms as contracts see them.
pub mod Process
-- A scenario as contracts see it.
pub mod Scene
-- How large a scenario and the tree of an instant may be.
pub mod Limits
-- Whether a value may be one of a variable.
pub mod Fitting
-- The parts of a term, and what of them is told once for all.
pub mod Subterms
-- Terms whose numbers are those of a scenario.
pub mod Within
-- Where locals are named.
pub mod Scope
-- The expressions that a term names, and their parts.
pub mod Named
-- Where an expression depends on what is drawn in the same instant and may not.
pub mod Classes
-- How deep terms and expressions are.
pub mod Depth
-- When an expression is well typed.
pub mod WellTyped
-- When all expressions of a term are.
pub mod TypedTerm
-- What a scenario keeps of its table and its body.
pub mod Valid
-- How many turns of counted loops are done.
pub mod Counted
-- Counted loops turn at most once in an instant.
pub mod Turns
-- Trees of what can be done in one instant.
pub mod Tree
-- What comes after an instant.
pub mod Next
-- What a term offers in one instant.
pub mod Offers
-- What rules make of the nodes of a tree, one by one.
pub mod Replaced
-- Trees with other constraints, and trees whose numbers pass a test.
pub mod Mapped
-- The last values of locals after an instant.
pub mod Advanced
-- Trees whose constraints and weights are evaluated.
pub mod Evaluated
-- Which leaves of an evaluated tree are live, and which of them an instant may take.
pub mod Live
-- Where a run stands between two instants, and what is known when the next one begins.
pub mod Configuration
-- What terms of the code stand for.
pub mod View
-- What trees of the code stand for.
pub mod TreeView
-- The scene that a scenario of the code stands for.
pub mod SceneView
-- How many nodes the tree of a term has, without the tree.
pub mod Size
-- The tree of a part of a term under the rules of the terms round it.
pub mod Unfolded
-- What rules and instants by number stand for.
pub mod UnfoldedView
-- What is unfolded.
pub mod UnfoldingView
-- Words of private contracts.
pub mod inner
