-- Words of the private functions alone.
-- which leaves are wanted, as a test
pub mod Wanted
-- what the code seeks
pub mod SoughtView
-- what may be sought in a scenario
pub mod Fitting
-- whether what a step shows are points of ranges
pub mod ShownPoints
-- points
pub mod Point
-- what a search of a leaf finds
pub mod Searches
-- what loads and searches
pub mod SearcherView
-- what is seen of the nodes of a tree
pub mod Seen
-- the same of the code's trees
pub mod SeenOf
-- the shapes of trees
pub mod Shaped
-- what a term of the code offers
pub mod Offered
-- what is found in a tree
pub mod Finding
-- what a look tells
pub mod AskingView
pub mod LookView
-- members of lists
pub mod Members
-- values of the kinds of their variables
pub mod Kinded
-- the terms of what some steps reach
pub mod Reached
-- sets of terms
pub mod Terms
-- the terms of keys
pub mod TermSet
-- the terms that follow a term by a step
pub mod Followers
-- whether there is something
pub mod Some
-- what is known between two steps
pub mod MomentView
-- how far a check is
pub mod ProgressView
-- what is found in trees as they are visited
pub mod Visited
-- what is told of constraints
pub mod MemoView
-- choices of what is unfolded
pub mod ChoiceView
-- what is asked of what terms offer
pub mod QuestionView
-- what is asked
pub mod JudgeView
-- whether weights have no fault
pub mod Weighed
-- the trees of choices
pub mod ChoiceTree
-- how far a search for instants is
pub mod FinderView
-- which constraints hold of a step
pub mod MomentHolds
-- tasks
pub mod TaskView
