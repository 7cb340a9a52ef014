-- A reader of what a campaign does goes from here to Campaign.
-- many runs, side by side: what comes of a campaign
pub mod Campaign
-- a run, event by event
pub mod Run
-- a session: how it is started, what it does in a round, how it is closed
pub mod Session
-- rounds, and the text that they write
pub mod Rounds
-- the runs and sessions of the code
pub mod RunView
-- what the code tells of a session that didn't end well
pub mod EndView
-- how many steps a session may have put out
pub mod Few
-- each run is driven as one that is alone
pub mod Alone
-- what is blamed has a cause
pub mod Cause
-- what each session has for the trace, apart from the others
pub mod Parts
-- what sessions come to whose links tell what they have left
pub mod Whole
-- words of private contracts
pub mod inner
