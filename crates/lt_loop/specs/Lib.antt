-- what a core must know of a scenario
pub mod Scene
pub mod SceneView
-- what it must know of a machine
pub mod Machine
-- where the inputs of a scenario come from
pub mod InputSource
-- what a run is told, and the texts that it puts out
pub mod Plan
-- a run over two whole streams
pub mod Play
-- one side of a run
pub mod Side
-- where a core stands, and what it will put out
pub mod CoreState
pub mod CoreView
-- what a core is told, and what it answers
pub mod Event
-- what each event does that it waits for
pub mod Progress
-- what it reads and keeps of both sides, and how much it may still do
pub mod Kept
pub mod Work
-- what holds of a core in each of its phases
pub mod Stands
-- whole runs, streams that grow, and streams that have ended
pub mod Run
pub mod Growing
pub mod Ending
-- the instants to which runs come, and runs in which one is given up
pub mod Places
pub mod GivingUp
-- the pieces of each instant
pub mod Instants
-- replies that fit their slots
pub mod Fits
-- codes by which readings are told apart
pub mod Codes
-- the view of a writer
pub mod WriterView
-- words of private contracts
pub mod inner
