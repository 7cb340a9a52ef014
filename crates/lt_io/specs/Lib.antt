-- What clauses say of a count of faults, and of what is told only in part.
pub mod Causes
-- What files, a sink, a link and the programs that may be started tell of themselves, and what calls make of it.
pub mod Files
pub mod Sink
pub mod Link
pub mod Programs
-- What is outside at one moment.
pub mod Outside
-- The calls of an object in memory: which is to fail, and how they are counted.
pub mod Calls
-- Files in memory: their contents by name, and where a call fails.
pub mod MemFiles
-- The pieces in which an object in memory gives or takes bytes.
pub mod Cuts
-- A sink in memory: what clauses see of it, and where a call fails.
pub mod SinkState
-- Texts that were written or sent in part.
pub mod Sending
-- Texts that are written together.
pub mod Gathering
-- A link in memory: what clauses see of it, how long a piece is, and where sending fails.
pub mod ScriptState
-- The two pipes of a program: what is left of them.
pub mod Pipes
-- The words of a command.
pub mod Command
-- A spawner in memory: the links of a command, and where a call fails.
pub mod MemSpawner
