-- words, and what they are outside comments
pub mod Word
-- the raw numbers that words write
pub mod Number
-- what a word is in a slot
pub mod Judgement
-- replies on a whole stream
pub mod Reply
-- the view of a reply that has begun
pub mod View
-- what a reader has read, and what its answers tell
pub mod Reading
-- how replies may be written
pub mod Spelling
-- steps that are read back
pub mod ReadBack
-- replies of streams that are cut, and that grow
pub mod Cutting
pub mod Growing
-- the text of a trace
pub mod Trace
-- the line of a step's number
pub mod Numbering
-- room in which texts are written
pub mod Room
pub mod Enough
-- words of private contracts
pub mod inner
