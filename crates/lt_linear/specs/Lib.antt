-- linear forms
pub mod Form
-- what forms are at raw numbers
pub mod FormValue
-- forms whose terms are in order
pub mod Order
-- the texts of forms
pub mod FormText
-- forms in reserved room
pub mod Draft
-- answers of calls that may lack memory
pub mod Refusal
-- words of private contracts
pub mod inner
