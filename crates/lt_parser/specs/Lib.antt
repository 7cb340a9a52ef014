-- why a text is no program or no expression
pub mod Text
-- codes and places of refusals
pub mod Refusals
-- words of private contracts and of proofs
pub mod inner
