-- Formulas over outputs and locals.
pub mod Formula
-- What formulas of the code stand for.
pub mod FormulaView
-- What expressions mean in an instant.
pub mod Meaning
-- How large a formula may be, and how much a space may be made for.
pub mod Size
-- The ranges of a scope.
pub mod Scope
-- Answers of calls that may lack memory.
pub mod Refusal
-- Formulas as lists of gates.
pub mod Circuit
-- What circuits stand for.
pub mod CircuitView
-- What spaces stand for.
pub mod SpaceView
-- Which Booleans a load evaluates.
pub mod Evaluated
-- What is said of atoms.
pub mod LoadedView
-- Formulas in which truths are absorbed, and their conjuncts.
pub mod Absorbed
-- Words of private contracts and of what private types keep.
pub mod inner
