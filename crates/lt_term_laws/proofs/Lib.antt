mod Counting
mod Siblings
mod Scopes
mod Worths
