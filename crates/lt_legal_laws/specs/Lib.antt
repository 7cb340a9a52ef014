-- what runs show is legal
pub mod Runs
