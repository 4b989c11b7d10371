-- Laws of the run.
pub mod Tallies
pub mod Stages
pub mod Turns
pub mod Keeps
pub mod Waits
pub mod Runs
