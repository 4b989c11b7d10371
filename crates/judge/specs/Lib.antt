-- Judging records.
pub mod Difference
pub mod Verdicts
pub mod Steps
pub mod Laws
pub mod Before
