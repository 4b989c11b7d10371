-- The run of the bench's program: its counts, its turns, and what is promised of them.
pub mod Tallies
pub mod Run
pub mod Laws
