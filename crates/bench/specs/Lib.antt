-- The program's places, and how they show its run.
pub mod Lines
pub mod Progress
pub mod Input
pub mod Output
pub mod Whole
pub mod Moves
pub mod Decimal
pub mod Replays
pub mod Tasks
pub mod Wrong
