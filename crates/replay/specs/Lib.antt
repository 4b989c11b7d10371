-- Replaying a log: what our stream gives, what is told of a log, and what is promised of it.
pub mod Cursor
pub mod Feeding
pub mod Replays
pub mod Laws
