-- Laws of moving.
pub mod Routes
pub mod Sizes
pub mod Endings
pub mod Steps
pub mod Rows
pub mod Turns
pub mod Places
pub mod OneRecord
pub mod AllRecords
pub mod Numbered
pub mod Published
pub mod Laws
pub mod Known
