-- Laws of the places.
pub mod Lines
pub mod Stages
pub mod Views
pub mod Looks
pub mod Behind
pub mod Answers
pub mod Rooms
pub mod Replayed
pub mod Same
pub mod Wrong
