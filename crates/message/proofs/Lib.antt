-- The laws of whole messages.
pub mod Tests
pub mod Whole
pub mod Bounds
pub mod Answered
pub mod Promise
