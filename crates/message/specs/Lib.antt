-- The rules of whole messages.
pub mod Message
