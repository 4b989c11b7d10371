-- Moving records from one kind of text to another.
pub mod Moves
pub mod Laws
pub mod Known
