-- How an answer and a stream's state cross the C boundary, and what each stream call leaves there.
pub mod Word
pub mod Spelling
pub mod Laying
pub mod Calls
pub mod Laws
