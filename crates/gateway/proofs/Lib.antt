-- Laws of the boundary: numbers and their bytes in a place, the spelling of a state, what the stream calls leave.
pub mod OneWord
pub mod Numbers
pub mod Laying
pub mod Spelling
pub mod OneToOne
pub mod Calls
