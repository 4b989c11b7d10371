-- Laws of digits and numerals.
pub mod Room
pub mod Spelling
pub mod LookUp
pub mod Numerals
