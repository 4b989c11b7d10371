-- The laws by which the functions on words are the published ones on bytes.
pub mod Words
pub mod Ends
pub mod Fronts
