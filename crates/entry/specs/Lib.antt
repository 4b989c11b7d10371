-- The entries of published test files.
pub mod Form
pub mod Calls
pub mod Laws
