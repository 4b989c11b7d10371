-- Laws of the entries of published test files.
pub mod Table
pub mod Bounds
pub mod Forward
pub mod Backward
pub mod Laws
