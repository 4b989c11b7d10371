-- Laws of the entries of a chip's log.
pub mod Table
pub mod Forward
pub mod Backward
pub mod Bounds
pub mod Laws
