-- The log of a chip's calls: its form, its reading, and what is promised of it.
pub mod Form
pub mod Calls
pub mod Inside
pub mod Laws
