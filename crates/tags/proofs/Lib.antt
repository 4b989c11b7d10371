-- Laws of keys and tags.
pub mod Compared
