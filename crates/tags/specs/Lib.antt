-- What the functions on keys and tags give.
pub mod Tags
