-- The laws of streams in areas.
pub mod Sizes
pub mod Areas
pub mod Cuts
