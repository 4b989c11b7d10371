-- Laws of judging.
pub mod Differences
pub mod Verdicts
pub mod Before
pub mod Windows
pub mod Sizes
pub mod Outputs
pub mod Laws
pub mod Ours
pub mod Made
