-- What the proofs of the calls lean on.
pub mod Sound
pub mod Tests
pub mod Before
pub mod Bounds
pub mod Lent
