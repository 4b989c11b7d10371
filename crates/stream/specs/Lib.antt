-- The rules of streams: which states are broken, and what each call answers.
pub mod State
pub mod Calls
pub mod Before
