-- The bench record.
pub mod Form
pub mod Text
pub mod Calls
pub mod Laws
pub mod Known
