-- Laws of bench records.
pub mod Fields
pub mod Names
pub mod Places
pub mod Rules
pub mod Table
pub mod Lines
pub mod Chains
pub mod Forward
pub mod Backward
pub mod Bounds
pub mod Right
pub mod InForm
pub mod Written
pub mod Laws
pub mod TwoForms
pub mod Any
pub mod Known
