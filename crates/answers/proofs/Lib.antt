-- Laws of the answers.
pub mod Numbers
pub mod Order
