-- The rules' table of answer numbers, and how an answer is chosen.
pub mod Numbers
pub mod Order
