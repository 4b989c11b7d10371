-- What the calls answer.
pub mod Call
