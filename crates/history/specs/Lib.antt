-- What lists of calls on a stream come to, and the demand that cutting a message does not matter.
pub mod History
pub mod Cuts
