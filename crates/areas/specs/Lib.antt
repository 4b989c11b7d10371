-- What lists of calls on a stream in an area of bytes come to, and the demand that cutting a message does not matter there.
pub mod Areas
pub mod Cuts
