-- The laws of histories.
pub mod Rounds
pub mod Replies
pub mod History
pub mod Accepted
pub mod Cuts
pub mod Directions
