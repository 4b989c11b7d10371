-- Laws of replaying a log.
pub mod Places
pub mod Stretches
pub mod Windows
pub mod Gives
pub mod Sound
pub mod Feeds
pub mod Compared
pub mod Agrees
pub mod Laws
