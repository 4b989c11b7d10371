-- Digits: bytes in hex, numbers in decimals, and text put into lent room.
pub mod Room
pub mod Hex
pub mod LookUp
pub mod Numbers
pub mod Ascii
