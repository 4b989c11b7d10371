-- Laws of lines.
pub mod Columns
pub mod Reach
pub mod Grammar
pub mod Numbers
pub mod Hex
pub mod Feeds
pub mod FoundLaws
pub mod Pairs
pub mod Laws
pub mod Walks
pub mod Inside
pub mod Tables
pub mod Rows
pub mod Texts
pub mod Readings
pub mod Values
pub mod Names
