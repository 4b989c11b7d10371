-- Lines of text, and the column at which a text stops being one.
pub mod Column
pub mod Right
pub mod Steps
pub mod Laws
pub mod Tables
pub mod Texts
