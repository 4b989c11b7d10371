-- Laws of reports.
pub mod Lengths
