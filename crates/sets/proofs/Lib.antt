-- Laws of the table's rows, of the first tests of a start, and of sets 1 and 2 as they were.
pub mod Rows
pub mod Start
pub mod Before
