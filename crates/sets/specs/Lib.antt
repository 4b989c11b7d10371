-- A row as the code holds it, the first tests of a start, and the sets before the later edition.
pub mod Rows
pub mod Start
pub mod Before
