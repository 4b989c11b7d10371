-- The report on a record.
pub mod Reports
