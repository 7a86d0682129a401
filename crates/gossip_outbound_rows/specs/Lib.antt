pub mod Entry
pub mod EntryLaws
pub mod Rows
pub mod RowsLaws
