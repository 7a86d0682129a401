pub mod Entry
pub mod Rows
pub mod RowsLaws
pub mod Prune
pub mod PruneLaws
