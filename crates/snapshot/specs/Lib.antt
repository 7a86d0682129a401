pub mod Form
pub mod Snapshot
pub mod FormLaws
pub mod JudgeLaws
pub mod ReadLaws
pub mod WriteLaws
pub mod PartLaws
