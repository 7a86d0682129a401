pub mod Entry
pub mod Private
pub mod Rows
pub mod Room
pub mod RowsLaws
pub mod RankLaws
pub mod RoomLaws
