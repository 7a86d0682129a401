pub mod Room
pub mod RoomLaws
pub mod Private
