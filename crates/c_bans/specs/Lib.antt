pub mod Blame
pub mod Bans
pub mod BansLaws
pub mod Handed
