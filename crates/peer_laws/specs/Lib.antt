pub mod OneOutcomeLaws
pub mod SoundLaws
pub mod CallLaws
pub mod RefusedLaws
pub mod PeerLaws
pub mod Fits
