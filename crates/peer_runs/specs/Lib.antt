pub mod Runs
pub mod SoundRunLaws
pub mod Effects
pub mod EffectLaws
