pub mod Limbs
pub mod LongDivisionLaws
